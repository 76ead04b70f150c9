-- What follows from the definitions: one reading for each text, and what scaling keeps.
use Rattle.std.specs.Prelude.{◌≡◌, ◌⊎◌, ℕ, ◌<◌, length, List, [], ◌∷◌, Ok, pos, ◌*ℤ◌}
use Rattle.std.specs.List.{AllByRecursion}
use Rattle.poly_num.specs.Vectors.{Vector, IsZero, IsPrimitive}
use Rattle.poly_num.specs.Fractions.{Fraction, IsReduced}
use Rattle.poly_model.specs.Systems.{Polyhedron}
use Rattle.poly_reader.specs.declared.bad.BadFile.{BadFile}
use Rattle.poly_reader.specs.Lines.{Word}
use Rattle.poly_reader.specs.Rows.{numbers_in}
use Rattle.poly_reader.specs.Reading.{IsFileOf, IsFirstFault}

-- a text has exactly one of a polyhedron and a first fault
pub record HasOneReading (text : List ℕ) : Type 0 where
  -- it has one of the two
  pub some : ((p : Polyhedron) × IsFileOf text p) ⊎ ((f : BadFile) × IsFirstFault text f)
  -- it has not both
  pub not_both : (p : Polyhedron) (f : BadFile) → IsFileOf text p → IsFirstFault text f → ⊥
  -- it describes one polyhedron
  pub one_polyhedron : (p q : Polyhedron) → IsFileOf text p → IsFileOf text q → p ≡ q
  -- it has one first fault
  pub one_fault : (f g : BadFile) → IsFirstFault text f → IsFirstFault text g → f ≡ g

-- each entry is a / b times the fraction at its place
abbrev pub IsTimes : ℕ → ℕ → List Fraction → Vector → Type 0
IsTimes a b [] [] = Unit {0}
IsTimes a b (f ∷ row) (z ∷ entries) = (pos b *ℤ (z *ℤ f.den) ≡ pos a *ℤ f.num) × IsTimes a b row entries
IsTimes a b _ _ = ⊥

-- zero or without common divisor, and a positive multiple of the row of fractions
pub record IsDirectionOf (row : List Fraction) (entries : Vector) : Type 0 where
  pub smallest : IsZero entries ⊎ IsPrimitive entries
  pub multiple : (a : ℕ) × (b : ℕ) × (0 < a) × (0 < b) × IsTimes a b row entries

-- each is a fraction in lowest terms
abbrev pub AreReduced : List Fraction → Type 0
AreReduced row = AllByRecursion IsReduced row

-- the numbers that the matrix counts are all read in a second pass
pub record AreReadAgain (last count : ℕ) (words : List Word) : Type 0 where
  pub numbers : List Fraction
  pub read : numbers_in last count words ≡ Ok numbers
  pub whole : length numbers ≡ count
