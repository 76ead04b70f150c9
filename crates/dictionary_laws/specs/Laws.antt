-- What holds of the dictionaries of a cobasis, in any space.
use Rattle.std.specs.Prelude.{◌≡◌, ◌≢◌, ◌↔◌, ℕ, ◌<◌, pos, ◌≤ℤ◌, List, length, remove, slice_index}
use Rattle.std.specs.List.{Contains}
use Rattle.poly_model.specs.Keys.{IsKey, with_label}
use Rattle.poly_model.specs.Systems.{Polyhedron, file_rows}
use Rattle.poly_model.specs.Spaces.{Space, IsStartCobasis, prepare_space, HasPoints}
use Rattle.poly_model.specs.Dictionaries.{Table, IsCobasis, Writes, IsDictionary}
use Rattle.linear_laws.specs.Distinct.{AreDistinct}
use Rattle.dictionary_laws.specs.Keys.{HaveSameLabels, Exchanges}
use Rattle.poly_model.specs.Equations.{HasPointOn}
use Rattle.poly_model.specs.Labels.{IsRow}
use Rattle.dictionary_laws.specs.Points.{AreSettled, RowsDetermine, ArePhasePoints}
use Rattle.dictionary_laws.specs.Numbers.{IsOwnRow, Agree, DividesNumbers, DividesOutside, ArePrimitive, IsGcdOfNumbers, divided}
use Rattle.dictionary_laws.specs.Exchange.{CanExchange, exchanged}
use Rattle.dictionary_laws.specs.Coordinates.{HasCoordinates, coordinate_key, coordinate_table, ArePhaseCoordinates, AreCoordinateLabels}
use Rattle.dictionary_laws.specs.MainSpace.{CanEnterMain, EntersMain}

-- in numbers that write the labels over a cobasis, each label of the key has its own row
abbrev pub OwnEntries : Type 0
OwnEntries =
    (space : Space) (key : List ℕ) (t : Table) → IsCobasis space key → Writes space key t →
    (k : ℕ) → Contains key k → IsOwnRow space key t k

-- dictionaries of keys with the same labels agree
abbrev pub OneDictionary : Type 0
OneDictionary =
    (space : Space) (key other : List ℕ) (t u : Table) → HaveSameLabels key other →
    IsDictionary space key t → IsDictionary space other u → Agree space key t u

-- a dictionary of a key is one of each list of the same labels, each once
abbrev pub AnyOrder : Type 0
AnyOrder =
    (space : Space) (key other : List ℕ) (t : Table) → HaveSameLabels key other →
    AreDistinct other → IsDictionary space key t → IsDictionary space other t

-- a table that agrees with a dictionary is one: so the key gives these numbers, and no others
abbrev pub AgreeingTables : Type 0
AgreeingTables =
    (space : Space) (key : List ℕ) (t u : Table) → IsDictionary space key t →
    Agree space key t u → IsDictionary space key u

-- a cobasis has a dictionary
abbrev pub SomeDictionary : Type 0
SomeDictionary =
    (space : Space) (key : List ℕ) → IsCobasis space key → (t : Table) × IsDictionary space key t

-- of numbers that write the labels over a cobasis, the denominator is least exactly where only 1
-- divides all
abbrev pub LeastByDivisors : Type 0
LeastByDivisors =
    (space : Space) (key : List ℕ) (t : Table) → HasPoints space → IsCobasis space key →
    Writes space key t →
    ((u : Table) → Writes space key u → t.denominator ≤ℤ u.denominator) ↔ ArePrimitive space key t

-- a cobasis has fewer labels than the vectors have entries
abbrev pub CobasisIsNarrow : Type 0
CobasisIsNarrow =
    (space : Space) (key : List ℕ) → HasPoints space → IsCobasis space key → length key < space.n

-- numbers that have a greatest common divisor and are, without it, the dictionary
pub record ReducesToDictionary (space : Space) (key : List ℕ) (t : Table) : Type 0 where
  pub some : (g : ℕ) × IsGcdOfNumbers space key t g
  pub dictionary : (g : ℕ) → IsGcdOfNumbers space key t g → IsDictionary space key (divided t g)

-- all numbers that write the labels over a cobasis are such
abbrev pub Reduction : Type 0
Reduction =
    (space : Space) (key : List ℕ) (t : Table) → HasPoints space → IsCobasis space key →
    Writes space key t → ReducesToDictionary space key t

-- what divides the denominator and the rows of the labels outside the key divides all numbers
abbrev pub OutsideNumbers : Type 0
OutsideNumbers =
    (space : Space) (key : List ℕ) (t : Table) (d : ℕ) → HasPoints space → IsCobasis space key →
    Writes space key t → DividesOutside space key t d → DividesNumbers space key t d

-- r outside the key can take the place of s exactly where the entry at (r, s) is not 0
abbrev pub ExchangedCobasis : Type 0
ExchangedCobasis =
    (space : Space) (key new : List ℕ) (t : Table) (r s : ℕ) → IsCobasis space key →
    Writes space key t → Contains space.labels r → (Contains key r → ⊥) → Contains key s →
    Exchanges key new r s → IsCobasis space new ↔ (t.entry r s ≢ pos 0)

-- the exchanged numbers write the labels in the new key
abbrev pub ExchangedNumbers : Type 0
ExchangedNumbers =
    (space : Space) (key new : List ℕ) (t : Table) (r s : ℕ) → IsCobasis space key →
    Writes space key t → CanExchange space key t r s → Exchanges key new r s →
    Writes space new (exchanged t r s)

-- without their greatest common divisor they are its dictionary
abbrev pub ExchangedDictionary : Type 0
ExchangedDictionary =
    (space : Space) (key new : List ℕ) (t : Table) (r s g : ℕ) → HasPoints space →
    IsDictionary space key t → CanExchange space key t r s → Exchanges key new r s →
    IsGcdOfNumbers space new (exchanged t r s) g →
    IsDictionary space new (divided (exchanged t r s) g)

-- a key that has r in the place of s
pub record IsExchangedKey (old new : List ℕ) (r s : ℕ) : Type 0 where
  pub exchanges : Exchanges old new r s
  pub is_key : IsKey new

-- a key without its label at a place, and with a new label, is such a key
abbrev pub ExchangedKey : Type 0
ExchangedKey =
    (key : List ℕ) (r at : ℕ) → IsKey key → (Contains key r → ⊥) → at < length key →
    IsExchangedKey key (with_label r (remove key at)) r (slice_index key at)

-- the start cobasis is there and is one; where the rows determine a direction, it is a cobasis
pub record AreStartLaws (space : Space) : Type 0 where
  pub some : (start : List ℕ) × IsStartCobasis space start
  pub one : (start other : List ℕ) → IsStartCobasis space start → IsStartCobasis space other →
      start ≡ other
  pub cobasis : RowsDetermine space → (start : List ℕ) → IsStartCobasis space start →
      IsCobasis space start

-- these hold in each space
abbrev pub StartLaws : Type 0
StartLaws = (space : Space) → AreStartLaws space

-- the spaces of the phases have points, save the main space of an H file
abbrev pub PhasePoints : Type 0
PhasePoints = (p : Polyhedron) → ArePhasePoints p

-- settled equations have a common point exactly where the constant of each is 0
abbrev pub PointOfEquations : Type 0
PointOfEquations =
    (space : Space) (key equations : List ℕ) (t : Table) → HasPoints space → IsCobasis space key →
    Writes space key t → ((i : ℕ) → Contains equations i → Contains space.labels i) →
    AreSettled key t equations →
    HasPointOn space equations ↔ ((i : ℕ) → Contains equations i → t.constant i ≡ pos 0)

-- the coordinates are a cobasis, and its dictionary has the entries of the forms
abbrev pub CoordinateDictionary : Type 0
CoordinateDictionary =
    (space : Space) (key : List ℕ) → HasCoordinates space key → AreDistinct key →
    IsDictionary space key (coordinate_table space key)

-- the first two phases have such spaces
abbrev pub PhaseCoordinates : Type 0
PhaseCoordinates = (p : Polyhedron) → ArePhaseCoordinates p

-- the keys of coordinates are ascending labels of coordinates
abbrev pub CoordinateKeys : Type 0
CoordinateKeys = (j n : ℕ) → AreCoordinateLabels (coordinate_key j n)

-- a dictionary of the file's rows, without its equations and free coordinates, is one of the main space
-- up to a common divisor. No label of a row may be that of a coordinate
abbrev pub MainDictionary : Type 0
MainDictionary =
    (p : Polyhedron) (free key : List ℕ) (t : Table) → IsRow (length (file_rows p)) →
    IsDictionary (prepare_space p) key t → CanEnterMain p free key t → EntersMain p free key t
