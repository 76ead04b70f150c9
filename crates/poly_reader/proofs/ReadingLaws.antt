-- A text has exactly one of a polyhedron and a first fault.
use Rattle.std.proofs.Common.{◌≡◌, ◌⊎◌, ℕ, List, Result, Ok, Err, refl, inl, inr}
use Rattle.poly_model.specs.Systems.{Polyhedron}
use Rattle.poly_reader.specs.declared.bad.BadFile.{BadFile}
use Rattle.poly_reader.specs.Reading.{reading, IsFileOf, IsFirstFault}
use Rattle.poly_reader.specs.Laws.{HasOneReading}

some_reading : (text : List ℕ) (r : Result Polyhedron BadFile) → reading text ≡ r
    → ((p : Polyhedron) × IsFileOf text p) ⊎ ((f : BadFile) × IsFirstFault text f)
some_reading text (Ok p) e = inl (p, e)
some_reading text (Err f) e = inr (f, e)

pub one_reading : (text : List ℕ) → HasOneReading text
one_reading text = record {
  some = some_reading text (reading text) refl;
  not_both = λ p f a b. absurd cc;
  one_polyhedron = λ p q a b. cc;
  one_fault = λ f g a b. cc;
}
