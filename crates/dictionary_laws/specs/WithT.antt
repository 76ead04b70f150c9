-- The numbers of a start cobasis in the space with one unknown more, t, which is row 0.
use Rattle.std.specs.Prelude.{ℕ, ◌==◌, if◌then◌else◌, pos, ◌*ℤ◌, List}
use Rattle.poly_model.specs.Spaces.{lift_of}
use Rattle.poly_model.specs.Dictionaries.{Table}

-- the numbers of a start cobasis, with a row and a column for t
abbrev pub with_t : List ℕ → Table → Table
with_t start t = record {
  denominator = t.denominator;
  constant = λ i. if i == 0 then pos 0 else t.constant i;
  entry = λ i k.
      if k == 0
      then (if i == 0 then t.denominator else t.denominator *ℤ lift_of start i)
      else (if i == 0 then pos 0 else t.entry i k);
}
