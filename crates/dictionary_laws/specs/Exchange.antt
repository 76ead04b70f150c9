-- The exchange of a label outside the key for one inside it, and the numbers after it.
use Rattle.std.specs.Prelude.{◌≢◌, ℕ, ◌==◌, if◌then◌else◌, ℤ, pos, ◌*ℤ◌, ◌-ℤ◌, List}
use Rattle.std.specs.List.{Contains}
use Rattle.poly_num.specs.Fractions.{turned_by}
use Rattle.poly_model.specs.Spaces.{Space}
use Rattle.poly_model.specs.Dictionaries.{Table}

-- r is a label outside the key, s is in it, and the entry at (r, s) is not 0
pub record CanExchange (space : Space) (key : List ℕ) (t : Table) (r s : ℕ) : Type 0 where
  pub label : Contains space.labels r
  pub outside : Contains key r → ⊥
  pub inside : Contains key s
  pub nonzero : t.entry r s ≢ pos 0

module _ (t : Table) (r s : ℕ) where
  -- the entry at (i, j) when r has taken the place of s, before any sign is turned
  abbrev pub exchanged_entry : ℕ → ℕ → ℤ
  exchanged_entry i j =
      if j == r then t.entry i s *ℤ t.denominator
      else (t.entry i j *ℤ t.entry r s -ℤ t.entry i s *ℤ t.entry r j)

  -- the numbers when r has taken the place of s, signs turned where the entry at (r, s) is negative
  abbrev pub exchanged : Table
  exchanged = record {
    denominator = turned_by (t.entry r s) (t.denominator *ℤ t.entry r s);
    constant = λ i.
        turned_by (t.entry r s) (t.constant i *ℤ t.entry r s -ℤ t.entry i s *ℤ t.constant r);
    entry = λ i j. turned_by (t.entry r s) (exchanged_entry i j);
  }
