-- Two rows of the ratio test, and where their lists differ.
use Rattle.std.specs.Prelude.{◌≡◌, ◌⊎◌, ◌==◌, ℕ, ◌<◌, ℤ, pos, ◌<ℤ◌, ◌-ℤ◌, ◌*ℤ◌, true, false, if◌then◌else◌, List, Option, Some, None}
use Rattle.std.specs.declared.cmp.Ordering.{Ordering}
use Rattle.std.specs.declared.cmp.Ordering.TheVariants.{Less, Equal, Greater}
use Rattle.poly_model.specs.Dictionaries.{Table}
use Rattle.poly_model.specs.LexOrder.{gaps, listed_at, list_of}
use Rattle.dictionary.specs.Views.{Dictionary, table_of}
use Rattle.lex_pivot.specs.Earlier.{is_before_root}
use Rattle.lex_pivot.specs.Places.{IsRowAt}
use Rattle.lex_pivot.specs.declared.candidates.Candidate.{Candidate}
use Rattle.lex_pivot.specs.declared.candidates.Pair.{Pair}

-- a row outside the cobasis, its place among the rows of cells, and a positive factor
pub record IsPlaced (d : Dictionary) (c : Candidate ℤ) : Type 0 where
  pub at : IsRowAt d c.place c.row
  pub over : pos 0 <ℤ c.over

-- two of these
pub record ArePair (d : Dictionary) (pair : Pair ℤ) : Type 0 where
  pub one : IsPlaced d pair.one
  pub other : IsPlaced d pair.other

-- the list of `row` times the other's factor, less that of `other` times its own
abbrev pub pair_gaps : Dictionary → List ℕ → Pair ℤ → List ℤ
pair_gaps d root pair =
    gaps pair.other.over (list_of d.labels root d.key (table_of d) pair.one.row) pair.one.over
    (list_of d.labels root d.key (table_of d) pair.other.row)

-- the first of these numbers
abbrev pub constant_gap : Table → Pair ℤ → ℤ
constant_gap t pair = pair.other.over *ℤ t.constant pair.one.row -ℤ pair.one.over *ℤ t.constant pair.other.row

-- that at row k
abbrev pub gap_at : List ℕ → Table → Pair ℤ → ℕ → ℤ
gap_at key t pair k = pair.other.over *ℤ listed_at key t pair.one.row k -ℤ pair.one.over *ℤ listed_at key t pair.other.row k

-- of rows `one` and `other` the first that is outside the root
pub record IsEndAt (root : List ℕ) (one other end : ℕ) : Type 0 where
  pub row : (end ≡ one) ⊎ (end ≡ other)
  pub before : is_before_root root end ≡ true
  pub first : is_before_root root one ≡ true → one < end → ⊥
  pub second : is_before_root root other ≡ true → other < end → ⊥

-- neither is outside the root
pub record HasNoEnd (root : List ℕ) (one other : ℕ) : Type 0 where
  pub first : is_before_root root one ≡ false
  pub second : is_before_root root other ≡ false

abbrev pub IsEnd : List ℕ → ℕ → ℕ → Option ℕ → Type 0
IsEnd root one other (Some end) = IsEndAt root one other end
IsEnd root one other None = HasNoEnd root one other

-- the label is greater than the end
abbrev pub IsPastEnd : ℕ → Option ℕ → Type 0
IsPastEnd k (Some end) = end < k
IsPastEnd k None = ⊥

-- the sign at the end, where the list of that row is positive and the other is 0
abbrev pub end_sign : ℕ → Option ℕ → Ordering
end_sign one (Some end) = if end == one then Greater else Less
end_sign one None = Equal
