-- The ratio test, row by row.
use Rattle.std.specs.Prelude.{◌≡◌, ◌≢◌, ◌⊎◌, ℕ, ℤ, pos, neg_ℤ, ◌<ℤ◌, ◌≤ℤ◌, List, Option, Some, None, IfSome, option_map}
use Rattle.std.specs.List.{Contains}
use Rattle.std.specs.Option.{MatchOption}
use Rattle.poly_model.specs.Dictionaries.{Table}
use Rattle.poly_model.specs.LexOrder.{IsNonnegative}
use Rattle.poly_model.specs.Tree.{IsRowOutside, ratio_gaps}
use Rattle.dictionary.specs.Views.{Dictionary, table_of}
use Rattle.std.specs.declared.cmp.Ordering.TheVariants.{Less}
use Rattle.poly_num.specs.Signs.{lex_sign_of}
use Rattle.lex_pivot.specs.declared.candidates.Candidate.{Candidate}
use Rattle.lex_pivot.specs.Pairs.{pair_gaps}
use Rattle.lex_pivot.specs.Places.{IsRowAt}

-- no row outside the cobasis is negative in the column of s
abbrev pub NoneLeaves : Dictionary → ℕ → Type 0
NoneLeaves d s = (i : ℕ) → IsRowOutside d.labels d.key i → pos 0 ≤ℤ Table.entry (table_of d) i s

-- a row outside the cobasis that is negative in the column of s
pub record IsCandidate (d : Dictionary) (s i : ℕ) : Type 0 where
  pub row : IsRowOutside d.labels d.key i
  pub negative : Table.entry (table_of d) i s <ℤ pos 0

-- r is one of these rows, and of the candidates among them it has the least list over minus its entry
pub record IsLeastOf (d : Dictionary) (root : List ℕ) (s : ℕ) (rows : List ℕ) (r : ℕ) : Type 0 where
  pub member : Contains rows r
  pub candidate : IsCandidate d s r
  pub least : (i : ℕ) → Contains rows i → IsCandidate d s i →
      IsNonnegative (ratio_gaps d.labels root d.key (table_of d) s r i)

-- the least candidate among these rows, if there is one
abbrev pub IsBest : Dictionary → List ℕ → ℕ → List ℕ → Option ℕ → Type 0
IsBest d root s rows best =
    MatchOption best ((i : ℕ) → Contains rows i → IsCandidate d s i → ⊥) (λ r. IsLeastOf d root s rows r)

-- ---- candidates at their places
-- with minus the entry in the column of s
pub record IsCandidateAt (d : Dictionary) (s : ℕ) (c : Candidate ℤ) : Type 0 where
  pub at : IsRowAt d c.place c.row
  pub negative : Table.entry (table_of d) c.row s <ℤ pos 0
  pub over : c.over ≡ neg_ℤ (Table.entry (table_of d) c.row s)

-- the list of `one` is less than that of `other`, each over its own factor
abbrev pub IsLess : Dictionary → List ℕ → Candidate ℤ → Candidate ℤ → Type 0
IsLess d root one other = lex_sign_of (pair_gaps d root (record { one = one; other = other })) ≡ Less

-- of two candidates at different places it is the next one exactly where its list is less
abbrev pub IsBetter : Dictionary → List ℕ → Option (Candidate ℤ) → Candidate ℤ → Candidate ℤ → Type 0
IsBetter d root None next c = c ≡ next
IsBetter d root (Some before) next c =
    next.row ≢ before.row →
    (IsLess d root next before × (c ≡ next)) ⊎ ((IsLess d root next before → ⊥) × (c ≡ before))

-- the row of a candidate
abbrev pub candidate_row : Option (Candidate ℤ) → Option ℕ
candidate_row best = option_map (λ c. c.row) best

-- the least candidate among these rows, if there is one
pub record IsBestAt (d : Dictionary) (root : List ℕ) (s : ℕ) (rows : List ℕ) (best : Option (Candidate ℤ)) : Type 0 where
  pub at_place : IfSome best (λ c. IsCandidateAt d s c)
  pub least : IsBest d root s rows (candidate_row best)
