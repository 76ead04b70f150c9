-- The rows of a system as lists of vectors: all of them, those that pass a test, and the fixed rows,
-- which are the coordinates of columns and the linear rows.
use Rattle.std.proofs.Common.{◌≡◌, Bool, true, false, cond, ℕ, zero, suc, ℤ, pos, negsuc, List, [], ◌∷◌, map, refl, sym, ap, subst, ◌∙◌}
use Rattle.std.specs.List.{AllByRecursion, All, Contains}
use Rattle.std.proofs.lemmas.List.Elements.{All-from_recursion, recursion_from_All}
use Rattle.poly_num.specs.Vectors.{Vector, ◌·◌}
use Rattle.poly_model.specs.Independence.{Vanish}
use Rattle.poly_model.specs.Systems.{Row, System}
use Rattle.poly_model.specs.Cones.{at, IsTight, coordinate}
use Rattle.poly_model.specs.Spaces.{linear_rows}
use Rattle.linear_laws.proofs.AllLemmas.{all_left, all_right, all_both, all_weaker, all_from_map, all_to_map}
use Rattle.linear_laws.proofs.Entries.{coordinate_reads}
use Rattle.linear_laws.proofs.Members.{Contains-first, Contains-later, all_at}
use Rattle.cone_laws.specs.Faces.{is_zero, entries_where, tight_rows, fixed_rows}

-- ---- all rows
abbrev pub forms_of : System → List Vector
forms_of sys = map (λ row. row.entries) sys.rows

pub forms_from_rows : (P : Vector → Type 0) (sys : System) →
    All (λ row. P row.entries) sys.rows → AllByRecursion P (forms_of sys)
forms_from_rows P sys h =
    all_to_map P (λ row. row.entries) sys.rows (recursion_from_All (λ row. P row.entries) sys.rows h)

pub rows_from_forms : (P : Vector → Type 0) (sys : System) →
    AllByRecursion P (forms_of sys) → All (λ row. P row.entries) sys.rows
rows_from_forms P sys h =
    All-from_recursion (λ row. P row.entries) sys.rows (all_from_map P (λ row. row.entries) sys.rows h)

-- ---- the rows that pass a test
module _ (P : Vector → Type 0) (test : Row → Bool) where
  all_where : (rows : List Row) → AllByRecursion (λ row. test row ≡ true → P row.entries) rows →
      AllByRecursion P (entries_where test rows)
  all_where [] h = tt
  all_where (row ∷ rows) h = by (test row) h.0 (all_where rows h.1)
    where
      by : (b : Bool) → (b ≡ true → P row.entries) → AllByRecursion P (entries_where test rows) →
          AllByRecursion P (cond b (row.entries ∷ entries_where test rows) (entries_where test rows))
      by true h r = (h refl, r)
      by false h r = r

  where_all : (rows : List Row) → AllByRecursion P (entries_where test rows) →
      AllByRecursion (λ row. test row ≡ true → P row.entries) rows
  where_all [] v = tt
  where_all (row ∷ rows) v = by (test row) v (λ r. where_all rows r)
    where
      by : (b : Bool) →
          AllByRecursion P (cond b (row.entries ∷ entries_where test rows) (entries_where test rows)) →
          (AllByRecursion P (entries_where test rows) →
          AllByRecursion (λ row. test row ≡ true → P row.entries) rows) →
          (b ≡ true → P row.entries) × AllByRecursion (λ row. test row ≡ true → P row.entries) rows
      by true v go = (λ e. v.0, go v.1)
      by false v go = (λ e. absurd (cc), go v)

  pub entries_from_rows : (rows : List Row) → All (λ row. test row ≡ true → P row.entries) rows →
      AllByRecursion P (entries_where test rows)
  entries_from_rows rows h = all_where rows (recursion_from_All (λ row. test row ≡ true → P row.entries) rows h)

  pub rows_from_entries : (rows : List Row) → AllByRecursion P (entries_where test rows) →
      All (λ row. test row ≡ true → P row.entries) rows
  rows_from_entries rows v = All-from_recursion (λ row. test row ≡ true → P row.entries) rows (where_all rows v)

-- ---- the rows that are tight at y
pub is_zero-true : (x : ℤ) → is_zero x ≡ true → x ≡ pos 0
is_zero-true (pos zero) h = refl
is_zero-true (pos (suc n)) h = cc
is_zero-true (negsuc n) h = cc

module _ (y z : Vector) (rows : List Row) where
  pub vanish_tight : All (λ row. IsTight y row → IsTight z row) rows → Vanish (tight_rows y rows) z
  vanish_tight h =
      entries_from_rows (λ g. g · z ≡ pos 0) (λ row. is_zero (row.entries · y)) rows
      (λ k d lt e. h k d lt (is_zero-true _ e))

  pub tight_tight : Vanish (tight_rows y rows) z → All (λ row. IsTight y row → IsTight z row) rows
  tight_tight v k d lt e =
      rows_from_entries (λ g. g · z ≡ pos 0) (λ row. is_zero (row.entries · y)) rows v k d lt (ap is_zero e)

-- ---- the linear rows
linear_rows-where : (rows : List Row) → linear_rows rows ≡ entries_where (λ row. row.linear) rows
linear_rows-where [] = refl
linear_rows-where (row ∷ rows) = ap (λ gs. cond row.linear (row.entries ∷ gs) gs) (linear_rows-where rows)

-- each linear row is 0 at z
abbrev pub LinearRowsVanish : List Row → Vector → Type 0
LinearRowsVanish rows z = All (λ row. row.linear ≡ true → IsTight z row) rows

vanish_linear : (z : Vector) (rows : List Row) → LinearRowsVanish rows z → Vanish (linear_rows rows) z
vanish_linear z rows h =
    subst (λ gs. Vanish gs z) (sym (linear_rows-where rows))
    (entries_from_rows (λ g. g · z ≡ pos 0) (λ row. row.linear) rows h)

linear_vanish : (z : Vector) (rows : List Row) → Vanish (linear_rows rows) z → LinearRowsVanish rows z
linear_vanish z rows v =
    rows_from_entries (λ g. g · z ≡ pos 0) (λ row. row.linear) rows
    (subst (λ gs. Vanish gs z) (linear_rows-where rows) v)

-- ---- the coordinates of columns
-- z is 0 at the columns
abbrev pub IsZeroAt : List ℕ → Vector → Type 0
IsZeroAt columns z = (j : ℕ) → Contains columns j → at j z ≡ pos 0

vanish_coordinates : (js : List ℕ) (z : Vector) → IsZeroAt js z → Vanish (map coordinate js) z
vanish_coordinates [] z h = tt
vanish_coordinates (j ∷ js) z h = (
  coordinate_reads j z ∙ h j (Contains-first j js),
  vanish_coordinates js z (λ k m. h k (Contains-later k j js m)),
)

zero_at_coordinates : (js : List ℕ) (z : Vector) → Vanish (map coordinate js) z → IsZeroAt js z
zero_at_coordinates js z v =
    all_at (λ j. at j z ≡ pos 0) js
    (all_weaker (λ j. coordinate j · z ≡ pos 0) (λ j. at j z ≡ pos 0) (λ j e. sym (coordinate_reads j z) ∙ e) js
    (all_from_map (λ g. g · z ≡ pos 0) coordinate js v))

-- ---- the fixed rows
module _ (columns : List ℕ) (sys : System) (z : Vector) where
  pub fixed_vanish : IsZeroAt columns z → LinearRowsVanish sys.rows z → Vanish (fixed_rows columns sys) z
  fixed_vanish h l =
      all_both (λ g. g · z ≡ pos 0) (map coordinate columns) (linear_rows sys.rows)
      (vanish_coordinates columns z h) (vanish_linear z sys.rows l)

  pub zero_at_fixed : Vanish (fixed_rows columns sys) z → IsZeroAt columns z
  zero_at_fixed v =
      zero_at_coordinates columns z
      (all_left (λ g. g · z ≡ pos 0) (map coordinate columns) (linear_rows sys.rows) v)

  pub linear_from_fixed : Vanish (fixed_rows columns sys) z → LinearRowsVanish sys.rows z
  linear_from_fixed v =
      linear_vanish z sys.rows
      (all_right (λ g. g · z ≡ pos 0) (map coordinate columns) (linear_rows sys.rows) v)
