-- Over a frame, the first independent list of the rows tight at a column is read off the entries.
use Rattle.std.proofs.Common.{◌≡◌, ◌↔◌, Bool, true, false, ℕ, ◌≤◌, ℤ, pos, List, [], ◌∷◌, ◌++◌, length, sym, ◌∙◌, subst, arith}
use Rattle.std.specs.List.{AllByRecursion}
use Rattle.poly_num.specs.Vectors.{Vector, ◌·◌}
use Rattle.poly_model.specs.Independence.{Follows, IsNew}
use Rattle.linear_laws.specs.Frames.{Column, rows_of, IsVectorOn, IsFrame, RowsVanish, EntriesVanish}
use Rattle.linear_laws.specs.LocalTest.{AreFirstTight, marked_rows, PassesTest, HaveSameZeros}
use Rattle.linear_laws.proofs.AllLemmas.{all_left, all_right}
use Rattle.linear_laws.proofs.Columns.{frame_out, frame_in, rows_vanish_at, later_rows_vanish, vanish_from_columns, columns_from_vanish, zero_in_parts}

-- ---- one row
entries_from_follows : {n : ℕ} (before : List Column) (g : Vector) (ls : List Column) →
    AllByRecursion (λ l. IsVectorOn n [] l.dual) ls → AllByRecursion (λ l. RowsVanish before l.dual) ls →
    Follows n (rows_of before) g → EntriesVanish g ls
entries_from_follows before g [] w d h = tt
entries_from_follows before g (l ∷ ls) w d h =
    (h l.dual w.0.0 (vanish_from_columns before l.dual d.0), entries_from_follows before g ls w.1 d.1 h)

pub row_test : (n : ℕ) (D : ℤ) (c : Column) (later before : List Column) (g : Vector) →
    IsFrame n D ((c ∷ later) ++ before) → g · c.dual ≡ pos 0 →
    EntriesVanish g later ↔ Follows n (rows_of before) g
row_test n D c later before g f t = (
  λ h y l v. zero_in_parts (c ∷ later) before f g y (l, tt) (t, h) (columns_from_vanish before y v),
  λ h. entries_from_follows before g later (all_left (λ l. IsVectorOn n [] l.dual) later before f.inside.1)
      (later_rows_vanish D later before f.duals.2) h,
)

-- ---- the first of the later columns
module _ {n : ℕ} {D : ℤ} (c l : Column) (later before : List Column) (f : IsFrame n D ((c ∷ l ∷ later) ++ before)) where
  -- it goes over to those before
  pub taken_over : IsFrame n D ((c ∷ later) ++ l ∷ before)
  taken_over = frame_in (c ∷ later) l before (frame_out (c ∷ []) l (later ++ before) f)

  pub new_over : IsNew n (rows_of before) l.row
  new_over =
      let k : IsFrame n D (l ∷ c ∷ later ++ before) = frame_out (c ∷ []) l (later ++ before) f in
      let all = rows_vanish_at l (c ∷ later ++ before) k.duals.1 in
      let here = all_right (λ b. b.row · l.dual ≡ pos 0) (c ∷ later) before all in
      (l.dual, k.inside.0.0, vanish_from_columns before l.dual here, λ e. k.nonzero (sym k.duals.0 ∙ e))

-- ---- all rows
-- `bs` are the rows of the columns before
pub test_is_first : (n : ℕ) (D : ℤ) (c : Column) (later before : List Column) (bs : List Vector) (y : Vector)
    (gs : List Vector) (ms : List Bool) → IsFrame n D ((c ∷ later) ++ before) → rows_of before ≡ bs →
    rows_of later ≡ marked_rows gs ms → length ms ≤ length gs → HaveSameZeros y c.dual →
    PassesTest c later gs ms ↔ AreFirstTight n bs y gs ms
test_is_first n D c later before bs y gs [] f e m l z = (λ h. tt, λ h. tt)
test_is_first n D c later before bs y [] (b ∷ ms) f e m l z = absurd (omega arith)
test_is_first n D c [] before bs y (g ∷ gs) (true ∷ ms) f e m l z = absurd (no_row (marked_rows gs ms) m)
  where
    no_row : (xs : List Vector) → [] ≡ g ∷ xs → ⊥
    no_row xs k = cc
test_is_first n D c (a ∷ later) before bs y (g ∷ gs) (true ∷ ms) f e m l z =
    let same : a.row ≡ g = cc in
    let others : rows_of later ≡ marked_rows gs ms = cc in
    let heads : a.row ∷ rows_of before ≡ g ∷ bs = cc in
    let tight = (z g).1 (subst (λ t. t · c.dual ≡ pos 0) same f.duals.1.0.1) in
    let new = subst (λ t. IsNew n bs t) same (subst (λ t. IsNew n t a.row) e (new_over c a later before f)) in
    let k = taken_over c a later before f in
    let go = test_is_first n D c later (a ∷ before) (g ∷ bs) y gs ms k heads others (omega arith) z in
    (λ h. (tight, new, go.0 h), λ h. go.1 h.2)
test_is_first n D c later before bs y (g ∷ gs) (false ∷ ms) f e m l z =
    let go = test_is_first n D c later before bs y gs ms f e m (omega arith) z in (
      λ h. (
        λ t. let k = (z g).0 t in subst (λ s. Follows n s g) e ((row_test n D c later before g f k).0 (h.0 k)),
        go.0 h.1,
      ),
      λ h. (
        λ k. (row_test n D c later before g f k).1 (subst (λ s. Follows n s g) (sym e) (h.0 ((z g).1 k))),
        go.1 h.1,
      ),
    )
