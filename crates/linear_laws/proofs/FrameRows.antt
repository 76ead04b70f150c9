-- Rows and frames: n rows that are new one over another have a frame, the rows of a frame are such
-- rows, a row has one dual vector, and a frame without the columns of some rows is one of the space on
-- which these are 0.
use Rattle.std.proofs.Common.{◌≡◌, ◌≢◌, ◌↔◌, ℕ, ◌+◌, ℤ, pos, List, [], ◌∷◌, ◌++◌, length, refl, sym, ap, ◌∙◌, subst, arith}
use Rattle.std.proofs.lemmas.List.{length-map}
use Rattle.std.specs.List.{AllByRecursion}
use Rattle.poly_num.specs.Vectors.{Vector, ◌·◌, scale}
use Rattle.poly_num.proofs.Ring.{lin}
use Rattle.poly_model.specs.Independence.{Vanish}
use Rattle.linear_laws.specs.Frames.{Column, rows_of, AreApart, AreDual, IsVectorOn, IsFrameOn, IsFrame, RowsVanish}
use Rattle.linear_laws.specs.NewRows.{AreNew}
use Rattle.linear_laws.proofs.AllLemmas.{all_right, all_always}
use Rattle.linear_laws.proofs.Columns.{rows_vanish_at, vanish_from_columns, columns_from_vanish, expand-append, expand_rows_zero, along_first, zero_where_rows}
use Rattle.linear_laws.proofs.Elimination.{Reached}
use Rattle.linear_laws.proofs.FirstBases.{reach}

-- ---- the rows of a frame
new_rows : (n : ℕ) (fixed : List Vector) (D : ℤ) (cs : List Column) → D ≢ pos 0 →
    AllByRecursion (λ c. IsVectorOn n fixed c.dual) cs → AreDual D cs → AreNew n (rows_of cs)
new_rows n fixed D [] nz w d = tt
new_rows n fixed D (c ∷ cs) nz w d = (
  (c.dual, w.0.0, vanish_from_columns cs c.dual (rows_vanish_at c cs d.1), λ e. nz (sym d.0 ∙ e)),
  new_rows n fixed D cs nz w.1 d.2,
)

pub new_from_frame : (n : ℕ) (fixed : List Vector) (D : ℤ) (cs : List Column) → IsFrameOn n fixed D cs →
    AreNew n (rows_of cs)
new_from_frame n fixed D cs f = new_rows n fixed D cs f.nonzero f.inside f.duals

pub length_of_frame : (n : ℕ) (D : ℤ) (cs : List Column) → IsFrame n D cs → length cs ≡ n
length_of_frame n D cs f = by (reach n (rows_of cs) (new_from_frame n [] D cs f))
  where
    -- a slot that is left would have a dual vector on which all rows are 0
    by : Reached n (rows_of cs) → length cs ≡ n
    by r = none r.slots refl
      where
        none : (slots : List Column) → r.slots ≡ slots → length cs ≡ n
        none [] s = omega (arith, r.count, ap length s, length-map cs (λ c. c.row))
        none (c ∷ slots) s =
            let k : IsFrame n r.D (c ∷ slots ++ r.rest) = subst (λ t. IsFrame n r.D (t ++ r.rest)) s r.frame in
            let all = rows_vanish_at c (slots ++ r.rest) k.duals.1 in
            let others = all_right (λ b. b.row · c.dual ≡ pos 0) slots r.rest all in
            let here = subst (λ t. Vanish t c.dual) r.rows (vanish_from_columns r.rest c.dual others) in
            let zero = zero_where_rows f c.dual k.inside.0 (columns_from_vanish cs c.dual here) c.row in
            absurd (k.nonzero (sym k.duals.0 ∙ zero))

-- ---- a frame of given rows
pub frame_from_new : (n : ℕ) (rows : List Vector) → AreNew n rows → length rows ≡ n →
    (D : ℤ) × (cs : List Column) × IsFrame n D cs × (rows_of cs ≡ rows)
frame_from_new n rows a l = by (reach n rows a)
  where
    by : Reached n rows → (D : ℤ) × (cs : List Column) × IsFrame n D cs × (rows_of cs ≡ rows)
    by r = (r.D, r.rest, subst (λ t. IsFrame n r.D (t ++ r.rest)) (no_slot r.slots r.count) r.frame, r.rows)
      where
        no_slot : (slots : List Column) → length slots + length rows ≡ n → slots ≡ []
        no_slot [] e = refl
        no_slot (c ∷ slots) e = absurd (omega arith)

-- ---- the dual vector of a row is one but for the denominator
pub dual_is_one : (n : ℕ) (fixed : List Vector) (D E : ℤ) (c e : Column) (cs es : List Column) →
    IsFrameOn n fixed D (c ∷ cs) → IsFrameOn n fixed E (e ∷ es) → c.row ≡ e.row → rows_of cs ≡ rows_of es →
    scale D e.dual ≡ scale E c.dual
dual_is_one n fixed D E c e cs es f k same rest =
    along_first f e.dual k.inside.0 others ∙ ap (λ t. scale t c.dual) (ap (λ t. t · e.dual) same ∙ k.duals.0)
  where
    others : RowsVanish cs e.dual
    others =
        let own = vanish_from_columns es e.dual (rows_vanish_at e es k.duals.1) in
        columns_from_vanish cs e.dual (subst (λ t. Vanish t e.dual) (sym rest) own)

-- ---- fewer columns, on the space where the rows of the others are 0
dual_right : (D : ℤ) (bs cs : List Column) → AreDual D (bs ++ cs) → AreDual D cs
dual_right D [] cs d = d
dual_right D (b ∷ bs) cs d = dual_right D bs cs d.2

-- the rows of the earlier columns are 0 at the dual vectors of the later ones
add_row : (b : Column) (bs cs : List Column) → AllByRecursion (AreApart b) cs →
    AllByRecursion (λ c. RowsVanish bs c.dual) cs → AllByRecursion (λ c. RowsVanish (b ∷ bs) c.dual) cs
add_row b bs [] h k = tt
add_row b bs (c ∷ cs) h k = ((h.0.0, k.0), add_row b bs cs h.1 k.1)

earlier_rows_vanish : (D : ℤ) (bs cs : List Column) → AreDual D (bs ++ cs) →
    AllByRecursion (λ c. RowsVanish bs c.dual) cs
earlier_rows_vanish D [] cs d = all_always (λ c. RowsVanish [] c.dual) (λ c. tt) cs
earlier_rows_vanish D (b ∷ bs) cs d =
    add_row b bs cs (all_right (AreApart b) bs cs d.1) (earlier_rows_vanish D bs cs d.2)

pub frame_restricted : (n : ℕ) (fixed more : List Vector) (D : ℤ) (bs cs : List Column) →
    IsFrameOn n fixed D (bs ++ cs) →
    ((y : Vector) → length y ≡ n → Vanish more y ↔ (Vanish fixed y × Vanish (rows_of bs) y)) →
    IsFrameOn n more D cs
frame_restricted n fixed more D bs cs f same = record {
  nonzero = f.nonzero;
  inside =
      lie_inside cs (all_right (λ c. IsVectorOn n fixed c.dual) bs cs f.inside)
      (earlier_rows_vanish D bs cs f.duals);
  duals = dual_right D bs cs f.duals;
  expands = λ g y i.
      let w = (same y i.0).0 i.1 in
      let e = f.expands g y (i.0, w.0) ∙ expand-append g y bs cs in
      omega (arith, lin, expand_rows_zero g y bs (columns_from_vanish bs y w.1));
}
  where
    lie_inside : (es : List Column) → AllByRecursion (λ c. IsVectorOn n fixed c.dual) es →
        AllByRecursion (λ c. RowsVanish bs c.dual) es → AllByRecursion (λ c. IsVectorOn n more c.dual) es
    lie_inside [] h k = tt
    lie_inside (e ∷ es) h k =
        ((h.0.0, (same e.dual h.0.0).1 (h.0.1, vanish_from_columns bs e.dual k.0)), lie_inside es h.1 k.1)
