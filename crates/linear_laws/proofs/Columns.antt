-- The columns of a frame may stand in any order; what a frame tells of a vector at which rows are 0.
use Rattle.std.proofs.Common.{◌≡◌, ℕ, ℤ, pos, ◌+ℤ◌, ◌*ℤ◌, List, [], ◌∷◌, ◌++◌, refl, sym, ap, ◌∙◌, arith}
use Rattle.std.specs.List.{AllByRecursion}
use Rattle.poly_num.specs.Vectors.{Vector, ◌·◌, scale}
use Rattle.poly_num.proofs.Ring.{lin, mul_comm, mul_zero, zero_mul}
use Rattle.poly_num.proofs.Order.{zero_factor}
use Rattle.poly_model.specs.Independence.{Vanish}
use Rattle.linear_laws.specs.Frames.{Column, rows_of, expand, AreApart, AreDual, IsVectorOn, IsFrameOn, RowsVanish, EntriesVanish}
use Rattle.linear_laws.proofs.AllLemmas.{all_out, all_in, all_right, all_weaker}
use Rattle.linear_laws.proofs.Proportions.{multiples_from_values}

-- ---- one column to the front, and back
pub expand-out : (g y : Vector) (ls : List Column) (c : Column) (bs : List Column) →
    expand (ls ++ c ∷ bs) g y ≡ expand (c ∷ ls ++ bs) g y
expand-out g y [] c bs = refl
expand-out g y (a ∷ ls) c bs = omega (arith, lin, expand-out g y ls c bs)

dual_out : (D : ℤ) (ls : List Column) (c : Column) (bs : List Column) →
    AreDual D (ls ++ c ∷ bs) → AreDual D (c ∷ ls ++ bs)
dual_out D [] c bs d = d
dual_out D (a ∷ ls) c bs d =
    let k : AreDual D (c ∷ ls ++ bs) = dual_out D ls c bs d.2 in
    let x : AllByRecursion (AreApart a) (c ∷ ls ++ bs) = all_out (AreApart a) ls c bs d.1 in
    (k.0, ((x.0.1, x.0.0), k.1), (d.0, x.1, k.2))

dual_in : (D : ℤ) (ls : List Column) (c : Column) (bs : List Column) →
    AreDual D (c ∷ ls ++ bs) → AreDual D (ls ++ c ∷ bs)
dual_in D [] c bs d = d
dual_in D (a ∷ ls) c bs d = (
  d.2.0,
  all_in (AreApart a) ls c bs ((d.1.0.1, d.1.0.0), d.2.1),
  dual_in D ls c bs (d.0, d.1.1, d.2.2),
)

pub frame_out : {n : ℕ} {fixed : List Vector} {D : ℤ} (ls : List Column) (c : Column) (bs : List Column) →
    IsFrameOn n fixed D (ls ++ c ∷ bs) → IsFrameOn n fixed D (c ∷ ls ++ bs)
frame_out {n} {fixed} {D} ls c bs f = record {
  nonzero = f.nonzero;
  inside = all_out (λ c. IsVectorOn n fixed c.dual) ls c bs f.inside;
  duals = dual_out D ls c bs f.duals;
  expands = λ g y l. f.expands g y l ∙ expand-out g y ls c bs;
}

pub frame_in : {n : ℕ} {fixed : List Vector} {D : ℤ} (ls : List Column) (c : Column) (bs : List Column) →
    IsFrameOn n fixed D (c ∷ ls ++ bs) → IsFrameOn n fixed D (ls ++ c ∷ bs)
frame_in {n} {fixed} {D} ls c bs f = record {
  nonzero = f.nonzero;
  inside = all_in (λ c. IsVectorOn n fixed c.dual) ls c bs f.inside;
  duals = dual_in D ls c bs f.duals;
  expands = λ g y l. f.expands g y l ∙ sym (expand-out g y ls c bs);
}

-- ---- values of rows at dual vectors
pub rows_vanish_at : (c : Column) (cs : List Column) → AllByRecursion (AreApart c) cs → RowsVanish cs c.dual
rows_vanish_at c cs h = all_weaker (AreApart c) (λ b. b.row · c.dual ≡ pos 0) (λ b x. x.1) cs h

-- the rows of the later columns are 0 at the dual vectors of the earlier ones
pub later_rows_vanish : (D : ℤ) (ls bs : List Column) → AreDual D (ls ++ bs) →
    AllByRecursion (λ l. RowsVanish bs l.dual) ls
later_rows_vanish D [] bs d = tt
later_rows_vanish D (l ∷ ls) bs d =
    (rows_vanish_at l bs (all_right (AreApart l) ls bs d.1), later_rows_vanish D ls bs d.2)

pub vanish_from_columns : (cs : List Column) (y : Vector) → RowsVanish cs y → Vanish (rows_of cs) y
vanish_from_columns [] y h = tt
vanish_from_columns (c ∷ cs) y h = (h.0, vanish_from_columns cs y h.1)

pub columns_from_vanish : (cs : List Column) (y : Vector) → Vanish (rows_of cs) y → RowsVanish cs y
columns_from_vanish [] y h = tt
columns_from_vanish (c ∷ cs) y h = (h.0, columns_from_vanish cs y h.1)

-- ---- sums over columns in which all terms are 0
pub expand_rows_zero : (g y : Vector) (cs : List Column) → RowsVanish cs y → expand cs g y ≡ pos 0
expand_rows_zero g y [] h = refl
expand_rows_zero g y (c ∷ cs) h =
    let e = ap (λ s. (g · c.dual) *ℤ s) h.0 ∙ mul_zero (g · c.dual) in
    omega (arith, lin, expand_rows_zero g y cs h.1)

pub expand_entries_zero : (g y : Vector) (cs : List Column) → EntriesVanish g cs → expand cs g y ≡ pos 0
expand_entries_zero g y [] h = refl
expand_entries_zero g y (c ∷ cs) h =
    let e = ap (λ s. s *ℤ (c.row · y)) h.0 ∙ zero_mul (c.row · y) in
    omega (arith, lin, expand_entries_zero g y cs h.1)

pub expand-append : (g y : Vector) (ls bs : List Column) → expand (ls ++ bs) g y ≡ expand ls g y +ℤ expand bs g y
expand-append g y [] bs = omega (arith, lin)
expand-append g y (a ∷ ls) bs = omega (arith, lin, expand-append g y ls bs)

-- ---- what follows from a frame
-- a vector at which all rows but the first are 0 is a multiple of the first dual vector
pub along_first : {n : ℕ} {fixed : List Vector} {D : ℤ} {c : Column} {cs : List Column} →
    IsFrameOn n fixed D (c ∷ cs) → (y : Vector) → IsVectorOn n fixed y → RowsVanish cs y →
    scale D y ≡ scale (c.row · y) c.dual
along_first {n} {fixed} {D} {c} {cs} f y i h =
    multiples_from_values D (c.row · y) y c.dual (i.0 ∙ sym f.inside.0.0)
    (λ g. value (f.expands g y i) (expand_rows_zero g y cs h) (mul_comm (g · c.dual) (c.row · y)))
  where
    value : {x a s b : ℤ} → x ≡ a +ℤ s → s ≡ pos 0 → a ≡ b → x ≡ b
    value e f g = omega (arith, lin)

-- every form is 0 at a vector at which all rows are
pub zero_where_rows : {n : ℕ} {fixed : List Vector} {D : ℤ} {cs : List Column} → IsFrameOn n fixed D cs →
    (y : Vector) → IsVectorOn n fixed y → RowsVanish cs y → (g : Vector) → g · y ≡ pos 0
zero_where_rows {n} {fixed} {D} {cs} f y i h g =
    zero_factor D (g · y) (f.expands g y i ∙ expand_rows_zero g y cs h) f.nonzero

-- a form is 0 at y where its entries are 0 in some columns and the rows of the others are 0 at y
pub zero_in_parts : {n : ℕ} {fixed : List Vector} {D : ℤ} (ls bs : List Column) →
    IsFrameOn n fixed D (ls ++ bs) → (g y : Vector) → IsVectorOn n fixed y → EntriesVanish g ls →
    RowsVanish bs y → g · y ≡ pos 0
zero_in_parts {n} {fixed} {D} ls bs f g y i h k = zero_factor D (g · y) sum_is f.nonzero
  where
    sum_is : D *ℤ (g · y) ≡ pos 0
    sum_is =
        let e = f.expands g y i ∙ expand-append g y ls bs in
        omega (arith, lin, expand_entries_zero g y ls h, expand_rows_zero g y bs k)
