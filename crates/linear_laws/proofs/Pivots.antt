-- A pivot makes of a frame the frame with a new row in the place of its first.
--
-- With e the entry of the new row g at the first dual vector z, each other dual vector z' becomes
-- e z' - (g · z') z, z becomes D z, and the denominator e D.
use Rattle.std.proofs.Common.{◌≡◌, ◌≢◌, ℕ, ℤ, pos, ◌+ℤ◌, ◌-ℤ◌, ◌*ℤ◌, neg_ℤ, List, [], ◌∷◌, map, refl, ap, ◌∙◌, arith}
use Rattle.std.specs.List.{AllByRecursion}
use Rattle.poly_num.specs.Vectors.{Vector, ◌·◌, scale}
use Rattle.poly_num.proofs.Ring.{expand as multiply_out, lin, mul_comm, mul_zero}
use Rattle.poly_num.proofs.Order.{mul_nonzero}
use Rattle.poly_num.proofs.VectorLemmas.{dot-scale}
use Rattle.linear_laws.specs.Frames.{moved, pivoted, Column, rows_of, expand, AreApart, AreDual, IsVectorOn, IsFrameOn, RowsVanish}
use Rattle.linear_laws.proofs.Columns.{rows_vanish_at}
use Rattle.linear_laws.proofs.Combinations.{dot-combination, inside_combination, inside_scale, cancels}

pub rows-moved : (g : Vector) (e : ℤ) (z : Vector) (cs : List Column) → rows_of (map (moved g e z) cs) ≡ rows_of cs
rows-moved g e z [] = refl
rows-moved g e z (c ∷ cs) = ap (λ t. c.row ∷ t) (rows-moved g e z cs)

-- the entry of h in a moved column
pub dot-moved : (g : Vector) (e : ℤ) (z h : Vector) (c : Column) →
    h · (moved g e z c).dual ≡ e *ℤ (h · c.dual) +ℤ neg_ℤ (g · c.dual) *ℤ (h · z)
dot-moved g e z h c = dot-combination h e c.dual (neg_ℤ (g · c.dual)) z

pub expand-moved : (g : Vector) (e : ℤ) (z h y : Vector) (cs : List Column) →
    expand (map (moved g e z) cs) h y ≡ e *ℤ expand cs h y -ℤ (h · z) *ℤ expand cs g y
expand-moved g e z h y [] = none e (h · z)
  where
    none : (e x : ℤ) → pos 0 ≡ e *ℤ pos 0 -ℤ x *ℤ pos 0
    none e x = omega (arith, lin, mul_zero e, mul_zero x)
expand-moved g e z h y (c ∷ cs) =
    one (h · (moved g e z c).dual) e (h · c.dual) (g · c.dual) (h · z) (c.row · y) (expand cs h y) (expand cs g y)
    (expand (map (moved g e z) cs) h y) (dot-moved g e z h c) (expand-moved g e z h y cs)
  where
    one : (m e hc gc hz cy sh sg s : ℤ) → m ≡ e *ℤ hc +ℤ neg_ℤ gc *ℤ hz → s ≡ e *ℤ sh -ℤ hz *ℤ sg →
        m *ℤ cy +ℤ s ≡ e *ℤ (hc *ℤ cy +ℤ sh) -ℤ hz *ℤ (gc *ℤ cy +ℤ sg)
    one m e hc gc hz cy sh sg s p q = rw (p, q) (simp multiply_out (omega (arith, lin)))

-- ---- dual vectors
-- the entry of a row that is 0 at z is e times what it was
entry_moved : (g : Vector) (e : ℤ) (z h : Vector) (c : Column) (v : ℤ) → h · c.dual ≡ v → h · z ≡ pos 0 →
    h · (moved g e z c).dual ≡ e *ℤ v
entry_moved g e z h c v p q =
    let a = ap (λ t. neg_ℤ (g · c.dual) *ℤ t) q ∙ mul_zero (neg_ℤ (g · c.dual)) in
    let b = ap (λ t. e *ℤ t) p in
    omega (arith, lin, dot-moved g e z h c)

apart_from_new : (D : ℤ) (g : Vector) (c : Column) (cs : List Column) → AllByRecursion (AreApart c) cs →
    AllByRecursion (AreApart (record { row = g; dual = scale D c.dual })) (map (moved g (g · c.dual) c.dual) cs)
apart_from_new D g c [] x = tt
apart_from_new D g c (b ∷ cs) x = (
  (
    dot-moved g (g · c.dual) c.dual g b ∙ cancels (g · c.dual) (g · b.dual),
    dot-scale b.row D c.dual ∙ ap (λ t. D *ℤ t) x.0.1 ∙ mul_zero D,
  ),
  apart_from_new D g c cs x.1,
)

moved_apart : (g : Vector) (e : ℤ) (z : Vector) (b : Column) (cs : List Column) → RowsVanish cs z →
    b.row · z ≡ pos 0 → AllByRecursion (AreApart b) cs →
    AllByRecursion (AreApart (moved g e z b)) (map (moved g e z) cs)
moved_apart g e z b [] rows h x = tt
moved_apart g e z b (c ∷ cs) rows h x = (
  (
    entry_moved g e z b.row c (pos 0) x.0.0 h ∙ mul_zero e,
    entry_moved g e z c.row b (pos 0) x.0.1 rows.0 ∙ mul_zero e,
  ),
  moved_apart g e z b cs rows.1 h x.1,
)

moved_dual : (D : ℤ) (g : Vector) (e : ℤ) (z : Vector) (cs : List Column) → RowsVanish cs z →
    AreDual D cs → AreDual (e *ℤ D) (map (moved g e z) cs)
moved_dual D g e z [] rows d = tt
moved_dual D g e z (c ∷ cs) rows d = (
  entry_moved g e z c.row c D d.0 rows.0,
  moved_apart g e z c cs rows.1 rows.0 d.1,
  moved_dual D g e z cs rows.1 d.2,
)

-- ---- the pivot
moved_inside : (n : ℕ) (fixed : List Vector) (g : Vector) (e : ℤ) (z : Vector) (cs : List Column) →
    IsVectorOn n fixed z → AllByRecursion (λ c. IsVectorOn n fixed c.dual) cs →
    AllByRecursion (λ c. IsVectorOn n fixed c.dual) (map (moved g e z) cs)
moved_inside n fixed g e z [] i w = tt
moved_inside n fixed g e z (c ∷ cs) i w =
    (inside_combination n fixed e c.dual (neg_ℤ (g · c.dual)) z w.0 i, moved_inside n fixed g e z cs i w.1)

-- the value of k at y, expanded before the pivot and after it
pivot_expands : (D e kz cy gy sk sg ky kw s : ℤ) → D *ℤ ky ≡ kz *ℤ cy +ℤ sk → D *ℤ gy ≡ e *ℤ cy +ℤ sg →
    kw ≡ D *ℤ kz → s ≡ e *ℤ sk -ℤ kz *ℤ sg → (e *ℤ D) *ℤ ky ≡ kw *ℤ gy +ℤ s
pivot_expands D e kz cy gy sk sg ky kw s p q r t =
    let a = simp multiply_out at (ap (λ (x : ℤ). e *ℤ x) p) in
    let b = simp multiply_out at (ap (λ (x : ℤ). kz *ℤ x) q) in
    rw (r, t) (simp multiply_out (omega (arith, lin)))

pub frame_pivoted : {n : ℕ} {fixed : List Vector} {D : ℤ} (g : Vector) (c : Column) (cs : List Column) →
    IsFrameOn n fixed D (c ∷ cs) → g · c.dual ≢ pos 0 → IsFrameOn n fixed ((g · c.dual) *ℤ D) (pivoted D g c cs)
frame_pivoted {n} {fixed} {D} g c cs f h = record {
  nonzero = mul_nonzero (g · c.dual) D h f.nonzero;
  inside = (
    inside_scale n fixed D c.dual f.inside.0,
    moved_inside n fixed g (g · c.dual) c.dual cs f.inside.0 f.inside.1,
  );
  duals = (
    dot-scale g D c.dual ∙ mul_comm D (g · c.dual),
    apart_from_new D g c cs f.duals.1,
    moved_dual D g (g · c.dual) c.dual cs (rows_vanish_at c cs f.duals.1) f.duals.2,
  );
  expands = λ k y i.
      pivot_expands D (g · c.dual) (k · c.dual) (c.row · y) (g · y) (expand cs k y) (expand cs g y) (k · y)
      (k · scale D c.dual) (expand (map (moved g (g · c.dual) c.dual) cs) k y) (f.expands k y i) (f.expands g y i)
      (dot-scale k D c.dual) (expand-moved g (g · c.dual) c.dual k y cs);
}
