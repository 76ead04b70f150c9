-- Each free column has one line, which is along the dual vector of its slot.
use Rattle.std.proofs.Common.{◌≡◌, ◌≢◌, ◌⊎◌, inl, inr, ℕ, ◌<◌, ℤ, pos, ◌+ℤ◌, ◌*ℤ◌, neg_ℤ, ◌<ℤ◌, List, ◌∷◌, ◌++◌, length, sym, ap, ◌∙◌, subst, arith}
use Rattle.std.proofs.lemmas.Int.{ints}
use Rattle.poly_num.specs.Vectors.{Vector, ◌·◌, scale, IsZero, IsPrimitive}
use Rattle.poly_num.proofs.Ring.{lin, neg-mul}
use Rattle.poly_num.proofs.Order.{positive_nonzero, positive_factor}
use Rattle.poly_num.proofs.VectorLemmas.{dot-zero, zero_from_scale}
use Rattle.poly_model.specs.Independence.{Vanish}
use Rattle.linear_laws.specs.Frames.{Column}
use Rattle.poly_model.specs.Cones.{at}
use Rattle.linear_laws.specs.Slots.{IsSlot}
use Rattle.linear_laws.specs.FreeColumns.{IsFreeColumn, IsLineOf, LeavesSlots}
use Rattle.linear_laws.proofs.Members.{less_or_equal}
use Rattle.linear_laws.proofs.Proportions.{zero_from_proportion, multiples_from_values, vanish_from_multiple, same_width}
use Rattle.linear_laws.proofs.Combinations.{combination, dot-combination, length-combination, zero_combination, vanish_combination, cancels}
use Rattle.linear_laws.proofs.Entries.{at-scale, at-combination, at-zero}
use Rattle.linear_laws.proofs.PrimitiveAlong.{PrimitiveOf, primitive_of, primitive_same}
use Rattle.linear_laws.proofs.LeftSlots.{Left, elimination_leaves, SlotAt, slot_at, parted_at, zero_from_left, slot_width, slot_value, slot_vanish, slot_elsewhere}
use Rattle.linear_laws.proofs.FreeLemmas.{free_from_slot, slot_from_free}
use Rattle.linear_laws.proofs.Signs.{square_positive}

-- ---- no line is 0 at the free columns
pub zero_at_free : (n : ℕ) (rows : List Vector) (y : Vector) → length y ≡ n → Vanish rows y →
    ((j : ℕ) → IsFreeColumn n rows j → at j y ≡ pos 0) → IsZero y
zero_at_free n rows y l v h = by (elimination_leaves n rows)
  where
    free_at : (e : Left n rows) (j : ℕ) → SlotAt e.columns e.slots j → IsFreeColumn n rows j
    free_at e j w = free_from_slot w.ls w.c w.bs j w.slot (parted_at e.leaves w)

    by : Left n rows → IsZero y
    by e = zero_from_left e.leaves y l v (λ j m. h j (free_at e j (slot_at e.columns e.slots e.leaves.slots_of j m)))

-- ---- along a slot
positive_multiple : (p q x y D : ℤ) → pos 0 <ℤ p → pos 0 <ℤ (q *ℤ D) → y ≡ D → p *ℤ x ≡ q *ℤ y → pos 0 <ℤ x
positive_multiple p q x y D hp hq e f =
    positive_factor p x hp (subst (λ t. pos 0 <ℤ t) (sym (f ∙ ap (λ t. q *ℤ t) e)) hq)

pub line_from_slot : (n : ℕ) (rows : List Vector) (columns : List ℕ) (D : ℤ) (ls : List Column) (c : Column)
    (bs rest : List Column) (j : ℕ) (y : Vector) (p q : ℤ) →
    LeavesSlots n rows columns D (ls ++ c ∷ bs) rest → IsSlot j c → IsPrimitive y →
    pos 0 <ℤ p → pos 0 <ℤ (q *ℤ D) → scale p y ≡ scale q c.dual → IsLineOf n rows j y
line_from_slot n rows columns D ls c bs rest j y p q s o prim hp hq e = record {
  free = free_from_slot ls c bs j o s;
  width = same_width p q y c.dual e ∙ slot_width ls c bs j o s;
  primitive = prim;
  vanishing = vanish_from_multiple p q y c.dual (positive_nonzero p hp) e rows (slot_vanish ls c bs j o s);
  here = positive_multiple p q (at j y) (at j c.dual) D hp hq (slot_value ls c bs j o s) (entry j);
  elsewhere = λ k f d.
      zero_from_proportion p q (at k y) (at k c.dual) (positive_nonzero p hp) (entry k)
      (slot_elsewhere ls c bs j o s k (slot_from_free k f s) d);
}
  where
    entry : (k : ℕ) → p *ℤ at k y ≡ q *ℤ at k c.dual
    entry k = sym (at-scale k p y) ∙ ap (λ t. at k t) e ∙ at-scale k q c.dual

slot_not_zero : {n : ℕ} {rows : List Vector} {columns : List ℕ} {D : ℤ} {rest : List Column} (ls : List Column)
    (c : Column) (bs : List Column) (j : ℕ) → IsSlot j c → LeavesSlots n rows columns D (ls ++ c ∷ bs) rest →
    IsZero c.dual → ⊥
slot_not_zero ls c bs j o s z = s.frame.nonzero (sym (slot_value ls c bs j o s) ∙ at-zero j c.dual z)

line_at_slot : (n : ℕ) (rows : List Vector) (e : Left n rows) (j : ℕ) → SlotAt e.columns e.slots j →
    (y : Vector) × IsLineOf n rows j y
line_at_slot n rows e j w = made (primitive_of (scale e.D w.c.dual) not_zero)
  where
    s : LeavesSlots n rows e.columns e.D (w.ls ++ w.c ∷ w.bs) e.rest
    s = parted_at e.leaves w

    not_zero : IsZero (scale e.D w.c.dual) → ⊥
    not_zero z = slot_not_zero w.ls w.c w.bs j w.slot s (zero_from_scale e.D w.c.dual s.frame.nonzero z)

    made : PrimitiveOf (scale e.D w.c.dual) → (y : Vector) × IsLineOf n rows j y
    made p =
        let positive : pos 0 <ℤ pos p.g = let l = p.positive in omega (arith, ints) in
        let turned = square_positive e.D s.frame.nonzero in
        let line =
        line_from_slot n rows e.columns e.D w.ls w.c w.bs e.rest j p.y (pos p.g) e.D s w.slot p.primitive
        positive turned p.times
        in
        (p.y, line)

pub some_line : (n : ℕ) (rows : List Vector) (j : ℕ) → IsFreeColumn n rows j → (y : Vector) × IsLineOf n rows j y
some_line n rows j f = by (elimination_leaves n rows)
  where
    by : Left n rows → (y : Vector) × IsLineOf n rows j y
    by e = line_at_slot n rows e j (slot_at e.columns e.slots e.leaves.slots_of j (slot_from_free j f e.leaves))

-- ---- there is one
pub one_line : (n : ℕ) (rows : List Vector) (j : ℕ) (y z : Vector) →
    IsLineOf n rows j y → IsLineOf n rows j z → z ≡ y
one_line n rows j y z a b =
    primitive_same (at j y) (at j z) z y b.primitive a.primitive a.here b.here
    (multiples_from_values (at j y) (at j z) z y (b.width ∙ sym a.width) values)
  where
    -- the combination of the two that is 0 at j is zero
    difference : Vector
    difference = combination (at j y) z (neg_ℤ (at j z)) y

    at_free : (k : ℕ) → IsFreeColumn n rows k → at k difference ≡ pos 0
    at_free k f = at-combination k (at j y) z (neg_ℤ (at j z)) y ∙ by (less_or_equal k j)
      where
        apart : k ≢ j → at j y *ℤ at k z +ℤ neg_ℤ (at j z) *ℤ at k y ≡ pos 0
        apart d = zero_combination (at j y) (at k z) (neg_ℤ (at j z)) (at k y) (b.elsewhere k f d) (a.elsewhere k f d)

        by : (k < j) ⊎ ((j < k) ⊎ (k ≡ j)) → at j y *ℤ at k z +ℤ neg_ℤ (at j z) *ℤ at k y ≡ pos 0
        by (inl h) = apart (λ e. omega arith)
        by (inr (inl h)) = apart (λ e. omega arith)
        by (inr (inr e)) =
            subst (λ i. at j y *ℤ at i z +ℤ neg_ℤ (at j z) *ℤ at i y ≡ pos 0) (sym e)
            (cancels (at j y) (at j z))

    zero_there : IsZero difference
    zero_there =
        zero_at_free n rows difference (length-combination n (at j y) z (neg_ℤ (at j z)) y b.width a.width)
        (vanish_combination rows (at j y) z (neg_ℤ (at j z)) y b.vanishing a.vanishing) at_free

    values : (g : Vector) → at j y *ℤ (g · z) ≡ at j z *ℤ (g · y)
    values g =
        let e = dot-combination g (at j y) z (neg_ℤ (at j z)) y in
        let f = dot-zero g difference zero_there in
        let h = neg-mul (at j z) (g · y) in
        omega (arith, lin)
