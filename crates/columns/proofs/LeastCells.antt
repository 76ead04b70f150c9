-- Nothing is left to divide: the denominator and the cells that the exchange leaves have no common divisor.
use Rattle.std.proofs.Common.{◌≡◌, ◌≢◌, ℕ, zero, suc, ◌*◌, ◌<◌, ℤ, pos, negsuc, neg_ℤ, ◌*ℤ◌, List, [], ◌∷◌, get_or, arith, refl, sym, ap, subst, ◌∙◌, mul_comm, ⊎_elim}
use Prim.Native.Nat.{◌∣◌}
use Rattle.std.specs.Prelude.{◌<ℤ◌, unsigned_abs, int_div}
use Rattle.std.proofs.lemmas.Bool.{cases_eq}
use Rattle.std.proofs.lemmas.Int.{ints, unsigned_abs-mul}
use Rattle.std.proofs.Math.Nat.{one-mul, eq-one_of_dvd-one, dvd_of_mul-dvd-mul_right}
use Rattle.poly_num.specs.Vectors.{DividesEach, IsPrimitive}
use Rattle.poly_num.proofs.Ring.{expand, lin, one_mul, zero_mul, mul_assoc}
use Rattle.poly_num.proofs.FractionLemmas.{size_positive}
use Rattle.poly_num.proofs.Order.{positive_product, positive_factor, positive_nonzero}
use Rattle.poly_num.proofs.DivisorLemmas.{quotient_times, unsigned_abs-neg, dvd-multiple}
use Rattle.columns.proofs.DivisorLemmas.{turned_size}
use Rattle.columns.specs.declared.exchange.Exchange.{Exchange}
use Rattle.columns.specs.declared.parts.Parts.{Parts}
use Rattle.columns.specs.Cells.{cell_at, place, pivot_of, IsNewCell, IsTableAfter}
use Rattle.columns.specs.Steps.{DividesTimes, AreParts, factor_of, IsOver}
use Rattle.columns.proofs.OverLemmas.{one_new_cell, denominator_is}

-- a number of a list is a multiple of what divides all of them
multiple_at : (d : ℕ) (v : List ℤ) (k : ℕ) → DividesEach d v → (q : ℤ) × (get_or v k (pos 0) ≡ q *ℤ pos d)
multiple_at d [] k h = (pos 0, sym (zero_mul (pos d)))
multiple_at d (y ∷ v) zero h = (int_div y (pos d), sym (quotient_times d y (h.0)))
multiple_at d (y ∷ v) (suc k) h = multiple_at d v k (h.1)

-- the divisor and what divides the quotient too, as one number
both_out : (d : ℕ) (g q : ℤ) → pos 0 <ℤ g → g *ℤ (q *ℤ pos d) ≡ pos (d * unsigned_abs g) *ℤ q
both_out d (pos n) q lt =
    let f : pos (d * n) ≡ pos d *ℤ pos n = omega (arith, ints) in
    rw f (simp expand)
both_out d (negsuc n) q lt = absurd (omega (arith, ints))

divides_product : (e : ℕ) (t h q : ℤ) → unsigned_abs t ≡ 1 →
    e * unsigned_abs h ∣ unsigned_abs ((t *ℤ h) *ℤ (pos e *ℤ q))
divides_product e t h q one =
    let l : unsigned_abs ((t *ℤ h) *ℤ (pos e *ℤ q)) ≡ unsigned_abs (q *ℤ (pos e *ℤ h)) =
    rw (
      unsigned_abs-mul (t *ℤ h) (pos e *ℤ q),
      turned_size t h one,
      unsigned_abs-mul (pos e) q,
      unsigned_abs-mul q (pos e *ℤ h),
      unsigned_abs-mul (pos e) h,
    ) (omega arith) in
    subst (λ (n : ℕ). n ∣ unsigned_abs ((t *ℤ h) *ℤ (pos e *ℤ q))) (unsigned_abs-mul (pos e) h)
    (subst (λ (n : ℕ). unsigned_abs (pos e *ℤ h) ∣ n) (sym l) (dvd-multiple (pos e *ℤ h) q))

-- the new denominator is positive
positive_pivot : (t h g y v d : ℤ) → t *ℤ t ≡ pos 1 → (t *ℤ h) *ℤ (g *ℤ y) ≡ v *ℤ d → pos 0 <ℤ (t *ℤ v) → pos 0 <ℤ d →
    pos 0 <ℤ h → pos 0 <ℤ g → pos 0 <ℤ y
positive_pivot t h g y v d square over turned denominator common lt =
    let l : t *ℤ ((t *ℤ h) *ℤ (g *ℤ y)) ≡ (t *ℤ t) *ℤ (h *ℤ (g *ℤ y)) = simp expand in
    let r : t *ℤ (v *ℤ d) ≡ (t *ℤ v) *ℤ d = simp expand in
    let same : h *ℤ (g *ℤ y) ≡ (t *ℤ v) *ℤ d =
    sym (l ∙ rw square (one_mul (h *ℤ (g *ℤ y)))) ∙ ap (λ (z : ℤ). t *ℤ z) over ∙ r in
    let product = positive_product (t *ℤ v) d turned denominator in
    positive_factor g y lt (positive_factor h (g *ℤ y) common (subst (λ (z : ℤ). pos 0 <ℤ z) (sym same) product))

module _ (old new : List ℤ) (parts : Parts ℤ) (z g f : ℤ) (are : AreParts old parts z)
    (whole : f *ℤ g ≡ parts.x.now.denominator) (u : IsOver parts.x.now old (factor_of parts) parts.x.now.width g new) where
  abbrev x : Exchange
  x = parts.x.now

  abbrev h : ℤ
  h = parts.factors.now.common

  abbrev y : ℤ
  y = parts.p *ℤ f

  over : factor_of parts *ℤ (g *ℤ y) ≡ pivot_of x old *ℤ x.denominator
  over = denominator_is old parts z are g f whole

  positive : pos 0 <ℤ y
  positive =
      positive_pivot parts.factors.now.sign h g y (pivot_of x old) x.denominator are.factors.turned.square over
      (are.factors.turned.positive are.can.nonzero) are.can.denominator are.factors.greatest.positive u.positive

  module _ (d : ℕ) (divides : DividesEach d (y ∷ new)) where
    abbrev more : ℕ
    more = d * unsigned_abs g

    -- each new cell is over the factors and more
    new_multiple : (i j : ℕ) → i < x.height → j < x.width →
        (q : ℤ) × IsNewCell x old i j (factor_of parts *ℤ (pos more *ℤ q))
    new_multiple i j hi hj =
        let q = multiple_at d new (place x.height i j) (divides.1) in (
          q.0,
          subst (λ (n : ℤ). IsNewCell x old i j (factor_of parts *ℤ n))
              (ap (λ (n : ℤ). g *ℤ n) q.1 ∙ both_out d g q.0 u.positive)
              (u.done i j hi hj),
        )

    divides_new_cell : (i j : ℕ) → i < x.height → j < x.width → (n : ℤ) → IsNewCell x old i j n →
        more * unsigned_abs h ∣ unsigned_abs n
    divides_new_cell i j hi hj n is =
        let q = new_multiple i j hi hj in
        subst (λ (k : ℤ). more * unsigned_abs h ∣ unsigned_abs k)
        (one_new_cell x old i j (factor_of parts *ℤ (pos more *ℤ q.0)) n q.1 is)
        (divides_product more parts.factors.now.sign h q.0 are.factors.turned.size)

    -- what divides a product with the denominator
    turn : (a b : ℤ) → more * unsigned_abs h ∣ unsigned_abs (a *ℤ b) →
        more * unsigned_abs h ∣ unsigned_abs b * unsigned_abs a
    turn a b k =
        subst (λ (n : ℕ). more * unsigned_abs h ∣ n) (unsigned_abs-mul a b ∙ mul_comm (unsigned_abs a) (unsigned_abs b)) k

    in_pivot : more * unsigned_abs h ∣ unsigned_abs x.denominator * unsigned_abs (pivot_of x old)
    in_pivot =
        let q = int_div y (pos d) in
        let e : g *ℤ y ≡ pos more *ℤ q =
        ap (λ (n : ℤ). g *ℤ n) (sym (quotient_times d y (divides.0))) ∙ both_out d g q u.positive in
        turn (pivot_of x old) x.denominator
        (subst (λ (n : ℤ). more * unsigned_abs h ∣ unsigned_abs n) (ap (λ (n : ℤ). factor_of parts *ℤ n) (sym e) ∙ over)
        (divides_product more parts.factors.now.sign h q are.factors.turned.size))

    in_corner : more * unsigned_abs h ∣ unsigned_abs x.denominator * unsigned_abs x.denominator
    in_corner =
        turn x.denominator x.denominator
        (divides_new_cell x.row x.column are.can.row are.can.column (x.denominator *ℤ x.denominator)
        (record {
          column = λ _ n. absurd (n refl);
          corner = λ _ _. refl;
          inside = λ n. absurd (n refl);
          leaving = λ n. absurd (n refl);
        }))

    in_column : (i : ℕ) → i < x.height →
        more * unsigned_abs h ∣ unsigned_abs x.denominator * unsigned_abs (cell_at x.height old i x.column)
    in_column i hi =
        ⊎_elim
        (λ (e : i ≡ x.row). rw e in_pivot)
        (λ (n : i ≢ x.row).
        let c = cell_at x.height old i x.column in
        turn c x.denominator
        (divides_new_cell i x.column hi are.can.column (c *ℤ x.denominator)
        (record {
          column = λ _ _. refl;
          corner = λ _ e. absurd (n e);
          inside = λ m. absurd (m refl);
          leaving = λ m. absurd (m refl);
        })))
        (cases_eq i x.row)

    in_row : (j : ℕ) → j < x.width →
        more * unsigned_abs h ∣ unsigned_abs x.denominator * unsigned_abs (cell_at x.height old x.row j)
    in_row j hj =
        ⊎_elim
        (λ (e : j ≡ x.column). rw e in_pivot)
        (λ (n : j ≢ x.column).
        let r = cell_at x.height old x.row j in
        subst (λ (m : ℕ). more * unsigned_abs h ∣ m) (unsigned_abs-neg (x.denominator *ℤ r) ∙ unsigned_abs-mul x.denominator r)
        (divides_new_cell x.row j are.can.row hj (neg_ℤ (x.denominator *ℤ r))
        (record {
          column = λ e. absurd (n e);
          corner = λ e. absurd (n e);
          inside = λ _ m. absurd (m refl);
          leaving = λ _ _. refl;
        })))
        (cases_eq j x.column)

    in_all : DividesTimes x old x.height x.width (more * unsigned_abs h) (unsigned_abs x.denominator)
    in_all = record { denominator = in_corner; pivot = in_pivot; column = in_column; row = in_row }

    is_one : d ≡ 1
    is_one =
        let common = size_positive h (positive_nonzero h are.factors.greatest.positive) in
        let l : more ∣ unsigned_abs x.denominator =
        dvd_of_mul-dvd-mul_right more common
        (are.factors.greatest.greatest (more * unsigned_abs h) (unsigned_abs x.denominator) in_all) in
        let k : d * unsigned_abs g ∣ 1 * unsigned_abs g = rw one-mul (u.greatest more l new_multiple) in
        eq-one_of_dvd-one (dvd_of_mul-dvd-mul_right d (size_positive g (positive_nonzero g u.positive)) k)

  primitive : IsPrimitive (y ∷ new)
  primitive = (λ n. let e = n.0 in let l = positive in absurd (omega (arith, lin)), λ d _ divides. is_one d divides)

  pub table_after : IsTableAfter x old y new
  table_after = record {
    same_length = u.same_length;
    factor = factor_of parts *ℤ g;
    denominator = mul_assoc (factor_of parts) g y ∙ over;
    cells = λ i j hi hj.
        subst (IsNewCell x old i j) (sym (mul_assoc (factor_of parts) g (cell_at x.height new i j))) (u.done i j hi hj);
    positive = positive;
    least = primitive;
  }
