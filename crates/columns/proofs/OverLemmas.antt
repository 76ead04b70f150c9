-- The new cells are written column by column, over a divisor that shrinks.
use Rattle.std.proofs.Common.{◌≡◌, ◌≢◌, ℕ, ◌+◌, ◌<◌, ℤ, pos, ◌*ℤ◌, ◌-ℤ◌, neg_ℤ, List, length, get_or, arith, ◌*◌, ◌∙◌, sym, subst, ap, refl, ⊎_elim, mul_comm}
use Prim.Native.Nat.{◌∣◌}
use Rattle.std.specs.Prelude.{◌<ℤ◌, unsigned_abs}
use Rattle.std.proofs.lemmas.Bool.{cases_eq}
use Rattle.std.proofs.lemmas.Nat.{mul-add-lt}
use Rattle.std.proofs.lemmas.Nat.Gcd.{dvd_refl, dvd_trans}
use Rattle.poly_num.proofs.Ring as ring
use Rattle.poly_num.proofs.Ring.{expand, lin, one_mul}
use Rattle.poly_num.proofs.Order.{cancel}
use Rattle.poly_num.proofs.DivisorLemmas.{dvd-multiple}
use Rattle.columns.specs.declared.exchange.Exchange.{Exchange}
use Rattle.columns.specs.declared.parts.Parts.{Parts}
use Rattle.columns.specs.Cells.{cell_at, place, pivot_of, IsNewCell}
use Rattle.columns.specs.Steps.{IsNumerator, AreParts, factor_of, IsColumnDone, IsOver, IsReached, AreKept}
use Rattle.columns.proofs.DivisorLemmas.{factor_nonzero}

-- what stands in a cell after the exchange is one number
pub one_new_cell : (x : Exchange) (old : List ℤ) (i j : ℕ) (y z : ℤ) → IsNewCell x old i j y → IsNewCell x old i j z →
    y ≡ z
one_new_cell x old i j y z p q =
    ⊎_elim
    (λ (e : j ≡ x.column).
    ⊎_elim
    (λ (r : i ≡ x.row). p.corner e r ∙ sym (q.corner e r))
    (λ (r : i ≢ x.row). p.column e r ∙ sym (q.column e r))
    (cases_eq i x.row))
    (λ (n : j ≢ x.column).
    ⊎_elim
    (λ (r : i ≡ x.row). p.leaving n r ∙ sym (q.leaving n r))
    (λ (r : i ≢ x.row). p.inside n r ∙ sym (q.inside n r))
    (cases_eq i x.row))
    (cases_eq j x.column)

-- a number with a sign, turned back
turned_back : (t y z : ℤ) → t *ℤ t ≡ pos 1 → y ≡ t *ℤ z → t *ℤ y ≡ z
turned_back t y z square e =
    let f : t *ℤ (t *ℤ z) ≡ (t *ℤ t) *ℤ z = simp expand in
    ap (λ (n : ℤ). t *ℤ n) e ∙ f ∙ rw square (one_mul z)

own_cell : (t h c a d : ℤ) → t *ℤ (c *ℤ h) ≡ a → (t *ℤ h) *ℤ (c *ℤ d) ≡ a *ℤ d
own_cell t h c a d e =
    let f : (t *ℤ h) *ℤ (c *ℤ d) ≡ (t *ℤ (c *ℤ h)) *ℤ d = simp expand in
    f ∙ ap (λ (n : ℤ). n *ℤ d) e

inside_cell : (t h p c e a r v : ℤ) → t *ℤ (c *ℤ h) ≡ a → t *ℤ (p *ℤ h) ≡ v →
    (t *ℤ h) *ℤ (e *ℤ p -ℤ c *ℤ r) ≡ e *ℤ v -ℤ a *ℤ r
inside_cell t h p c e a r v ec ep =
    let f : (t *ℤ h) *ℤ (e *ℤ p -ℤ c *ℤ r) ≡ e *ℤ (t *ℤ (p *ℤ h)) -ℤ (t *ℤ (c *ℤ h)) *ℤ r = simp expand in
    f ∙ rw (ep, ec) refl

leaving_cell : (t h u r d : ℤ) → t *ℤ (u *ℤ h) ≡ d → (t *ℤ h) *ℤ neg_ℤ (u *ℤ r) ≡ neg_ℤ (d *ℤ r)
leaving_cell t h u r d e =
    let f : (t *ℤ h) *ℤ neg_ℤ (u *ℤ r) ≡ neg_ℤ ((t *ℤ (u *ℤ h)) *ℤ r) = simp expand (omega (arith, lin)) in
    f ∙ ap (λ (n : ℤ). neg_ℤ (n *ℤ r)) e

denominator_cell : (t h p f g v d : ℤ) → t *ℤ (p *ℤ h) ≡ v → f *ℤ g ≡ d → (t *ℤ h) *ℤ (g *ℤ (p *ℤ f)) ≡ v *ℤ d
denominator_cell t h p f g v d ep ef =
    let e : (t *ℤ h) *ℤ (g *ℤ (p *ℤ f)) ≡ (t *ℤ (p *ℤ h)) *ℤ (f *ℤ g) = simp expand in
    e ∙ rw (ep, ef) refl

-- the number of the exchange's row, without a division
leaving_number : (t h u b over f g d n : ℤ) → t *ℤ t ≡ pos 1 → t *ℤ (u *ℤ h) ≡ d → over *ℤ h ≡ t *ℤ b → f *ℤ g ≡ d →
    n ≡ neg_ℤ over → (n *ℤ f) *ℤ g ≡ neg_ℤ (u *ℤ b)
leaving_number t h u b over f g d n square eu eo ed en =
    let first : (n *ℤ f) *ℤ g ≡ n *ℤ (f *ℤ g) = simp expand in
    let second : neg_ℤ over *ℤ (t *ℤ (u *ℤ h)) ≡ neg_ℤ ((over *ℤ h) *ℤ (t *ℤ u)) = simp expand (omega (arith, lin)) in
    let third : neg_ℤ ((t *ℤ b) *ℤ (t *ℤ u)) ≡ neg_ℤ ((t *ℤ t) *ℤ (u *ℤ b)) = simp expand in
    first ∙ rw (ed, en, ← eu) (second ∙ rw eo (third ∙ rw square (ap neg_ℤ (one_mul (u *ℤ b)))))

module _ (cells : List ℤ) (parts : Parts ℤ) (z : ℤ) (are : AreParts cells parts z) where
  abbrev x : Exchange
  x = parts.x.now

  abbrev t : ℤ
  t = parts.factors.now.sign

  abbrev h : ℤ
  h = parts.factors.now.common

  pub pivot_back : t *ℤ (parts.p *ℤ h) ≡ pivot_of x cells
  pivot_back =
      rw are.p
      (turned_back t (parts.factors.now.p *ℤ h) (pivot_of x cells) are.factors.turned.square are.factors.pivot)

  pub denominator_back : t *ℤ (parts.u *ℤ h) ≡ x.denominator
  denominator_back =
      rw are.u
      (turned_back t (parts.factors.now.u *ℤ h) x.denominator are.factors.turned.square are.factors.denominator)

  pub own_back : (i : ℕ) → i < x.height → i ≢ x.row →
      t *ℤ (get_or parts.own.now i (pos 0) *ℤ h) ≡ cell_at x.height cells i x.column
  own_back i hi nr =
      turned_back t (get_or parts.own.now i (pos 0) *ℤ h) (cell_at x.height cells i x.column) are.factors.turned.square
      (are.own.same i hi nr)

  pub nonzero : factor_of parts ≢ pos 0
  nonzero = factor_nonzero (pivot_of x cells) t h are.can.nonzero are.factors.turned are.factors.greatest.positive

  -- an inner number is the new cell, over the sign of the pivot's cell times the common factor
  pub inside_new : (i : ℕ) → i < x.height → i ≢ x.row → (e r : ℤ) →
      factor_of parts *ℤ (e *ℤ parts.p -ℤ get_or parts.own.now i (pos 0) *ℤ r)
      ≡ e *ℤ pivot_of x cells -ℤ cell_at x.height cells i x.column *ℤ r
  inside_new i hi nr e r =
      inside_cell t h parts.p (get_or parts.own.now i (pos 0)) e (cell_at x.height cells i x.column) r (pivot_of x cells)
      (own_back i hi nr) pivot_back

  -- what is to be divided is the new cell, over the same
  pub numerator_is : (j i : ℕ) → i < x.height → (n : ℤ) → IsNumerator cells parts j i n →
      IsNewCell x cells i j (factor_of parts *ℤ n)
  numerator_is j i hi n is = record {
    column = λ e nr.
        rw (is.column e nr)
        (own_cell t h (get_or parts.own.now i (pos 0)) (cell_at x.height cells i x.column) x.denominator
        (own_back i hi nr));
    corner = λ e r. rw (is.corner e r) (own_cell t h parts.u x.denominator x.denominator denominator_back);
    inside = λ ne nr.
        rw (is.inside ne nr)
        (inside_new i hi nr (cell_at x.height cells i j) (cell_at x.height cells x.row j));
    leaving = λ ne r.
        rw (is.leaving ne r)
        (leaving_cell t h parts.u (cell_at x.height cells x.row j) x.denominator denominator_back);
  }

  -- the exchange's row in another column
  pub leaving_is : (j : ℕ) → j ≢ x.column → (g f b over n : ℤ) → f *ℤ g ≡ x.denominator →
      b ≡ cell_at x.height cells x.row j → over *ℤ h ≡ t *ℤ b → n ≡ neg_ℤ over →
      IsNumerator cells parts j x.row ((n *ℤ f) *ℤ g)
  leaving_is j ne g f b over n e eb eo en = record {
    column = λ q. absurd (ne q);
    corner = λ q. absurd (ne q);
    inside = λ _ nr. absurd (nr refl);
    leaving = λ _ _.
        leaving_number t h parts.u b over f g x.denominator n are.factors.turned.square denominator_back eo e en
        ∙ ap (λ (k : ℤ). neg_ℤ (parts.u *ℤ k)) eb;
  }

  -- the new denominator
  pub denominator_is : (g f : ℤ) → f *ℤ g ≡ x.denominator →
      factor_of parts *ℤ (g *ℤ (parts.p *ℤ f)) ≡ pivot_of x cells *ℤ x.denominator
  denominator_is g f e = denominator_cell t h parts.p f g (pivot_of x cells) x.denominator pivot_back e

pub over_start : (x : Exchange) (old : List ℤ) (f : ℤ) (now : List ℤ) → length now ≡ length old →
    pos 0 <ℤ x.denominator → IsOver x old f 0 x.denominator now
over_start x old f now e lt = record {
  same_length = e;
  positive = lt;
  divides = dvd_refl (unsigned_abs x.denominator);
  done = λ i j hi hj. absurd (omega arith);
  greatest = λ k d _. d;
}

module _ (old : List ℤ) (parts : Parts ℤ) (z : ℤ) (are : AreParts old parts z) (j : ℕ) (g h : ℤ) (mid now : List ℤ)
    (c : IsColumnDone old parts j g h mid now) where
  abbrev xs : Exchange
  xs = parts.x.now

  abbrev f : ℤ
  f = factor_of parts

  is : (i : ℕ) → i < xs.height → (n : ℤ) → IsNumerator old parts j i n → IsNewCell xs old i j (f *ℤ n)
  is = numerator_is old parts z are j

  -- what f k divides in a cell, k divides in its numerator
  divides_new : (i : ℕ) → i < xs.height → (k : ℕ) (n : ℤ) → IsNumerator old parts j i n →
      (q : ℤ) × IsNewCell xs old i j (f *ℤ (pos k *ℤ q)) → k ∣ unsigned_abs n
  divides_new i hi k n num d =
      let e : n ≡ pos k *ℤ d.0 =
      cancel f n (pos k *ℤ d.0) (nonzero old parts z are)
      (one_new_cell xs old i j (f *ℤ n) (f *ℤ (pos k *ℤ d.0)) (is i hi n num) d.1) in
      subst (λ (y : ℤ). k ∣ unsigned_abs y) (ring.mul_comm d.0 (pos k) ∙ sym e) (dvd-multiple (pos k) d.0)

  -- the cells of the column, and those before
  done_here : (a : ℕ) → a < xs.height → IsNewCell xs old a j (f *ℤ (h *ℤ cell_at xs.height now a j))
  done_here a ha =
      let y = cell_at xs.height now a j in
      subst (λ (n : ℤ). IsNewCell xs old a j (f *ℤ n)) (ring.mul_comm y h) (is a ha (y *ℤ h) (c.written a ha))

  done_before : (a b : ℕ) → a < xs.height → b < j → IsNewCell xs old a b (f *ℤ (g *ℤ cell_at xs.height mid a b)) →
      IsNewCell xs old a b (f *ℤ (h *ℤ cell_at xs.height now a b))
  done_before a b ha lt u =
      let l = mul-add-lt b xs.height a j lt ha in
      let e = c.rescaled (place xs.height a b) (omega (arith, mul_comm xs.height j)) in
      subst (λ (n : ℤ). IsNewCell xs old a b (f *ℤ n))
      (ring.mul_comm g (cell_at xs.height mid a b) ∙ sym e ∙ ring.mul_comm (cell_at xs.height now a b) h) u

  pub over_column : IsOver xs old f j g mid → IsOver xs old f (j + 1) h now
  over_column u = record {
    same_length = c.same_length ∙ u.same_length;
    positive = c.left.positive;
    divides = dvd_trans _ c.left.divides u.divides;
    done = λ a b ha hb.
        ⊎_elim
        (λ (e : b ≡ j). rw e (done_here a ha))
        (λ (n : b ≢ j).
        let lt : b < j = omega arith in done_before a b ha lt (u.done a b ha lt))
        (cases_eq b j);
    greatest = λ k d all.
        c.left.greatest k (u.greatest k d (λ a b ha hb. all a b ha (omega arith)))
        (λ a ha n num. divides_new a ha k n num (all a j ha (omega arith)));
  }

-- what comes behind the columns that are done may change
pub reached_kept : (old : List ℤ) (parts : Parts ℤ) (j : ℕ) (g f : ℤ) (mid now : List ℤ) →
    AreKept (j * parts.x.now.height) mid now → IsReached old parts j g f mid → IsReached old parts j g f now
reached_kept old parts j g f mid now kept r =
    let h = parts.x.now.height in
    let u = r.over in
    record {
      from_parts = r.from_parts;
      room = kept.same_length ∙ r.room;
      within = r.within;
      scale = r.scale;
      over = record {
        same_length = kept.same_length ∙ u.same_length;
        positive = u.positive;
        divides = u.divides;
        done = λ a b ha hb.
            let l = mul-add-lt b h a j hb ha in
            let e : cell_at h now a b ≡ cell_at h mid a b = kept.kept (place h a b) (omega (arith, mul_comm h j)) in
            subst (λ (z : ℤ). IsNewCell parts.x.now old a b (factor_of parts *ℤ (g *ℤ z))) (sym e) (u.done a b ha hb);
        greatest = u.greatest;
      };
    }
