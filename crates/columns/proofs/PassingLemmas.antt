-- Where a number that the exchange makes passes, so does what its place takes.
use Rattle.std.proofs.Common.{◌≡◌, ◌≢◌, ℕ, ◌*◌, ◌<◌, ◌≤◌, ℤ, pos, neg_ℤ, ◌*ℤ◌, ◌-ℤ◌, List, get_or, arith, sym, ap, subst, ◌∙◌, Option, Some, None, Result, Ok, Err}
use Rattle.std.specs.Prelude.{◌<ℤ◌, unsigned_abs}
use Rattle.std.specs.Option.{SomeIff, MatchOption}
use Rattle.std.specs.Result.{MatchResult}
use Rattle.std.proofs.lemmas.Int.{unsigned_abs-mul}
use Rattle.poly_num.specs.Numbers.{IsNum, Crosses}
use Rattle.poly_num.proofs.Ring.{expand, mul_assoc}
use Rattle.poly_num.proofs.Order.{mul_nonzero, positive_nonzero}
use Rattle.poly_num.proofs.FractionLemmas as fractions
use Rattle.poly_num.proofs.DivisorLemmas.{unsigned_abs-neg}
use Rattle.columns.proofs.DivisorLemmas.{at_least}
use Rattle.columns.specs.declared.exchange.Exchange.{Exchange}
use Rattle.columns.specs.declared.parts.Parts.{Parts}
use Rattle.columns.specs.Cells.{cell_at, pivot_of, IsNewCell, CellPasses}
use Rattle.columns.specs.Steps.{IsNumerator, AreParts, factor_of, IsOver, IsScaled, IsRescaled, PassesScaled, PassesRescaled}
use Rattle.columns.proofs.ColumnLemmas.{rescaled}
use Rattle.columns.proofs.OverLemmas.{pivot_back, own_back, nonzero, inside_new, numerator_is, denominator_is}

-- a call that answers exactly where P holds
pub answered : {P : Type 0} {v : ℤ} (r : Option ℤ) (A : Type 0) (B : ℤ → Type 0) → SomeIff r P v → ((P → ⊥) → A) →
    ((z : ℤ) → z ≡ v → B z) → MatchOption r A B
answered None A B h a b = a h
answered (Some z) A B h a b = b z h.1

-- a factor of a number is one
num_of_multiple : (m q z : ℤ) → m ≢ pos 0 → z ≡ m *ℤ q → IsNum z → IsNum q
num_of_multiple m q z ne e num =
    let l = at_least (unsigned_abs q) (unsigned_abs m) (fractions.size_positive m ne) in
    let f : unsigned_abs z ≡ unsigned_abs m * unsigned_abs q = ap unsigned_abs e ∙ unsigned_abs-mul m q in
    omega arith

num_of_neg : (z : ℤ) → IsNum z → IsNum (neg_ℤ z)
num_of_neg z num = let e = unsigned_abs-neg z in omega arith

-- the new cell itself passes
passes_new : (x : Exchange) (cells : List ℤ) (i j : ℕ) (z : ℤ) → i < x.height → j < x.width → IsNewCell x cells i j z →
    (IsNum z → ⊥) → CellPasses x cells i j
passes_new x cells i j z hi hj is fails = record {
  row = hi;
  within = hj;
  column = λ e n num. fails (subst IsNum (sym (is.column e n)) num);
  corner = λ e r num. fails (subst IsNum (sym (is.corner e r)) num);
  inside = λ e n crosses. fails (subst IsNum (sym (is.inside e n)) (crosses.2));
  leaving = λ e r num.
      fails (subst IsNum (sym (is.leaving e r)) (num_of_neg (x.denominator *ℤ cell_at x.height cells x.row j) num));
}

-- numbers over a divisor, times a factor of it
pub rescaled_or_passes : {T : Type 0} (n : ℕ) (g h k : ℤ) (old new : List ℤ) → k *ℤ h ≡ g →
    (r : Result T ℕ) → MatchResult r (λ u. IsScaled n k old new) (λ i. PassesScaled n k old i) →
    MatchResult r (λ u. IsRescaled n g h old new) (λ i. PassesRescaled n g h old i)
rescaled_or_passes n g h k old new e (Ok u) w = rescaled n g h k e old new w
rescaled_or_passes n g h k old new e (Err i) w =
    let y = get_or old i (pos 0) in
    record {
      within = w.within;
      number = y *ℤ k;
      same = mul_assoc y k h ∙ ap (λ (z : ℤ). y *ℤ z) e;
      passes = w.passes;
    }

-- an answer that says more
pub answered_more : {T E : Type 0} {P P' : T → Type 0} {Q Q' : E → Type 0} (r : Result T E) → ((t : T) → P t → P' t) →
    ((e : E) → Q e → Q' e) → MatchResult r P Q → MatchResult r P' Q'
answered_more (Ok t) p q h = p t h
answered_more (Err e) p q h = q e h

-- two ways to group three factors
grouped : (f g q : ℤ) → f *ℤ (q *ℤ g) ≡ (f *ℤ g) *ℤ q
grouped f g q = simp expand

module _ (cells : List ℤ) (parts : Parts ℤ) (z : ℤ) (are : AreParts cells parts z) where
  abbrev x : Exchange
  x = parts.x.now

  -- a quotient passes
  pub quotient_passes : (j i : ℕ) (q g : ℤ) → i < x.height → j < x.width → pos 0 <ℤ g →
      IsNumerator cells parts j i (q *ℤ g) → (IsNum q → ⊥) → CellPasses x cells i j
  quotient_passes j i q g hi hj lt is fails =
      passes_new x cells i j (factor_of parts *ℤ (q *ℤ g)) hi hj (numerator_is cells parts z are j i hi (q *ℤ g) is)
      (λ num.
      fails
      (num_of_multiple (factor_of parts *ℤ g) q (factor_of parts *ℤ (q *ℤ g))
      (mul_nonzero (factor_of parts) g (nonzero cells parts z are) (positive_nonzero g lt)) (grouped (factor_of parts) g q)
      num))

  -- a product of what is to be divided passes, or the difference of two
  pub crosses_passes : (j i : ℕ) → i < x.height → j < x.width → j ≢ x.column → i ≢ x.row → (e c b : ℤ) →
      e ≡ cell_at x.height cells i j → c ≡ get_or parts.own.now i (pos 0) → b ≡ cell_at x.height cells x.row j →
      (Crosses e parts.p c b → ⊥) → CellPasses x cells i j
  crosses_passes j i hi hj ne nr e c b ee ec eb fails = record {
    row = hi;
    within = hj;
    column = λ q. absurd (ne q);
    corner = λ q. absurd (ne q);
    inside = λ _ _ cross.
        let f = factor_of parts in
        let own = get_or parts.own.now i (pos 0) in
        let cell = cell_at x.height cells i j in
        let r = cell_at x.height cells x.row j in
        let nz = nonzero cells parts z are in
        let t = parts.factors.now.sign in
        let h = parts.factors.now.common in
        let left : cell *ℤ pivot_of x cells ≡ f *ℤ (cell *ℤ parts.p) =
        rw (← (pivot_back cells parts z are)) (simp expand) in
        let right : cell_at x.height cells i x.column *ℤ r ≡ f *ℤ (own *ℤ r) =
        rw (← (own_back cells parts z are i hi nr)) (simp expand) in
        fails
        (rw (ee, ec, eb) (
          num_of_multiple f (cell *ℤ parts.p) (cell *ℤ pivot_of x cells) nz left (cross.0),
          num_of_multiple f (own *ℤ r) (cell_at x.height cells i x.column *ℤ r) nz right (cross.1),
          num_of_multiple f (cell *ℤ parts.p -ℤ own *ℤ r)
              (cell *ℤ pivot_of x cells -ℤ cell_at x.height cells i x.column *ℤ r) nz
              (sym (inside_new cells parts z are i hi nr cell r)) (cross.2),
        ));
    leaving = λ _ r. absurd (nr r);
  }

  -- a cell that is done passes where it grows
  pub rescaled_passes : (n : ℕ) (g h : ℤ) (now : List ℤ) → pos 0 <ℤ h → n ≤ x.width → IsOver x cells (factor_of parts) n g now →
      (i j : ℕ) → i < x.height → j < n → (q : ℤ) → q *ℤ h ≡ cell_at x.height now i j *ℤ g → (IsNum q → ⊥) →
      CellPasses x cells i j
  rescaled_passes n g h now lt le u i j hi hj q e fails =
      let f = factor_of parts in
      let y = cell_at x.height now i j in
      let same : f *ℤ (g *ℤ y) ≡ (f *ℤ h) *ℤ q =
      (let a : f *ℤ (g *ℤ y) ≡ f *ℤ (y *ℤ g) = simp expand in a) ∙ ap (λ (k : ℤ). f *ℤ k) (sym e) ∙ grouped f h q in
      passes_new x cells i j (f *ℤ (g *ℤ y)) hi (omega arith) (u.done i j hi hj)
      (λ num.
      fails
      (num_of_multiple (f *ℤ h) q (f *ℤ (g *ℤ y))
      (mul_nonzero f h (nonzero cells parts z are) (positive_nonzero h lt)) same num))

  -- the new denominator passes
  pub denominator_passes : (g f : ℤ) → pos 0 <ℤ g → f *ℤ g ≡ x.denominator → (IsNum (parts.p *ℤ f) → ⊥) →
      IsNum (pivot_of x cells *ℤ x.denominator) → ⊥
  denominator_passes g f lt e fails num =
      let k = factor_of parts in
      let same : k *ℤ (g *ℤ (parts.p *ℤ f)) ≡ (k *ℤ g) *ℤ (parts.p *ℤ f) = simp expand in
      fails
      (num_of_multiple (k *ℤ g) (parts.p *ℤ f) (pivot_of x cells *ℤ x.denominator)
      (mul_nonzero k g (nonzero cells parts z are) (positive_nonzero g lt))
      (sym (denominator_is cells parts z are g f e) ∙ same) num)
