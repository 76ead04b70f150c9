-- A vector cleared of labels by their dual vectors: their rows are 0 there, and a form that is 0 at the dual vectors
-- is a multiple of what it was.
use Rattle.std.proofs.Common.{◌≡◌, ◌≢◌, ⊎_elim, ℕ, ℤ, pos, ◌+ℤ◌, ◌*ℤ◌, neg_ℤ, List, [], ◌∷◌, length, sym, ap, ◌∙◌, subst, arith}
use Rattle.std.proofs.lemmas.Bool.{cases_eq}
use Rattle.std.specs.List.{Contains}
use Rattle.poly_num.specs.Vectors.{Vector, ◌·◌}
use Rattle.poly_num.proofs.Ring.{expand, lin, mul_zero, one_mul}
use Rattle.poly_num.proofs.Order.{mul_nonzero}
use Rattle.poly_model.specs.Independence.{Vanish}
use Rattle.linear_laws.proofs.Members.{Contains-nil, Contains-first, Contains-later, Contains-cons_cases}
use Rattle.linear_laws.proofs.Combinations.{combination, dot-combination, length-combination, zero_combination, vanish_combination, cancels}
use Rattle.listing_laws.specs.ListedCone.{ListedCone, row_at}
use Rattle.listing_laws.specs.Directions.{DualVector, DualVectors}

module _ {cone : ListedCone} {labels : List ℕ} (duals : DualVectors cone labels) where
  -- at a multiple of its value at w, g is what it is at `vector`, and the rows of these labels are 0 there
  pub record Cleared (before : List Vector) (g w : Vector) (ks : List ℕ) : Type 0 where
    pub vector : Vector
    pub width : length vector ≡ cone.n
    pub zero_before : Vanish before vector
    pub factor : ℤ
    pub nonzero : factor ≢ pos 0
    pub value : g · vector ≡ factor *ℤ (g · w)
    pub cleared : (k : ℕ) → Contains ks k → row_at cone k · vector ≡ pos 0

  clear_one : (before : List Vector) (g w : Vector) (k : ℕ) (ks : List ℕ) (c : Contains labels k) →
      Vanish before (duals k c).vector → g · (duals k c).vector ≡ pos 0 →
      ((i : ℕ) → Contains ks i → Contains labels i) → Cleared before g w ks → Cleared before g w (k ∷ ks)
  clear_one before g w k ks c v e within r = record {
    vector = u;
    width = length-combination cone.n p r.vector (neg_ℤ q) d.vector r.width d.width;
    zero_before = vanish_combination before p r.vector (neg_ℤ q) d.vector r.zero_before v;
    factor = p *ℤ r.factor;
    nonzero = mul_nonzero p r.factor d.here r.nonzero;
    value = dot-combination g p r.vector (neg_ℤ q) d.vector
        ∙ multiplied p (g · r.vector) (neg_ℤ q) (g · d.vector) r.factor (g · w) e r.value;
    cleared = λ i m.
        ⊎_elim
        (λ (s : i ≡ k). subst (λ (j : ℕ). row_at cone j · u ≡ pos 0) (sym s) here)
        (λ (n : i ≢ k). elsewhere i n
        (⊎_elim (λ (s : k ≡ i). absurd (n (sym s))) (λ (m : Contains ks i). m) (Contains-cons_cases i k ks m)))
        (cases_eq i k);
  }
    where
      d : DualVector cone labels k
      d = duals k c

      p : ℤ
      p = row_at cone k · d.vector

      q : ℤ
      q = row_at cone k · r.vector

      u : Vector
      u = combination p r.vector (neg_ℤ q) d.vector

      multiplied : (p a q b f x : ℤ) → b ≡ pos 0 → a ≡ f *ℤ x → p *ℤ a +ℤ q *ℤ b ≡ (p *ℤ f) *ℤ x
      multiplied p a q b f x e h =
          let s = ap (λ (t : ℤ). q *ℤ t) e ∙ mul_zero q in
          let t : p *ℤ a ≡ p *ℤ (f *ℤ x) = ap (λ (t : ℤ). p *ℤ t) h in
          simp expand (omega (arith, lin))

      here : row_at cone k · u ≡ pos 0
      here = dot-combination (row_at cone k) p r.vector (neg_ℤ q) d.vector ∙ cancels p q

      elsewhere : (i : ℕ) → i ≢ k → Contains ks i → row_at cone i · u ≡ pos 0
      elsewhere i n m =
          dot-combination (row_at cone i) p r.vector (neg_ℤ q) d.vector
          ∙ zero_combination p (row_at cone i · r.vector) (neg_ℤ q) (row_at cone i · d.vector) (r.cleared i m)
          (d.elsewhere i (within i m) n)

  pub clear_all : (before : List Vector) (g w : Vector) (ks : List ℕ) → length w ≡ cone.n → Vanish before w →
      (within : (k : ℕ) → Contains ks k → Contains labels k) →
      ((k : ℕ) (m : Contains ks k) → Vanish before (duals k (within k m)).vector) →
      ((k : ℕ) (m : Contains ks k) → g · (duals k (within k m)).vector ≡ pos 0) → Cleared before g w ks
  clear_all before g w [] l v within before_zero entries = record {
    vector = w;
    width = l;
    zero_before = v;
    factor = pos 1;
    nonzero = λ e. cc;
    value = sym (one_mul (g · w));
    cleared = λ k m. absurd (Contains-nil k m);
  }
  clear_all before g w (k ∷ ks) l v within before_zero entries =
      let first = Contains-first k ks in
      let into = λ (i : ℕ) (m : Contains ks i). Contains-later i k ks m in
      clear_one before g w k ks (within k first) (before_zero k first) (entries k first) (λ i m. within i (into i m))
      (clear_all before g w ks l v (λ i m. within i (into i m)) (λ i m. before_zero i (into i m))
      (λ i m. entries i (into i m)))
