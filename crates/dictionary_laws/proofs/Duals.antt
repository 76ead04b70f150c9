-- Independent labels have dual directions: at each one direction it alone of them is not 0. Distinct
-- labels that have them are independent.
use Rattle.std.proofs.Common.{◌≡◌, ◌≢◌, ℕ, List, [], ◌∷◌, ℤ, pos, ◌*ℤ◌, neg_ℤ, refl, sym, subst, ◌∙◌, ⊎_elim}
use Rattle.std.specs.List.{Contains}
use Rattle.std.proofs.lemmas.Bool.{cases_eq}
use Rattle.poly_num.specs.Vectors.{Vector, ◌·◌}
use Rattle.poly_num.proofs.Order.{mul_nonzero}
use Rattle.poly_model.specs.Spaces.{Space, IsDirection}
use Rattle.poly_model.specs.Dictionaries.{AreIndependent, IsCobasis}
use Rattle.linear_laws.specs.Distinct.{AreDistinct}
use Rattle.linear_laws.proofs.Members.{Contains-first, Contains-later, Contains-nil, all_at}
use Rattle.dictionary_laws.proofs.Members.{by_cases, all_from}
use Rattle.linear_laws.proofs.Combinations.{combination, dot-combination, cancels}
use Rattle.dictionary_laws.proofs.Directions.{cleared_value, zero_at, direction_combination}

module _ (space : Space) where
  -- a direction at which k is not 0, and the labels before and all others of the key are
  pub record Dual (earlier key : List ℕ) (k : ℕ) : Type 0 where
    pub vector : Vector
    pub direction : IsDirection space vector
    pub before : (i : ℕ) → Contains earlier i → space.form i · vector ≡ pos 0
    pub here : space.form k · vector ≢ pos 0
    pub elsewhere : (j : ℕ) → Contains key j → j ≢ k → space.form j · vector ≡ pos 0

  -- a direction with the labels before 0 and k not, and these labels 0
  pub record Cleared (earlier labels : List ℕ) (k : ℕ) : Type 0 where
    pub vector : Vector
    pub direction : IsDirection space vector
    pub before : (i : ℕ) → Contains earlier i → space.form i · vector ≡ pos 0
    pub here : space.form k · vector ≢ pos 0
    pub zero : (j : ℕ) → Contains labels j → space.form j · vector ≡ pos 0

  clear_one : (earlier labels key : List ℕ) (k j : ℕ) → ((i : ℕ) → Contains labels i → Contains key i) →
      Dual (k ∷ earlier) key j → Cleared earlier labels k → Cleared earlier (j ∷ labels) k
  clear_one earlier labels key k j within d c = record {
    vector = w;
    direction = direction_combination space v c.vector (neg_ℤ x) d.vector c.direction d.direction;
    before = λ i h. zero_at (space.form i) v c.vector (neg_ℤ x) d.vector (c.before i h)
        (d.before i (Contains-later i k earlier h));
    here = λ e. mul_nonzero v (space.form k · c.vector) d.here c.here (sym k_is ∙ e);
    zero = by_cases (λ i. space.form i · w ≡ pos 0) j labels
        (dot-combination (space.form j) v c.vector (neg_ℤ x) d.vector ∙ cancels v x)
        (λ i h. ⊎_elim
        (λ (e : i ≡ j). subst (λ (n : ℕ). space.form n · w ≡ pos 0) (sym e)
        (dot-combination (space.form j) v c.vector (neg_ℤ x) d.vector ∙ cancels v x))
        (λ (n : i ≡ j → ⊥). zero_at (space.form i) v c.vector (neg_ℤ x) d.vector (c.zero i h)
        (d.elsewhere i (within i h) n))
        (cases_eq i j));
  }
    where
      v : ℤ
      v = space.form j · d.vector

      x : ℤ
      x = space.form j · c.vector

      w : Vector
      w = combination v c.vector (neg_ℤ x) d.vector

      k_is : space.form k · w ≡ v *ℤ (space.form k · c.vector)
      k_is = dot-combination (space.form k) v c.vector (neg_ℤ x) d.vector
          ∙ cleared_value v x (space.form k · c.vector) (space.form k · d.vector)
          (d.before k (Contains-first k earlier))

  -- cleared of all labels of the key
  clear_all : (earlier labels key : List ℕ) (k : ℕ) → ((i : ℕ) → Contains labels i → Contains key i) →
      ((j : ℕ) → Contains key j → Dual (k ∷ earlier) key j) → Cleared earlier [] k →
      Cleared earlier labels k
  clear_all earlier [] key k within duals c = c
  clear_all earlier (j ∷ labels) key k within duals c =
      let rest = λ (i : ℕ) (h : Contains labels i). within i (Contains-later i j labels h) in
      clear_one earlier labels key k j rest (duals j (within j (Contains-first j labels)))
      (clear_all earlier labels key k rest duals c)

  -- a dual direction, once the label in front is one of the key too
  in_front : (earlier key : List ℕ) (k j : ℕ) → Dual (k ∷ earlier) key j → Dual earlier (k ∷ key) j
  in_front earlier key k j d = record {
    vector = d.vector;
    direction = d.direction;
    before = λ i h. d.before i (Contains-later i k earlier h);
    here = d.here;
    elsewhere = by_cases (λ i. i ≢ j → space.form i · d.vector ≡ pos 0) k key
        (λ _. d.before k (Contains-first k earlier)) d.elsewhere;
  }

  duals_over : (earlier key : List ℕ) → AreIndependent space earlier key →
      (k : ℕ) → Contains key k → Dual earlier key k
  duals_over earlier [] h k c = absurd (Contains-nil k c)
  duals_over earlier (x ∷ key) h k c =
      by_cases (Dual earlier (x ∷ key)) x key
      (front (clear_all earlier key key x (λ i c. c) (duals_over (x ∷ earlier) key h.1) (record {
        vector = h.0.0;
        direction = h.0.1;
        before = all_at (λ i. space.form i · h.0.0 ≡ pos 0) earlier h.0.2;
        here = h.0.3;
        zero = λ j c. absurd (Contains-nil j c);
      })))
      (λ j i. in_front earlier key x j (duals_over (x ∷ earlier) key h.1 j i))
      k c
    where
      front : Cleared earlier key x → Dual earlier (x ∷ key) x
      front c = record {
        vector = c.vector;
        direction = c.direction;
        before = c.before;
        here = c.here;
        elsewhere = by_cases (λ i. i ≢ x → space.form i · c.vector ≡ pos 0) x key
            (λ n. absurd (n refl)) (λ i d _. c.zero i d);
      }

  pub dual_of : (key : List ℕ) → IsCobasis space key → (k : ℕ) → Contains key k → Dual [] key k
  dual_of key h = duals_over [] key h.independent

  distinct_over : (earlier key : List ℕ) → AreIndependent space earlier key → AreDistinct key
  distinct_over earlier [] h = tt
  distinct_over earlier (x ∷ key) h = (
    λ c. let d = duals_over (x ∷ earlier) key h.1 x c in d.here (d.before x (Contains-first x earlier)),
    distinct_over (x ∷ earlier) key h.1,
  )

  pub distinct : (key : List ℕ) → IsCobasis space key → AreDistinct key
  distinct key h = distinct_over [] key h.independent

  independent_over : (earlier key : List ℕ) → AreDistinct key →
      ((k : ℕ) → Contains key k → Dual earlier key k) →
      AreIndependent space earlier key
  independent_over earlier [] h duals = tt
  independent_over earlier (x ∷ key) h duals = (
    (d.vector, d.direction, all_from (λ i. space.form i · d.vector ≡ pos 0) earlier d.before, d.here),
    independent_over (x ∷ earlier) key h.1 (λ k c. behind k c (duals k (Contains-later k x key c))),
  )
    where
      d : Dual earlier (x ∷ key) x
      d = duals x (Contains-first x key)

      behind : (k : ℕ) → Contains key k → Dual earlier (x ∷ key) k → Dual (x ∷ earlier) key k
      behind k c e = record {
        vector = e.vector;
        direction = e.direction;
        before = by_cases (λ i. space.form i · e.vector ≡ pos 0) x earlier
            (e.elsewhere x (Contains-first x key)
            (λ f. h.0 (subst (λ (j : ℕ). Contains key j) (sym f) c))) e.before;
        here = e.here;
        elsewhere = λ j i n. e.elsewhere j (Contains-later j x key i) n;
      }

  -- distinct labels that have dual directions are independent
  pub independent : (key : List ℕ) → AreDistinct key → ((k : ℕ) → Contains key k → Dual [] key k) →
      AreIndependent space [] key
  independent key h duals = independent_over [] key h duals
