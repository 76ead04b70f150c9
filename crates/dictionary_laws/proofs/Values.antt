-- What numbers that write the labels over a cobasis are: the values at dual directions, and constants
-- by a point. So the label of the key has its own row, and two such tables are proportional.
use Rattle.std.proofs.Common.{◌≡◌, ◌≢◌, ℕ, List, [], ℤ, pos, ◌+ℤ◌, ◌*ℤ◌, sym, ap, ◌∙◌, arith}
use Rattle.std.specs.List.{Contains}
use Rattle.std.proofs.lemmas.List.Elements.{All-contains}
use Rattle.poly_num.specs.Vectors.{Vector, ◌·◌}
use Rattle.poly_num.proofs.Ring.{expand, lin, mul_zero, mul_comm}
use Rattle.poly_num.proofs.Order.{zero_factor, cancel}
use Rattle.poly_model.specs.Spaces.{Space, IsDirection, HasPoints}
use Rattle.poly_model.specs.Dictionaries.{Table, IsCobasis, Writes, sum_over}
use Rattle.dictionary_laws.specs.Numbers.{IsOwnRow}
use Rattle.dictionary_laws.proofs.Members.{sum_same, sum-scale, sum_single}
use Rattle.dictionary_laws.proofs.Directions.{times_zero, zero_times}
use Rattle.dictionary_laws.proofs.Duals.{Dual, dual_of, distinct}

-- the terms of row i at y, by the label of their column
abbrev pub terms : Space → Table → ℕ → Vector → ℕ → ℤ
terms space t i y k = t.entry i k *ℤ (space.form k · y)

-- a value at infinity of 0 leaves the sum
pub level_value : (c x s v : ℤ) → x ≡ pos 0 → v ≡ c *ℤ x +ℤ s → v ≡ s
level_value c x s v e f = let a = ap (λ (t : ℤ). c *ℤ t) e ∙ mul_zero c in omega (arith, lin)

-- what is added is 0
pub no_sum : (v a s : ℤ) → v ≡ a +ℤ s → s ≡ pos 0 → v ≡ a
no_sum v a s e z = omega (arith, lin)

-- x times the value is the entry times x
pub value_by_factor : (x e v a c : ℤ) → x ≢ pos 0 → e *ℤ v ≡ x *ℤ a → e *ℤ v ≡ c *ℤ x → a ≡ c
value_by_factor x e v a c n h k = cancel x a c n (sym h ∙ k ∙ mul_comm c x)

same_factor : (d e v : ℤ) → v ≢ pos 0 → d *ℤ v ≡ e *ℤ v → e ≡ d
same_factor d e v n h = cancel v e d n (mul_comm v e ∙ sym h ∙ mul_comm d v)

no_factor : (d e v x : ℤ) → v ≢ pos 0 → x ≡ pos 0 → d *ℤ x ≡ e *ℤ v → e ≡ pos 0
no_factor d e v x n z h = zero_factor v e (mul_comm v e ∙ sym h ∙ times_zero d x z) n

-- entries of two tables at one column
proportion : (d e a b v x : ℤ) → v ≢ pos 0 → d *ℤ x ≡ a *ℤ v → e *ℤ x ≡ b *ℤ v → d *ℤ b ≡ e *ℤ a
proportion d e a b v x n h k = cancel v (d *ℤ b) (e *ℤ a) n (
    let f = simp expand at (ap (λ (t : ℤ). e *ℤ t) h) in
    let g = ap (λ (t : ℤ). d *ℤ t) k in
    simp expand (omega (arith, lin)))

-- constants of two tables, by a point
constant_proportion : (d e a b y x s t : ℤ) → y ≢ pos 0 → d *ℤ x ≡ a *ℤ y +ℤ s → e *ℤ x ≡ b *ℤ y +ℤ t →
    d *ℤ t ≡ e *ℤ s → d *ℤ b ≡ e *ℤ a
constant_proportion d e a b y x s t n h k l = cancel y (d *ℤ b) (e *ℤ a) n (
    let f = simp expand at (ap (λ (z : ℤ). e *ℤ z) h) in
    let g = simp expand at (ap (λ (z : ℤ). d *ℤ z) k) in
    simp expand (omega (arith, lin)))

own_constant : (c y d v s : ℤ) → y ≢ pos 0 → d *ℤ v ≡ c *ℤ y +ℤ s → s ≡ d *ℤ v → c ≡ pos 0
own_constant c y d v s n h k = zero_factor y c (let e = mul_comm y c in omega (arith, lin)) n

module _ (space : Space) (key : List ℕ) (cobasis : IsCobasis space key) where
  pub is_label : (k : ℕ) → Contains key k → Contains space.labels k
  is_label k c = All-contains (Contains space.labels) key k cobasis.labels c

  -- a direction at which only k of the key is not 0
  pub value_along : (t : Table) → Writes space key t → (i : ℕ) → Contains space.labels i →
      (k : ℕ) → Contains key k → (z : Vector) → IsDirection space z →
      ((j : ℕ) → Contains key j → j ≢ k → space.form j · z ≡ pos 0) →
      t.denominator *ℤ (space.form i · z) ≡ t.entry i k *ℤ (space.form k · z)
  value_along t w i l k c z direction others =
      level_value (t.constant i) (space.infinity · z)
      (sum_over key (terms space t i z))
      (t.denominator *ℤ (space.form i · z))
      direction.level (w.values i l z direction.inside)
      ∙ sum_single k key (terms space t i z) (distinct space key cobasis) c
      (λ j h n. times_zero (t.entry i j) (space.form j · z) (others j h n))

  -- the value of a label at the dual direction of k
  pub value_at : (t : Table) → Writes space key t → (i : ℕ) → Contains space.labels i →
      (k : ℕ) → Contains key k → (d : Dual space [] key k) →
      t.denominator *ℤ (space.form i · d.vector) ≡ t.entry i k *ℤ (space.form k · d.vector)
  value_at t w i l k c d = value_along t w i l k c d.vector d.direction d.elsewhere

  pub own_row : (t : Table) → Writes space key t → (k : ℕ) → Contains key k → IsOwnRow space key t k
  own_row t w k c = record { here = here k c; elsewhere = apart; constant = constant }
    where
      here : (j : ℕ) → Contains key j → t.entry j j ≡ t.denominator
      here j i =
          let d = dual_of space key cobasis j i in
          same_factor t.denominator (t.entry j j) (space.form j · d.vector) d.here
          (value_at t w j (is_label j i) j i d)

      apart : (j : ℕ) → Contains key j → j ≢ k → t.entry k j ≡ pos 0
      apart j i n =
          let d = dual_of space key cobasis j i in
          no_factor t.denominator (t.entry k j) (space.form j · d.vector)
          (space.form k · d.vector) d.here
          (d.elsewhere k c (λ e. n (sym e))) (value_at t w k (is_label k c) j i d)

      constant : HasPoints space → t.constant k ≡ pos 0
      constant p =
          own_constant (t.constant k) (space.infinity · p.vector) t.denominator
          (space.form k · p.vector)
          (sum_over key (terms space t k p.vector)) p.finite
          (w.values k (is_label k c) p.vector p.inside)
          (sum_single k key (terms space t k p.vector) (distinct space key cobasis) c
          (λ j i n. zero_times (t.entry k j) (space.form j · p.vector) (apart j i n))
          ∙ ap (λ (z : ℤ). z *ℤ (space.form k · p.vector)) (here k c))

  module _ (t u : Table) (w : Writes space key t) (x : Writes space key u) where
    pub entries_proportional : (i : ℕ) → Contains space.labels i → (k : ℕ) → Contains key k →
        t.denominator *ℤ u.entry i k ≡ u.denominator *ℤ t.entry i k
    entries_proportional i l k c =
        let d = dual_of space key cobasis k c in
        proportion t.denominator u.denominator (t.entry i k) (u.entry i k) (space.form k · d.vector)
        (space.form i · d.vector)
        d.here (value_at t w i l k c d) (value_at u x i l k c d)

    sums_proportional : (i : ℕ) → Contains space.labels i → (y : Vector) →
        t.denominator *ℤ sum_over key (terms space u i y) ≡
        u.denominator *ℤ sum_over key (terms space t i y)
    sums_proportional i l y =
        sym (sum-scale t.denominator key (terms space u i y))
        ∙ sum_same key (λ k. t.denominator *ℤ (u.entry i k *ℤ (space.form k · y)))
        (λ k. u.denominator *ℤ (t.entry i k *ℤ (space.form k · y)))
        (λ k c. along t.denominator (u.entry i k) u.denominator (t.entry i k) (space.form k · y)
        (entries_proportional i l k c))
        ∙ sum-scale u.denominator key (terms space t i y)
      where
        along : (d b e a v : ℤ) → d *ℤ b ≡ e *ℤ a → d *ℤ (b *ℤ v) ≡ e *ℤ (a *ℤ v)
        along d b e a v h = let f = simp expand at (ap (λ (z : ℤ). z *ℤ v) h) in omega (arith, lin)

    pub constants_proportional : HasPoints space → (i : ℕ) → Contains space.labels i →
        t.denominator *ℤ u.constant i ≡ u.denominator *ℤ t.constant i
    constants_proportional p i l =
        constant_proportion t.denominator u.denominator (t.constant i) (u.constant i)
        (space.infinity · p.vector) (space.form i · p.vector)
        (sum_over key (terms space t i p.vector)) (sum_over key (terms space u i p.vector))
        p.finite (w.values i l p.vector p.inside) (x.values i l p.vector p.inside)
        (sums_proportional i l p.vector)
