-- Directions for the labels of a cobasis, each with one positive value at its own label and 0 at
-- the others.
use Rattle.std.proofs.Common.{◌≡◌, ◌≢◌, ℕ, Bool, true, false, cond, List, [], ◌∷◌, ℤ, pos, ◌*ℤ◌, refl, sym, ap, subst, ◌∙◌, arith}
use Rattle.std.specs.Prelude.{◌<ℤ◌, ◌==◌, if◌then◌else◌}
use Rattle.std.specs.List.{Contains}
use Rattle.std.proofs.lemmas.Int.{ints}
use Rattle.std.proofs.lemmas.Bool.{eqb-true, eqb-false}
use Rattle.poly_num.specs.Vectors.{Vector, ◌·◌, scale}
use Rattle.poly_num.proofs.Ring.{expand, mul_comm}
use Rattle.poly_num.proofs.Order.{positive_product}
use Rattle.poly_num.proofs.VectorLemmas.{dot-scale}
use Rattle.poly_model.specs.Spaces.{Space, IsInside, IsDirection}
use Rattle.poly_model.specs.Dictionaries.{IsCobasis, sum_over}
use Rattle.linear_laws.proofs.Members.{Contains-first, Contains-later, Contains-nil}
use Rattle.linear_laws.proofs.Combinations.{zero_at_scale}
use Rattle.linear_laws.proofs.Signs.{square_positive}
use Rattle.dictionary_laws.proofs.Members.{contains_other, sum_zero, sum_single}
use Rattle.dictionary_laws.proofs.Directions.{times_zero, direction_scale, spread, inside_spread}
use Rattle.dictionary_laws.proofs.Duals.{Dual, dual_of, distinct}

pick : (P : Vector → Type 0) (j k : ℕ) (u v : Vector) → (j ≡ k → P u) → (j ≢ k → P v) →
    P (if j == k then u else v)
pick P j k u v f g = by (j == k) refl
  where
    by : (b : Bool) → (j == k) ≡ b → P (cond b u v)
    by true e = f (eqb-true j k e)
    by false e = g (eqb-false j k e)

front_value : (e a : ℤ) → (e *ℤ a) *ℤ a ≡ e *ℤ (a *ℤ a)
front_value e a = simp expand

module _ (space : Space) where
  -- directions for these labels of the key, each with one value at its own label and 0 at the
  -- others of the key
  pub record Columns (key labels : List ℕ) : Type 0 where
    pub value : ℤ
    pub positive : pos 0 <ℤ value
    pub dual : ℕ → Vector
    pub direction : (k : ℕ) → Contains labels k → IsDirection space (dual k)
    pub here : (k : ℕ) → Contains labels k → space.form k · dual k ≡ value
    pub elsewhere : (k : ℕ) → Contains labels k → (j : ℕ) → Contains key j → j ≢ k →
        space.form j · dual k ≡ pos 0

  one_column : (key labels : List ℕ) (x : ℕ) → Dual space [] key x → Columns key labels →
      Columns key (x ∷ labels)
  one_column key labels x d c = record {
    value = c.value *ℤ (a *ℤ a);
    positive = positive_product c.value (a *ℤ a) c.positive (square_positive a d.here);
    dual = λ k. if k == x then front else behind k;
    direction = λ k i. pick (λ v. IsDirection space v) k x front (behind k)
        (λ e. direction_scale space (c.value *ℤ a) d.vector d.direction)
        (λ n. direction_scale space (a *ℤ a) (c.dual k) (c.direction k (contains_other x labels k i n)));
    here = λ k i. pick (λ v. space.form k · v ≡ c.value *ℤ (a *ℤ a)) k x front (behind k)
        (λ e. subst (λ (j : ℕ). space.form j · front ≡ c.value *ℤ (a *ℤ a)) (sym e)
        (dot-scale (space.form x) (c.value *ℤ a) d.vector ∙ front_value c.value a))
        (λ n. dot-scale (space.form k) (a *ℤ a) (c.dual k)
        ∙ ap (λ (z : ℤ). (a *ℤ a) *ℤ z) (c.here k (contains_other x labels k i n)) ∙ mul_comm (a *ℤ a) c.value);
    elsewhere = λ k i j m n. pick (λ v. space.form j · v ≡ pos 0) k x front (behind k)
        (λ e. zero_at_scale (space.form j) (c.value *ℤ a) d.vector
        (d.elsewhere j m (λ f. n (f ∙ sym e))))
        (λ o. zero_at_scale (space.form j) (a *ℤ a) (c.dual k)
        (c.elsewhere k (contains_other x labels k i o) j m n));
  }
    where
      a : ℤ
      a = space.form x · d.vector

      front : Vector
      front = scale (c.value *ℤ a) d.vector

      behind : ℕ → Vector
      behind k = scale (a *ℤ a) (c.dual k)

  all_columns : (key labels : List ℕ) → ((k : ℕ) → Contains labels k → Dual space [] key k) →
      Columns key labels
  all_columns key [] duals = record {
    value = pos 1;
    positive = omega (arith, ints);
    dual = λ k. [];
    direction = λ k c. absurd (Contains-nil k c);
    here = λ k c. absurd (Contains-nil k c);
    elsewhere = λ k c. absurd (Contains-nil k c);
  }
  all_columns key (x ∷ labels) duals =
      one_column key labels x (duals x (Contains-first x labels))
      (all_columns key labels (λ k c. duals k (Contains-later k x labels c)))

  pub columns : (key : List ℕ) → IsCobasis space key → Columns key key
  columns key cobasis = all_columns key key (dual_of space key cobasis)

  -- the values of a form at the columns, each times a factor
  abbrev pub shares : (key : List ℕ) → Columns key key → (ℕ → ℤ) → Vector → ℕ → ℤ
  shares key c f g k = f k *ℤ (g · c.dual k)

  module _ (key : List ℕ) (cobasis : IsCobasis space key) (c : Columns key key) where
    pub level_sum : (f : ℕ → ℤ) → sum_over key (shares key c f space.infinity) ≡ pos 0
    level_sum f =
        sum_zero key (shares key c f space.infinity)
        (λ k i. times_zero (f k) (space.infinity · c.dual k) (IsDirection.level (c.direction k i)))

    pub own_sum : (f : ℕ → ℤ) (j : ℕ) → Contains key j →
        sum_over key (shares key c f (space.form j)) ≡ f j *ℤ c.value
    own_sum f j i =
        sum_single j key (shares key c f (space.form j)) (distinct space key cobasis) i
        (λ k h n. times_zero (f k) (space.form j · c.dual k) (c.elsewhere k h j i (λ e. n (sym e))))
        ∙ ap (λ (z : ℤ). f j *ℤ z) (c.here j i)

    pub inside_columns : (f : ℕ → ℤ) (base : Vector) → IsInside space base →
        IsInside space (spread space key f c.dual base)
    inside_columns f base h =
        inside_spread space key f c.dual base (λ k i. IsDirection.inside (c.direction k i)) h
