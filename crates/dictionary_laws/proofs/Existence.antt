-- A cobasis has a dictionary. Its columns are dual directions with one value, and its constants are
-- read off a vector at which the labels of the key are 0: a point, or 0 where the space has no point.
use Rattle.std.proofs.Common.{◌≡◌, ℕ, List, ℤ, pos, ◌+ℤ◌, ◌*ℤ◌, neg_ℤ, sym, ap, ◌∙◌, inl, inr, ⊎_elim, arith}
use Rattle.std.specs.Prelude.{◌<ℤ◌}
use Rattle.std.specs.List.{Contains}
use Rattle.std.proofs.lemmas.Int.{ints}
use Rattle.poly_num.specs.Vectors.{Vector, ◌·◌, IsZero}
use Rattle.poly_num.proofs.Ring.{expand, lin, zero_mul}
use Rattle.poly_num.proofs.Order.{positive_product}
use Rattle.poly_num.proofs.VectorLemmas.{dot-zero}
use Rattle.poly_model.specs.Independence.{IsNew, Follows}
use Rattle.poly_model.specs.Spaces.{Space, IsInside, IsDirection, HasPoints}
use Rattle.poly_model.specs.Dictionaries.{Table, IsCobasis, Writes, IsDictionary, sum_over}
use Rattle.dictionary_laws.specs.Numbers.{divided}
use Rattle.dictionary_laws.proofs.Members.{all_from, sum_zero, sum-add}
use Rattle.linear_laws.proofs.Combinations.{combination, dot-combination}
use Rattle.dictionary_laws.proofs.Directions.{times_zero, vanish_zero, inside_combination, spread, dot-spread}
use Rattle.dictionary_laws.proofs.Columns.{Columns, columns, shares, level_sum, own_sum, inside_columns}
use Rattle.dictionary_laws.proofs.Origins.{Origin, some_origin}
use Rattle.linear_laws.proofs.Entries.{zeros, length-zeros, IsZero-zeros}
use Rattle.linear_laws.proofs.FirstBases.{new_or_follows}
use Rattle.dictionary_laws.proofs.Gcds.{gcd_of_numbers, gcd_of_numbers_is}
use Rattle.dictionary_laws.proofs.Least.{GivesConstants, divided_is_dictionary}

-- at a label of the key, and at infinity, what is left of any vector
rest_cancels : (l e v y s x : ℤ) → s ≡ neg_ℤ (l *ℤ v) *ℤ e → x ≡ pos 0 →
    s +ℤ ((e *ℤ l) *ℤ v +ℤ neg_ℤ (e *ℤ y) *ℤ x) ≡ pos 0
rest_cancels l e v y s x h z =
    let f = simp expand at h in
    let g = simp expand at (times_zero (neg_ℤ (e *ℤ y)) x z) in
    simp expand (omega (arith, lin))

rest_level : (l e y s x : ℤ) → s ≡ pos 0 → y *ℤ x ≡ y *ℤ l →
    s +ℤ ((e *ℤ l) *ℤ y +ℤ neg_ℤ (e *ℤ y) *ℤ x) ≡ pos 0
rest_level l e y s x h z =
    let f = simp expand at (ap (λ (t : ℤ). e *ℤ t) z) in
    simp expand (omega (arith, lin))

-- the value of a form, where what is left of a vector is 0
read_off : (l e v y x s t : ℤ) → s +ℤ ((e *ℤ l) *ℤ v +ℤ neg_ℤ (e *ℤ y) *ℤ x) ≡ pos 0 → s +ℤ t ≡ pos 0 →
    (e *ℤ l) *ℤ v ≡ (e *ℤ x) *ℤ y +ℤ t
read_off l e v y x s t h k = let f = simp expand at h in simp expand (omega (arith, lin))

opposite : (l v x : ℤ) → neg_ℤ (l *ℤ v) *ℤ x +ℤ (l *ℤ x) *ℤ v ≡ pos 0
opposite l v x = simp expand (omega (arith, lin))

module _ (space : Space) where
  -- a vector for the constants: what it is at infinity counts only where the space has a point
  record Base (key : List ℕ) : Type 0 where
    vector : Vector
    inside : IsInside space vector
    level : ℤ
    positive : pos 0 <ℤ level
    is_level : (y : Vector) → IsInside space y →
        (space.infinity · y) *ℤ (space.infinity · vector) ≡ (space.infinity · y) *ℤ level
    zero : (j : ℕ) → Contains key j → space.form j · vector ≡ pos 0

  origin_base : (key : List ℕ) → Origin space key → Base key
  origin_base key o = record {
    vector = o.vector;
    inside = o.inside;
    level = o.level;
    positive = o.positive;
    is_level = λ y h. ap (λ (z : ℤ). (space.infinity · y) *ℤ z) o.is_level;
    zero = o.zero;
  }

  zero_base : (key : List ℕ) → ((y : Vector) → IsInside space y → space.infinity · y ≡ pos 0) → Base key
  zero_base key flat = record {
    vector = zeros space.n;
    inside = record {
      width = length-zeros space.n;
      fixed = vanish_zero space.fixed (zeros space.n) (IsZero-zeros space.n);
    };
    level = pos 1;
    positive = omega (arith, ints);
    is_level = λ y h. both_zero (space.infinity · y) (space.infinity · zeros space.n) (flat y h);
    zero = λ j c. dot-zero (space.form j) (zeros space.n) (IsZero-zeros space.n);
  }
    where
      both_zero : (y x : ℤ) → y ≡ pos 0 → y *ℤ x ≡ y *ℤ pos 1
      both_zero y x e = ap (λ (z : ℤ). z *ℤ x) e ∙ zero_mul x ∙ sym (ap (λ (z : ℤ). z *ℤ pos 1) e)

  module _ (key : List ℕ) (cobasis : IsCobasis space key) (c : Columns space key key)
      (o : Base key) where
    -- the numbers over these columns and this vector
    table : Table
    table = record {
      denominator = c.value *ℤ o.level;
      constant = λ i. c.value *ℤ (space.form i · o.vector);
      entry = λ i k. o.level *ℤ (space.form i · c.dual k);
    }

    -- the terms of a form at y, over the columns
    abbrev at_columns : Vector → Vector → ℕ → ℤ
    at_columns g y k = (o.level *ℤ (g · c.dual k)) *ℤ (space.form k · y)

    -- what is left of a vector of the space is 0
    module _ (y : Vector) (inside : IsInside space y) where
      weight : ℕ → ℤ
      weight k = neg_ℤ (o.level *ℤ (space.form k · y))

      base : Vector
      base = combination (c.value *ℤ o.level) y (neg_ℤ (c.value *ℤ (space.infinity · y))) o.vector

      rest : Vector
      rest = spread space key weight c.dual base

      rest_at : (g : Vector) → g · rest ≡ sum_over key (shares space key c weight g)
          +ℤ ((c.value *ℤ o.level) *ℤ (g · y) +ℤ neg_ℤ (c.value *ℤ (space.infinity · y)) *ℤ
          (g · o.vector))
      unfolding rest base
      rest_at g =
          dot-spread space g key weight c.dual base
          ∙ ap (λ (z : ℤ). sum_over key (shares space key c weight g) +ℤ z)
          (dot-combination g (c.value *ℤ o.level) y (neg_ℤ (c.value *ℤ (space.infinity · y))) o.vector)

      rest_direction : IsDirection space rest
      unfolding rest base
      rest_direction = record {
        inside = inside_columns space key cobasis c weight base
            (inside_combination space (c.value *ℤ o.level) y
            (neg_ℤ (c.value *ℤ (space.infinity · y))) o.vector inside o.inside);
        level = rest_at space.infinity
            ∙ rest_level o.level c.value (space.infinity · y)
            (sum_over key (shares space key c weight space.infinity))
            (space.infinity · o.vector) (level_sum space key cobasis c weight) (o.is_level y inside);
      }

      rest_own : (j : ℕ) → Contains key j → space.form j · rest ≡ pos 0
      unfolding weight
      rest_own j i =
          rest_at (space.form j)
          ∙ rest_cancels o.level c.value (space.form j · y) (space.infinity · y)
          (sum_over key (shares space key c weight (space.form j))) (space.form j · o.vector)
          (own_sum space key cobasis c weight j i) (o.zero j i)

      rest_zero : IsZero rest
      rest_zero = cobasis.enough rest rest_direction
          (all_from (λ k. space.form k · rest ≡ pos 0) key rest_own)

      opposite_sums : (g : Vector) →
          sum_over key (shares space key c weight g) +ℤ sum_over key (at_columns g y) ≡ pos 0
      unfolding weight
      opposite_sums g =
          sym (sum-add key (shares space key c weight g) (at_columns g y))
          ∙ sum_zero key (λ k. shares space key c weight g k +ℤ at_columns g y k)
          (λ k _. opposite o.level (space.form k · y) (g · c.dual k))

      value_of : (g : Vector) → (c.value *ℤ o.level) *ℤ (g · y)
          ≡ (c.value *ℤ (g · o.vector)) *ℤ (space.infinity · y) +ℤ sum_over key (at_columns g y)
      value_of g =
          read_off o.level c.value (g · y) (space.infinity · y) (g · o.vector)
          (sum_over key (shares space key c weight g))
          (sum_over key (at_columns g y)) (sym (rest_at g) ∙ dot-zero g rest rest_zero)
          (opposite_sums g)

    table_writes : Writes space key table
    unfolding table
    table_writes = record {
      positive = positive_product c.value o.level c.positive o.positive;
      values = λ i l y inside. value_of y inside (space.form i);
    }

    table_dictionary : GivesConstants space table → (t : Table) × IsDictionary space key t
    table_dictionary given = (
      divided table (gcd_of_numbers space key table),
      divided_is_dictionary space key table (gcd_of_numbers space key table) given cobasis table_writes
          (gcd_of_numbers_is space key table),
    )

  -- the constants over the vector 0
  zero_constants : (key : List ℕ) (cobasis : IsCobasis space key) (c : Columns space key key)
      (flat : (y : Vector) → IsInside space y → space.infinity · y ≡ pos 0) →
      GivesConstants space (table key cobasis c (zero_base key flat))
  unfolding table zero_base
  zero_constants key cobasis c flat =
      inr (λ i l. times_zero c.value (space.form i · zeros space.n)
      (dot-zero (space.form i) (zeros space.n) (IsZero-zeros space.n)))

  pub some_dictionary : (key : List ℕ) → IsCobasis space key → (t : Table) × IsDictionary space key t
  some_dictionary key cobasis =
      ⊎_elim
      (λ (w : IsNew space.n space.fixed space.infinity).
      let p : HasPoints space = record
      { vector = w.0; inside = record { width = w.1; fixed = w.2 }; finite = w.3 } in
      table_dictionary key cobasis c (origin_base key (some_origin space key p cobasis)) (inl p))
      (λ (f : Follows space.n space.fixed space.infinity).
      let flat : (y : Vector) → IsInside space y →
      space.infinity · y ≡ pos 0 = λ y h. f y h.width h.fixed in
      table_dictionary key cobasis c (zero_base key flat) (zero_constants key cobasis c flat))
      (new_or_follows space.n space.fixed space.infinity)
    where
      c : Columns space key key
      c = columns space key cobasis
