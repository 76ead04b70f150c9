-- The values of labels at the point of a cobasis and at directions, and that the point is extreme.
use Rattle.std.proofs.Common.{◌≡◌, ◌⊎◌, ⊎_elim, ℕ, List, ℤ, pos, ◌+ℤ◌, ◌*ℤ◌, neg_ℤ, sym, subst, ◌∙◌, arith}
use Rattle.std.specs.Prelude.{◌<ℤ◌, ◌≤ℤ◌}
use Rattle.std.specs.List.{Contains}
use Rattle.poly_num.specs.Vectors.{Vector, ◌·◌, scale, IsZero}
use Rattle.poly_num.proofs.Ring.{expand, lin, mul_comm}
use Rattle.poly_num.proofs.Order.{zero_factor, positive_nonzero}
use Rattle.poly_num.proofs.VectorLemmas.{dot-zero}
use Rattle.poly_model.specs.Spaces.{Space, IsInside, IsDirection}
use Rattle.poly_model.specs.Dictionaries.{Table, sum_over}
use Rattle.poly_model.specs.LexOrder.{rows_in}
use Rattle.poly_model.specs.Tree.{IsRowDictionary, IsFeasibleRoot, IsAtPoint, IsExtremeIn}
use Rattle.linear_laws.proofs.Combinations.{combination, dot-combination, cancels}
use Rattle.linear_laws.proofs.Nearest.{nonnegative_product, nonnegative_factor}
use Rattle.linear_laws.proofs.Proportions.{multiples_from_values}
use Rattle.linear_laws.proofs.Signs.{nonnegative_positive}
use Rattle.dictionary_laws.proofs.Members.{all_from, sum_zero}
use Rattle.dictionary_laws.proofs.Directions.{inside_combination, times_zero, zero_times, zero_at}
use Rattle.dictionary_laws.proofs.Values.{terms, level_value, no_sum}
use Rattle.tree_laws.proofs.Numbers.{row_is_label, key_row}

-- u x + (-x) u
pub meets : (u x s : ℤ) → s ≡ u *ℤ x +ℤ neg_ℤ x *ℤ u → s ≡ pos 0
meets u x s h = h ∙ cancels u x

pub apart : (a b x y : ℤ) → a *ℤ x +ℤ neg_ℤ b *ℤ y ≡ pos 0 → a *ℤ x ≡ b *ℤ y
apart a b x y h = let f = simp expand at h in omega (arith, lin)

-- a vector that is positive at infinity, where the labels of the key are 0
pub record IsKeyPoint (space : Space) (key : List ℕ) (y : Vector) : Type 0 where
  pub inside : IsInside space y
  pub finite : pos 0 <ℤ (space.infinity · y)
  pub nothing : (k : ℕ) → Contains key k → space.form k · y ≡ pos 0

pub is_key_point : (space : Space) (key : List ℕ) (y : Vector) → IsAtPoint space key y → IsKeyPoint space key y
is_key_point space key y at = record { inside = at.inside; finite = at.finite; nothing = at.nothing }

module _ (space : Space) (key : List ℕ) (t : Table) (d : IsRowDictionary space key t) where
  -- a row is 0 at a direction where each of its terms is
  pub row_at_direction : (i : ℕ) → Contains (rows_in space.labels) i → (z : Vector) → IsDirection space z →
      ((c : ℕ) → Contains key c → (t.entry i c ≡ pos 0) ⊎ (space.form c · z ≡ pos 0)) → space.form i · z ≡ pos 0
  row_at_direction i l z direction h =
      zero_factor t.denominator (space.form i · z)
      (level_value (t.constant i) (space.infinity · z) (sum_over key (terms space t i z))
      (t.denominator *ℤ (space.form i · z)) direction.level
      (d.dictionary.writes.values i (row_is_label space i l) z direction.inside)
      ∙ sum_zero key (terms space t i z) (λ c m.
      ⊎_elim
      (λ (e : t.entry i c ≡ pos 0). zero_times (t.entry i c) (space.form c · z) e)
      (λ (e : space.form c · z ≡ pos 0). times_zero (t.entry i c) (space.form c · z) e)
      (h c m)))
      (positive_nonzero t.denominator d.dictionary.writes.positive)

  -- where the labels of the key are 0, the value of a row is its constant, up to the value at infinity
  pub row_at_point : (i : ℕ) → Contains (rows_in space.labels) i → (y : Vector) → IsInside space y →
      ((c : ℕ) → Contains key c → space.form c · y ≡ pos 0) →
      t.denominator *ℤ (space.form i · y) ≡ t.constant i *ℤ (space.infinity · y)
  row_at_point i l y inside h =
      no_sum (t.denominator *ℤ (space.form i · y)) (t.constant i *ℤ (space.infinity · y))
      (sum_over key (terms space t i y))
      (d.dictionary.writes.values i (row_is_label space i l) y inside)
      (sum_zero key (terms space t i y) (λ c m. times_zero (t.entry i c) (space.form c · y) (h c m)))

  module _ (y : Vector) (at : IsKeyPoint space key y) where
    pub zero_constant : (i : ℕ) → Contains (rows_in space.labels) i → space.form i · y ≡ pos 0 → t.constant i ≡ pos 0
    zero_constant i l e =
        zero_factor (space.infinity · y) (t.constant i)
        (mul_comm (space.infinity · y) (t.constant i)
        ∙ sym (row_at_point i l y at.inside at.nothing)
        ∙ times_zero t.denominator (space.form i · y) e)
        (positive_nonzero (space.infinity · y) at.finite)

    pub zero_value : (i : ℕ) → Contains (rows_in space.labels) i → t.constant i ≡ pos 0 → space.form i · y ≡ pos 0
    zero_value i l e =
        zero_factor t.denominator (space.form i · y)
        (row_at_point i l y at.inside at.nothing ∙ zero_times (t.constant i) (space.infinity · y) e)
        (positive_nonzero t.denominator d.dictionary.writes.positive)

    pub nonnegative_constant : (i : ℕ) → Contains (rows_in space.labels) i → pos 0 ≤ℤ (space.form i · y) →
        pos 0 ≤ℤ t.constant i
    nonnegative_constant i l g =
        nonnegative_factor (space.infinity · y) (t.constant i) at.finite
        (subst (λ (v : ℤ). pos 0 ≤ℤ v)
        (row_at_point i l y at.inside at.nothing ∙ mul_comm (t.constant i) (space.infinity · y))
        (nonnegative_product t.denominator (space.form i · y) d.dictionary.writes.positive g))

    pub nonnegative_value : (i : ℕ) → Contains (rows_in space.labels) i → pos 0 ≤ℤ t.constant i →
        pos 0 ≤ℤ (space.form i · y)
    nonnegative_value i l g =
        nonnegative_factor t.denominator (space.form i · y) d.dictionary.writes.positive
        (subst (λ (v : ℤ). pos 0 ≤ℤ v)
        (mul_comm (space.infinity · y) (t.constant i) ∙ sym (row_at_point i l y at.inside at.nothing))
        (nonnegative_product (space.infinity · y) (t.constant i) at.finite g))

    -- the part of z that is 0 at infinity: no direction but 0 is 0 on the key
    level_part : (z : Vector) → IsInside space z → ((c : ℕ) → Contains key c → space.form c · z ≡ pos 0) →
        IsZero (combination (space.infinity · y) z (neg_ℤ (space.infinity · z)) y)
    level_part z inside h =
        d.dictionary.cobasis.enough (combination (space.infinity · y) z (neg_ℤ (space.infinity · z)) y)
        (record {
          inside = inside_combination space (space.infinity · y) z (neg_ℤ (space.infinity · z)) y inside at.inside;
          level = meets (space.infinity · y) (space.infinity · z)
              (space.infinity · combination (space.infinity · y) z (neg_ℤ (space.infinity · z)) y)
              (dot-combination space.infinity (space.infinity · y) z (neg_ℤ (space.infinity · z)) y);
        })
        (all_from
        (λ c. space.form c · combination (space.infinity · y) z (neg_ℤ (space.infinity · z)) y ≡ pos 0) key
        (λ c m. zero_at (space.form c) (space.infinity · y) z (neg_ℤ (space.infinity · z)) y (h c m) (at.nothing c m)))

    -- so z is along y
    pub along_point : (z : Vector) → IsInside space z → ((c : ℕ) → Contains key c → space.form c · z ≡ pos 0) →
        scale (space.infinity · y) z ≡ scale (space.infinity · z) y
    along_point z inside h =
        multiples_from_values (space.infinity · y) (space.infinity · z) z y (inside.width ∙ sym at.inside.width)
        (λ g. apart (space.infinity · y) (space.infinity · z) (g · z) (g · y)
        (sym (dot-combination g (space.infinity · y) z (neg_ℤ (space.infinity · z)) y)
        ∙ dot-zero g (combination (space.infinity · y) z (neg_ℤ (space.infinity · z)) y) (level_part z inside h)))

-- the point is extreme
pub point_is_extreme : (space : Space) (key : List ℕ) (t : Table) (y : Vector) → IsFeasibleRoot space key t →
    IsAtPoint space key y → IsExtremeIn space y
point_is_extreme space key t y f at = record {
  primitive = at.primitive;
  inside = at.inside;
  finite = nonnegative_positive (space.infinity · y) at.finite;
  rows = λ i l. nonnegative_value space key t f.dictionary y (is_key_point space key y at) i l (f.constants i l);
  alone = λ z inside _ h. (
    space.infinity · y,
    space.infinity · z,
    positive_nonzero (space.infinity · y) at.finite,
    along_point space key t f.dictionary y (is_key_point space key y at) z inside
        (λ c m. h c (key_row space key t f.dictionary c m) (at.nothing c m)),
  );
}
