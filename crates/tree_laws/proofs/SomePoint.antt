-- An extreme vector that is positive at infinity is the point of a key at which the point test holds: of one at which
-- the whole order is settled.
use Rattle.std.proofs.Common.{◌≡◌, ◌≢◌, ◌⊎◌, inl, inr, ⊎_elim, ℕ, List, [], ◌∷◌, pos, sym, subst, ◌∙◌}
use Rattle.std.specs.Prelude.{◌<ℤ◌}
use Rattle.std.specs.List.{Contains}
use Rattle.poly_num.specs.Vectors.{Vector, ◌·◌, IsMultipleOf}
use Rattle.poly_num.proofs.Ring.{mul_comm}
use Rattle.poly_num.proofs.Order.{zero_factor, positive_nonzero}
use Rattle.poly_model.specs.Spaces.{Space, IsDirection}
use Rattle.poly_model.specs.Dictionaries.{Table}
use Rattle.poly_model.specs.LexOrder.{rows_in, order, Precedes}
use Rattle.poly_model.specs.Tree.{IsRowDictionary, IsRowOutside, IsFeasibleRoot, ShowsPoint, IsAtPoint, IsExtremeIn}
use Rattle.linear_laws.specs.Distinct.{AreDistinct}
use Rattle.linear_laws.proofs.Members.{Contains-nil, Contains-later}
use Rattle.linear_laws.proofs.Proportions.{values_from_multiples}
use Rattle.linear_laws.proofs.Signs.{zero_or}
use Rattle.dictionary_laws.proofs.Members.{contains_cases}
use Rattle.dictionary_laws.proofs.Directions.{times_zero, zero_times}
use Rattle.dictionary_laws.proofs.Duals.{Dual, dual_of}
use Rattle.dictionary_laws.proofs.Values.{value_at}
use Rattle.tree_laws.proofs.Numbers.{row_is_label}
use Rattle.tree_laws.proofs.OrderLemmas.{order_has, order_only, order_distinct}
use Rattle.tree_laws.proofs.PointValues.{is_key_point, zero_value, nonnegative_constant}
use Rattle.tree_laws.proofs.SettledRows.{IsTight, FollowsIn, Settled, Settles, settle}

module _ (space : Space) (y : Vector) (key : List ℕ) (t : Table) (d : IsRowDictionary space key t) where
  -- at a direction at which the rows of the key that are 0 at y are 0, all rows that are 0 at y are
  all_vanish : (xs : List ℕ) → Settled space y key xs → (z : Vector) → IsDirection space z →
      ((k : ℕ) → IsTight space y k → Contains key k → space.form k · z ≡ pos 0) →
      (i : ℕ) → Contains xs i → IsTight space y i → space.form i · z ≡ pos 0
  all_vanish [] s z direction v i c e = absurd (Contains-nil i c)
  all_vanish (x ∷ xs) s z direction v i c e =
      ⊎_elim
      (λ (q : i ≡ x).
      let f : IsTight space y x = subst (IsTight space y) q e in
      subst (λ k. space.form k · z ≡ pos 0) (sym q)
      (⊎_elim
      (λ (m : Contains key x). v x f m)
      (λ (w : FollowsIn space y xs key x). w z direction (λ k _ g m. v k g m))
      (s.0 f)))
      (λ (m : Contains xs i). all_vanish xs s.1 z direction v i m e)
      (contains_cases x xs i c)

  -- a row outside the key is 0 in the column of a label that does not stand after it
  zero_behind : (xs : List ℕ) → Settled space y key xs → (k : ℕ) → Contains key k → (Contains xs k → ⊥) →
      (i : ℕ) → Contains xs i → IsRowOutside space.labels key i → IsTight space y i → t.entry i k ≡ pos 0
  zero_behind [] s k m n i c o e = absurd (Contains-nil i c)
  zero_behind (x ∷ xs) s k m n i c o e =
      ⊎_elim here
      (λ (b : Contains xs i). zero_behind xs s.1 k m (λ w. n (Contains-later k x xs w)) i b o e)
      (contains_cases x xs i c)
    where
      here : i ≡ x → t.entry i k ≡ pos 0
      here q = by (subst (λ j. Contains key j ⊎ FollowsIn space y xs key j) (sym q) (s.0 (subst (IsTight space y) q e)))
          (dual_of space key d.dictionary.cobasis k m)
        where
          by : Contains key i ⊎ FollowsIn space y xs key i → Dual space [] key k → t.entry i k ≡ pos 0
          by (inl w) z = absurd (o.outside w)
          by (inr f) z =
              zero_factor (space.form k · z.vector) (t.entry i k)
              (mul_comm (space.form k · z.vector) (t.entry i k)
              ∙ sym (value_at space key d.dictionary.cobasis t d.dictionary.writes i (row_is_label space i o.row) k m z)
              ∙ times_zero t.denominator (space.form i · z.vector) (f z.vector z.direction
              (λ j c g w. z.elsewhere j w
              (λ r. n (Contains-later k x xs (subst (λ (l : ℕ). Contains xs l) r c))))))
              z.here

  zero_before : (xs : List ℕ) → AreDistinct xs → Settled space y key xs → (k : ℕ) → Contains key k →
      (i : ℕ) → Precedes xs k i → IsRowOutside space.labels key i → IsTight space y i → t.entry i k ≡ pos 0
  zero_before [] u s k m i p o e = absurd p
  zero_before (x ∷ xs) u s k m i (inl p) o e =
      zero_behind xs s.1 k m (λ c. u.0 (subst (λ (l : ℕ). Contains xs l) p.0 c)) i p.1 o e
  zero_before (x ∷ xs) u s k m i (inr p) o e = zero_before xs u.1 s.1 k m i p o e

  module _ (root : List ℕ) (s : Settled space y key (order space.labels root)) (extreme : IsExtremeIn space y)
      (up : pos 0 <ℤ (space.infinity · y)) where
    -- so y is 0 at the whole key: the dual direction of another label would be along y
    key_is_tight : (k : ℕ) → Contains key k → IsTight space y k
    key_is_tight k m = by (zero_or (space.form k · y)) (dual_of space key d.dictionary.cobasis k m)
      where
        clash : (z : Dual space [] key k) → IsMultipleOf y z.vector → ⊥
        clash z (p, q, n, e) =
            z.here (zero_factor p (space.form k · z.vector)
            (values_from_multiples p q z.vector y e (space.form k)
            ∙ zero_times q (space.form k · y) none) n)
          where
            none : q ≡ pos 0
            none = zero_factor (space.infinity · y) q
                (mul_comm (space.infinity · y) q
                ∙ sym (values_from_multiples p q z.vector y e space.infinity)
                ∙ times_zero p (space.infinity · z.vector) z.direction.level)
                (positive_nonzero (space.infinity · y) up)

        by : IsTight space y k ⊎ (space.form k · y ≢ pos 0) → Dual space [] key k → IsTight space y k
        by (inl e) z = e
        by (inr n) z =
            absurd (clash z (extreme.alone z.vector z.direction.inside (λ _. z.direction.level)
            (λ i r e. all_vanish (order space.labels root) s z.vector z.direction
            (λ j g w. z.elsewhere j w (λ q. n (subst (IsTight space y) q g)))
            i (order_has space root i r) e)))

    pub at_point : IsAtPoint space key y
    at_point = record { primitive = extreme.primitive; inside = extreme.inside; finite = up; nothing = key_is_tight }

    pub feasible : IsFeasibleRoot space key t
    feasible = record {
      dictionary = d;
      constants = λ i l.
          nonnegative_constant space key t d y (is_key_point space key y at_point) i l (extreme.rows i l);
    }

    pub shows_point : AreDistinct (rows_in space.labels) → ShowsPoint space.labels root key t
    shows_point u i o z k m p =
        zero_before (order space.labels root) (order_distinct space root u) s k m i p o
        (zero_value space key t d y (is_key_point space key y at_point) i o.row z)

-- a key at which y is shown
pub record HasPointKey (space : Space) (root : List ℕ) (y : Vector) : Type 0 where
  pub key : List ℕ
  pub table : Table
  pub feasible : IsFeasibleRoot space key table
  pub shown : ShowsPoint space.labels root key table
  pub point : IsAtPoint space key y

pub some_key : (space : Space) (root : List ℕ) (home : Table) → IsRowDictionary space root home →
    AreDistinct (rows_in space.labels) → (y : Vector) → IsExtremeIn space y → pos 0 <ℤ (space.infinity · y) →
    HasPointKey space root y
some_key space root home h u y extreme up =
    by (settle space y root home h (order space.labels root) (order_only space root))
  where
    by : Settles space y (order space.labels root) → HasPointKey space root y
    by b = record {
      key = b.key;
      table = b.table;
      feasible = feasible space y b.key b.table b.dictionary root b.settled extreme up;
      shown = shows_point space y b.key b.table b.dictionary root b.settled extreme up u;
      point = at_point space y b.key b.table b.dictionary root b.settled extreme up;
    }
