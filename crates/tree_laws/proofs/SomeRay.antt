-- Each extreme vector that is 0 at infinity is shown at a cobasis no column of which is negative on the rows that are 0
-- there: a column whose label is positive at the vector is 0 on all of these rows, so the vector is along it.
use Rattle.std.proofs.Common.{◌≡◌, ◌≢◌, inl, inr, ⊎_elim, ℕ, List, [], ◌∷◌, ℤ, pos, ◌*ℤ◌, map, refl, sym, subst, ◌∙◌, arith}
use Rattle.std.specs.Prelude.{◌<ℤ◌, ◌≤ℤ◌, Some}
use Rattle.std.specs.List.{Contains}
use Rattle.poly_num.specs.Vectors.{Vector, ◌·◌, IsMultipleOf}
use Rattle.poly_num.proofs.Ring.{lin}
use Rattle.poly_num.proofs.Order.{zero_factor, positive_nonzero}
use Rattle.poly_model.specs.Spaces.{Space, IsDirection}
use Rattle.poly_model.specs.Dictionaries.{Table, sum_over}
use Rattle.poly_model.specs.LexOrder.{IsNonnegative, IsPositive, rows_in}
use Rattle.poly_model.specs.Tree.{IsFeasibleRoot, IsLexFeasible, ShowsRay, IsAlongColumn, IsShownAt, IsExtremeIn}
use Rattle.linear_laws.proofs.Members.{Contains-nil}
use Rattle.linear_laws.proofs.Proportions.{values_from_multiples}
use Rattle.linear_laws.proofs.Signs.{zero_or}
use Rattle.dictionary_laws.specs.Numbers.{IsOwnRow}
use Rattle.dictionary_laws.proofs.Members.{all_from}
use Rattle.dictionary_laws.proofs.Directions.{times_zero, zero_times}
use Rattle.dictionary_laws.proofs.Duals.{Dual, dual_of}
use Rattle.dictionary_laws.proofs.Values.{terms, level_value, value_at, own_row}
use Rattle.tree_laws.proofs.ListSums.{zero_at}
use Rattle.tree_laws.proofs.LexLemmas.{by_sign, positive_unless_zero}
use Rattle.tree_laws.proofs.FirstMembers.{IsFirst, first_with}
use Rattle.tree_laws.proofs.Numbers.{row_is_label, key_row}
use Rattle.tree_laws.proofs.Ends.{ends_of_lists}
use Rattle.tree_laws.proofs.SharedRows.{beside_none}
use Rattle.tree_laws.proofs.RayValues.{nonnegative_entry}
use Rattle.tree_laws.proofs.ZeroRows.{zero_rows, zero_rows_only, zero_rows_has, zeros_in_column}
use Rattle.tree_laws.proofs.Roots.{root_is_feasible}
use Rattle.tree_laws.proofs.Chains.{State}
use Rattle.tree_laws.proofs.AlongRows.{IsUpOn, descend_along}

above : (x : ℤ) → pos 0 ≤ℤ x → x ≢ pos 0 → pos 0 <ℤ x
above x h n = by_sign (pos 0 <ℤ x) x (λ p. p) (λ e. absurd (n e)) (λ l. absurd (omega (arith, lin)))

one_number : (x : ℤ) → pos 0 ≤ℤ x → IsNonnegative (x ∷ [])
one_number x h = by_sign (IsNonnegative (x ∷ [])) x (λ p. inl p) (λ e. inr (e, tt)) (λ l. absurd (omega (arith, lin)))

-- a key and a column where y is shown
pub record HasRayKey (space : Space) (root : List ℕ) (y : Vector) : Type 0 where
  pub key : List ℕ
  pub table : Table
  pub column : ℕ
  pub feasible : IsLexFeasible space root key table
  pub shown : IsShownAt space root key table (Some column) y

module _ (space : Space) (root : List ℕ) (y : Vector) (extreme : IsExtremeIn space y)
    (level : space.infinity · y ≡ pos 0) where
  direction : IsDirection space y
  direction = record { inside = extreme.inside; level = level }

  module _ (key : List ℕ) (t : Table) (f : IsLexFeasible space root key t)
      (up : (c : ℕ) → Contains key c → IsNonnegative (map (λ q. t.entry q c) (zero_rows space root y))) where
    not_below : (c : ℕ) → Contains key c → pos 0 ≤ℤ (space.form c · y)
    not_below c m = extreme.rows c (key_row space key t f.dictionary c m)

    terms_vanish : (q : ℕ) → Contains (zero_rows space root y) q → sum_over key (terms space t q y) ≡ pos 0
    terms_vanish q i =
        let w = zero_rows_only space root y q i in
        sym (level_value (t.constant q) (space.infinity · y) (sum_over key (terms space t q y))
        (t.denominator *ℤ (space.form q · y)) level
        (f.dictionary.dictionary.writes.values q (row_is_label space q w.0) y extreme.inside))
        ∙ times_zero t.denominator (space.form q · y) w.1

    -- a column whose label is not 0 at y is 0 on the rows that are
    zero_in_column : (c : ℕ) → Contains key c → space.form c · y ≢ pos 0 → (i : ℕ) → Contains (rows_in space.labels) i →
        space.form i · y ≡ pos 0 → t.entry i c ≡ pos 0
    zero_in_column c m n i l e =
        ⊎_elim
        (λ (z : (space.form c · y ≡ pos 0) × Unit {0}). absurd (n z.0))
        (λ (z : t.entry i c ≡ pos 0). z)
        ((ends_of_lists t.denominator (zero_rows space root y) key [] t.entry (λ c. space.form c · y) (λ c k. pos 0)
        (λ q. pos 0) (λ q k. pos 0) f.dictionary.dictionary.writes.positive
        (λ c m. one_number (space.form c · y) (not_below c m))
        (λ q m. inr (refl, tt))
        (λ c m. inr (up c m))
        (λ q m. beside_none t.denominator (sum_over key (terms space t q y)) (terms_vanish q m))
        (λ q k m n. absurd (Contains-nil k n))
        i (zero_rows_has space root y i l e)).1 c m)

    module _ (s : ℕ) (m : Contains key s) (n : space.form s · y ≢ pos 0) where
      -- so its dual direction is along y, and the other labels are 0 there
      dual_is_multiple : (z : Dual space [] key s) → IsMultipleOf y z.vector
      dual_is_multiple z =
          extreme.alone z.vector z.direction.inside (λ _. z.direction.level)
          (λ i l e. zero_factor t.denominator (space.form i · z.vector)
          (value_at space key f.dictionary.dictionary.cobasis t f.dictionary.dictionary.writes i
          (row_is_label space i l) s m z
          ∙ zero_times (t.entry i s) (space.form s · z.vector) (zero_in_column s m n i l e))
          (positive_nonzero t.denominator f.dictionary.dictionary.writes.positive))

      others_vanish : (c : ℕ) → Contains key c → c ≢ s → space.form c · y ≡ pos 0
      others_vanish c i k =
          let z = dual_of space key f.dictionary.dictionary.cobasis s m in
          by z (dual_is_multiple z)
        where
          by : (z : Dual space [] key s) → IsMultipleOf y z.vector → space.form c · y ≡ pos 0
          by z (p, q, np, e) =
              zero_factor q (space.form c · y)
              (sym (values_from_multiples p q z.vector y e (space.form c))
              ∙ times_zero p (space.form c · z.vector) (z.elsewhere c i k))
              (λ w. z.here (zero_factor p (space.form s · z.vector)
              (values_from_multiples p q z.vector y e (space.form s) ∙ zero_times q (space.form s · y) w) np))

      along : IsAlongColumn space key s y
      along = record {
        primitive = extreme.primitive;
        inside = extreme.inside;
        level = level;
        here = above (space.form s · y) (not_below s m) n;
        nothing = others_vanish;
      }

      shows : ShowsRay space.labels root key t s
      shows = record {
        column = m;
        none = λ i o.
            nonnegative_entry space key t f.dictionary s m y along i o.row (extreme.rows i o.row);
        others = λ j c k. subst (λ qs. IsPositive (map (λ q. t.entry q j) qs))
            (sym (zeros_in_column space root key t f.dictionary s m y along))
            (positive_unless_zero (map (λ q. t.entry q j) (zero_rows space root y)) (up j c)
            (λ z. positive_nonzero t.denominator f.dictionary.dictionary.writes.positive
            (sym (IsOwnRow.here (own_row space key f.dictionary.dictionary.cobasis t
            f.dictionary.dictionary.writes j c))
            ∙ zero_at (λ q. t.entry q j) (zero_rows space root y) z j
            (zero_rows_has space root y j (key_row space key t f.dictionary j c) (others_vanish j c k)))));
      }

    -- some label is not 0 at y
    some_label : (s : ℕ) × Contains key s × (space.form s · y ≢ pos 0)
    some_label =
        ⊎_elim
        (λ (none : (c : ℕ) → Contains key c → space.form c · y ≢ pos 0 → ⊥).
        absurd (extreme.primitive.0 (f.dictionary.dictionary.cobasis.enough y direction
        (all_from (λ c. space.form c · y ≡ pos 0) key
        (λ c m. ⊎_elim (λ (e : space.form c · y ≡ pos 0). e) (λ (n : space.form c · y ≢ pos 0). absurd (none c m n))
        (zero_or (space.form c · y)))))))
        (λ (w : (s : ℕ) × IsFirst (λ c. space.form c · y ≢ pos 0) key s). (w.0, w.1.member, w.1.has))
        (first_with (λ c. space.form c · y ≢ pos 0) key
        (λ c _. ⊎_elim (λ (e : space.form c · y ≡ pos 0). inr (λ n. n e)) (λ (n : space.form c · y ≢ pos 0). inl n)
        (zero_or (space.form c · y))))

    ray_key : HasRayKey space root y
    ray_key =
        let w = some_label in
        record {
          key = key;
          table = t;
          column = w.0;
          feasible = f;
          shown = (shows w.0 w.1 w.2, along w.0 w.1 w.2);
        }

  pub some_ray_key : (home : Table) → IsFeasibleRoot space root home → HasRayKey space root y
  some_ray_key home h =
      by (descend_along space root home h.dictionary (zero_rows space root y)
      (λ q m. (zero_rows_only space root y q m).0)
      (record { key = root; table = home; feasible = root_is_feasible space root home h }))
    where
      by : (e : State space root)
          × IsUpOn space root home h.dictionary (zero_rows space root y)
          (λ q m. (zero_rows_only space root y q m).0) e → HasRayKey space root y
      by (e, up) = ray_key e.key e.table e.feasible up
