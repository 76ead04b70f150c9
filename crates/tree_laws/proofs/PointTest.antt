-- Where the point test holds and no constant is negative, the lists of the rows outside the key are positive; and where
-- they are, no constant is negative.
use Rattle.std.proofs.Common.{◌≡◌, ◌≢◌, ⊎_elim, inl, inr, ℕ, List, [], ◌∷◌, ℤ, pos, neg_ℤ, map, refl, sym, subst, ◌∙◌, arith}
use Rattle.std.specs.Prelude.{◌<ℤ◌, ◌≤ℤ◌, None, Some}
use Rattle.std.specs.List.{Contains}
use Rattle.std.proofs.lemmas.Bool.{cases_eq}
use Rattle.poly_num.specs.Vectors.{IsZero}
use Rattle.poly_num.proofs.Ring.{lin}
use Rattle.poly_model.specs.Spaces.{Space}
use Rattle.poly_model.specs.Dictionaries.{Table}
use Rattle.poly_model.specs.LexOrder.{IsPositive, outside, Precedes, listed_at, list_of}
use Rattle.poly_model.specs.Tree.{IsRowDictionary, IsRowOutside, IsFeasibleRoot, IsLexFeasible, ShowsPoint}
use Rattle.linear_laws.proofs.Members.{Contains-nil, Contains-first, Contains-later}
use Rattle.linear_laws.proofs.Signs.{not_both, nonnegative_zero}
use Rattle.dictionary_laws.proofs.Members.{contains_or, contains_other}
use Rattle.tree_laws.proofs.LexLemmas.{by_sign}
use Rattle.tree_laws.proofs.Levels.{level, own_level, list_is_levels, level_itself, level_inside, level_elsewhere}
use Rattle.tree_laws.proofs.NotZero.{list_is_nonzero}
use Rattle.tree_laws.proofs.OrderLemmas.{outside_has, outside_only, within_has, outside_is_earlier, earlier_outside}

module _ (key : List ℕ) (t : Table) (i : ℕ) (n : Contains key i → ⊥) where
  minus_none : (x : ℤ) → x ≡ pos 0 → neg_ℤ x ≡ pos 0
  minus_none x e = omega (arith, lin)

  -- at another row the number is 0 where the entry is
  number_elsewhere : (k : ℕ) → k ≢ i → (Contains key k → t.entry i k ≡ pos 0) → level key t i (Some k) ≡ pos 0
  number_elsewhere k m h =
      ⊎_elim
      (λ (c : Contains key k). level_inside key t i k n c ∙ minus_none (t.entry i k) (h c))
      (λ (o : Contains key k → ⊥). level_elsewhere key t i k m o)
      (contains_or key k)

  -- zeros up to i, and then the denominator
  positive_from : (xs : List ℕ) → pos 0 <ℤ t.denominator → Contains xs i →
      ((k : ℕ) → Contains key k → Precedes xs k i → t.entry i k ≡ pos 0) →
      IsPositive (map (level key t i) (map Some xs))
  positive_from [] p c h = absurd (Contains-nil i c)
  positive_from (x ∷ xs) p c h =
      ⊎_elim
      (λ (e : x ≡ i). inl (subst (λ k. pos 0 <ℤ level key t i (Some k)) (sym e)
      (subst (λ (v : ℤ). pos 0 <ℤ v) (sym (level_itself key t i n)) p)))
      (λ (m : x ≡ i → ⊥).
      let d : Contains xs i = contains_other x xs i c (λ e. m (sym e)) in
      inr (number_elsewhere x m (λ k. h x k (inl (refl, d))), positive_from xs p d (λ k b q. h k b (inr q))))
      (cases_eq x i)

  zeros_at : (xs : List ℕ) → ((k : ℕ) → Contains xs k → level key t i (Some k) ≡ pos 0) →
      IsZero (map (level key t i) (map Some xs))
  zeros_at [] h = tt
  zeros_at (x ∷ xs) h = (h x (Contains-first x xs), zeros_at xs (λ k c. h k (Contains-later k x xs c)))

module _ (space : Space) (root key : List ℕ) (home t : Table) (h : IsRowDictionary space root home)
    (f : IsFeasibleRoot space key t) (shown : ShowsPoint space.labels root key t) where
  -- a row of the root is not 0 at the point
  not_of_root : (i : ℕ) → IsRowOutside space.labels key i → t.constant i ≡ pos 0 → Contains root i → ⊥
  not_of_root i o z r =
      list_is_nonzero space root key home t h f.dictionary i o
      (subst IsZero (sym (list_is_levels space root key t i o.outside)) (
        z,
        zeros_at key t i o.outside (outside space.labels root) (λ k c.
            number_elsewhere key t i o.outside k
            (λ e. (outside_only space root k c).1 (subst (Contains root) (sym e) r))
            (λ m. shown i o z k m (outside_is_earlier space root k i c (within_has space root i o.row r)))),
      ))

  list_at_zero : (i : ℕ) → IsRowOutside space.labels key i → t.constant i ≡ pos 0 →
      IsPositive (list_of space.labels root key t i)
  list_at_zero i o z =
      subst IsPositive (sym (list_is_levels space root key t i o.outside)) (inr (
        z,
        positive_from key t i o.outside (outside space.labels root) f.dictionary.dictionary.writes.positive
            (outside_has space root i o.row (not_of_root i o z))
            (λ k m p. shown i o z k m (earlier_outside space root k i p)),
      ))

  pub shown_point_is_feasible : IsLexFeasible space root key t
  shown_point_is_feasible = record {
    dictionary = f.dictionary;
    lists = λ i o. by_sign (IsPositive (list_of space.labels root key t i)) (t.constant i)
        (λ p. inl p) (list_at_zero i o) (λ l. absurd (not_both (t.constant i) l (f.constants i o.row)));
  }

-- ---- the constants of positive lists
module _ (space : Space) (root key : List ℕ) (t : Table) (f : IsLexFeasible space root key t) where
  first_number : (x : ℤ) (xs : List ℤ) → IsPositive (x ∷ xs) → pos 0 ≤ℤ x
  first_number x xs (inl h) = omega (arith, lin)
  first_number x xs (inr h) = let e : x ≡ pos 0 = h.0 in omega (arith, lin)

  pub constants_are_not_negative : IsFeasibleRoot space key t
  constants_are_not_negative = record {
    dictionary = f.dictionary;
    constants = λ i l.
        ⊎_elim
        (λ (c : Contains key i). nonnegative_zero (t.constant i) (own_level space key t f.dictionary i c None))
        (λ (n : Contains key i → ⊥).
        first_number (t.constant i) (map (listed_at key t i) (outside space.labels root))
        (f.lists i (record { row = l; outside = n })))
        (contains_or key i);
  }
