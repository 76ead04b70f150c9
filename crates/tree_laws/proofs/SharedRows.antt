-- Two lexicographically feasible cobases no column of which is negative on given rows, at the first that is not 0
-- there: those of the rows that are in one are in the other.
use Rattle.std.proofs.Common.{◌≡◌, ◌⊎◌, inl, inr, ⊎_elim, ℕ, Bool, true, false, cond, true≢false, List, [], ◌∷◌, ◌++◌, ℤ, pos, ◌+ℤ◌, ◌*ℤ◌, map, refl, sym, ap, subst, ◌∙◌, arith}
use Rattle.std.specs.Prelude.{Option, None, Some}
use Rattle.std.specs.List.{Contains}
use Rattle.std.proofs.lemmas.List.Elements.{Contains-append_left, Contains-append_cases}
use Rattle.poly_num.specs.Vectors.{IsZero}
use Rattle.poly_num.proofs.Ring.{lin}
use Rattle.poly_num.proofs.Order.{positive_nonzero}
use Rattle.poly_model.specs.Spaces.{Space, is_member}
use Rattle.poly_model.specs.Dictionaries.{Table, sum_over}
use Rattle.poly_model.specs.LexOrder.{IsNonnegative, rows_in, outside}
use Rattle.poly_model.specs.Tree.{IsRowDictionary, IsLexFeasible}
use Rattle.dictionary_laws.specs.Numbers.{IsOwnRow}
use Rattle.dictionary_laws.proofs.Members.{contains_or, sum_same}
use Rattle.dictionary_laws.proofs.Directions.{times_zero}
use Rattle.dictionary_laws.proofs.Filters.{member_only, member_has}
use Rattle.dictionary_laws.proofs.Values.{own_row}
use Rattle.tree_laws.proofs.ListSums.{nonnegative_zero, zero_at}
use Rattle.tree_laws.proofs.Numbers.{row_is_label, key_row}
use Rattle.tree_laws.proofs.Levels.{level, places, own_level}
use Rattle.tree_laws.proofs.KeyLaw.{key_law}
use Rattle.tree_laws.proofs.NotZero.{level_is_nonzero}
use Rattle.tree_laws.proofs.Neighbours.{levels_nonnegative}
use Rattle.tree_laws.proofs.Ends.{IsGone, ends_of_lists}
use Rattle.tree_laws.proofs.Parents.{same_places}

sum-append : (ks ls : List ℕ) (f : ℕ → ℤ) → sum_over (ks ++ ls) f ≡ sum_over ks f +ℤ sum_over ls f
sum-append [] ls f = omega (arith, lin)
sum-append (k ∷ ks) ls f = let e = sum-append ks ls f in omega (arith, lin)

both_ways : (p q a b : ℤ) → p ≡ q +ℤ a → q ≡ p +ℤ b → a +ℤ b ≡ pos 0
both_ways p q a b h k = omega (arith, lin)

pub beside_none : (p s : ℤ) → s ≡ pos 0 → p *ℤ pos 0 +ℤ s ≡ pos 0
beside_none p s z = let e = times_zero p (pos 0) refl in omega (arith, lin)

module _ (space : Space) (root key other : List ℕ) (home t u : Table) (h : IsRowDictionary space root home)
    (f : IsLexFeasible space root key t) (g : IsLexFeasible space root other u) where
  -- the columns of both keys, each with the list of its label at the other key
  abbrev value : ℕ → ℕ → ℤ
  value q c = cond (is_member c key) (t.entry q c) (u.entry q c)

  abbrev weight : ℕ → Option ℕ → ℤ
  weight c x = cond (is_member c key) (level other u c x) (level key t c x)

  key_terms : (q : ℕ) (x : Option ℕ) →
      sum_over key (λ c. value q c *ℤ weight c x) ≡ sum_over key (λ c. t.entry q c *ℤ level other u c x)
  key_terms q x =
      sum_same key (λ c. value q c *ℤ weight c x) (λ c. t.entry q c *ℤ level other u c x)
      (λ c m. by c (is_member c key) (member_has c key m))
    where
      by : (c : ℕ) (b : Bool) → b ≡ true →
          cond b (t.entry q c) (u.entry q c) *ℤ cond b (level other u c x) (level key t c x)
          ≡ t.entry q c *ℤ level other u c x
      by c true e = refl
      by c false e = absurd (true≢false (sym e))

  other_terms : (q : ℕ) (x : Option ℕ) →
      sum_over other (λ c. value q c *ℤ weight c x) ≡ sum_over other (λ c. u.entry q c *ℤ level key t c x)
  other_terms q x =
      sum_same other (λ c. value q c *ℤ weight c x) (λ c. u.entry q c *ℤ level key t c x)
      (λ c m. by c m (is_member c key) refl)
    where
      by : (c : ℕ) → Contains other c → (b : Bool) → is_member c key ≡ b →
          cond b (t.entry q c) (u.entry q c) *ℤ cond b (level other u c x) (level key t c x)
          ≡ u.entry q c *ℤ level key t c x
      by c m true e =
          times_zero (t.entry q c) (level other u c x) (own_level space other u g.dictionary c m x)
          ∙ sym (times_zero (u.entry q c) (level key t c x)
          (own_level space key t f.dictionary c (member_only c key e) x))
      by c m false e = refl

  -- the key law both ways
  sums_vanish : (q : ℕ) → Contains (rows_in space.labels) q → (x : Option ℕ) →
      sum_over (key ++ other) (λ c. value q c *ℤ weight c x) ≡ pos 0
  sums_vanish q l x =
      sum-append key other (λ c. value q c *ℤ weight c x)
      ∙ ap (λ (z : ℤ). z +ℤ sum_over other (λ c. value q c *ℤ weight c x)) (key_terms q x)
      ∙ ap (λ (z : ℤ). sum_over key (λ c. t.entry q c *ℤ level other u c x) +ℤ z) (other_terms q x)
      ∙ both_ways (t.denominator *ℤ level other u q x) (u.denominator *ℤ level key t q x)
      (sum_over key (λ c. t.entry q c *ℤ level other u c x)) (sum_over other (λ c. u.entry q c *ℤ level key t c x))
      (key_law space key other t u f.dictionary g.dictionary q (row_is_label space q l) x)
      (key_law space other key u t g.dictionary f.dictionary q (row_is_label space q l) x)

  weights_up : (c : ℕ) → Contains (rows_in space.labels) c →
      IsNonnegative (weight c None ∷ map (λ k. weight c (Some k)) (outside space.labels root))
  weights_up c l =
      subst (λ xs. IsNonnegative (weight c None ∷ xs)) (same_places (weight c) (outside space.labels root))
      (by (is_member c key))
    where
      by : (b : Bool) → IsNonnegative (map (λ x. cond b (level other u c x) (level key t c x)) (places space root))
      by true = levels_nonnegative space root other u g c l
      by false = levels_nonnegative space root key t f c l

  of_one : (c : ℕ) → Contains (key ++ other) c → Contains (rows_in space.labels) c
  of_one c m =
      ⊎_elim (λ (i : Contains key c). key_row space key t f.dictionary c i)
      (λ (i : Contains other c). key_row space other u g.dictionary c i)
      (Contains-append_cases key other c m)

  module _ (qs : List ℕ) (rows : (q : ℕ) → Contains qs q → Contains (rows_in space.labels) q)
      (up : (c : ℕ) → Contains key c → IsNonnegative (map (λ q. t.entry q c) qs))
      (there : (c : ℕ) → Contains other c → IsNonnegative (map (λ q. u.entry q c) qs)) where
    columns_up : (c : ℕ) → Contains (key ++ other) c → IsNonnegative (map (λ q. value q c) qs)
    columns_up c m = by (is_member c key) refl (Contains-append_cases key other c m)
      where
        by : (b : Bool) → is_member c key ≡ b → Contains key c ⊎ Contains other c →
            IsNonnegative (map (λ q. cond b (t.entry q c) (u.entry q c)) qs)
        by true e w = up c (member_only c key e)
        by false e (inl i) = absurd (true≢false (sym (member_has c key i) ∙ e))
        by false e (inr i) = there c i

    gone : (k : ℕ) → Contains qs k → Contains key k →
        IsGone (value k) (λ c. weight c None ∷ map (λ j. weight c (Some j)) (outside space.labels root)) k
    gone k q m =
        (ends_of_lists t.denominator qs (key ++ other) (outside space.labels root) value (λ c. weight c None)
        (λ c j. weight c (Some j)) (λ q. pos 0) (λ q j. pos 0) f.dictionary.dictionary.writes.positive
        (λ c i. weights_up c (of_one c i))
        (λ q i. inr (refl, nonnegative_zero (λ j. pos 0) (λ j. refl) (outside space.labels root)))
        (λ c i. inr (columns_up c i))
        (λ q i. beside_none t.denominator (sum_over (key ++ other) (λ c. value q c *ℤ weight c None))
        (sums_vanish q (rows q i) None))
        (λ q j i _. beside_none t.denominator (sum_over (key ++ other) (λ c. value q c *ℤ weight c (Some j)))
        (sums_vanish q (rows q i) (Some j)))
        k q).1 k (Contains-append_left key other k m)

    pub shared_rows : (k : ℕ) → Contains qs k → Contains key k → Contains other k
    shared_rows k q m =
        ⊎_elim
        (λ (c : Contains other k). c)
        (λ (n : Contains other k → ⊥). absurd (by n (is_member k key) (member_has k key m) (gone k q m)))
        (contains_or other k)
      where
        by : (Contains other k → ⊥) → (b : Bool) → b ≡ true →
            IsZero (cond b (level other u k None) (level key t k None)
            ∷ map (λ j. cond b (level other u k (Some j)) (level key t k (Some j))) (outside space.labels root))
            ⊎ (cond b (t.entry k k) (u.entry k k) ≡ pos 0) → ⊥
        by n false e w = true≢false (sym e)
        by n true e (inl z) =
            level_is_nonzero space root other home u h g.dictionary k (record { row = rows k q; outside = n })
            (zero_at (level other u k) (places space root)
            (subst (λ xs. IsZero (level other u k None ∷ xs))
            (sym (same_places (level other u k) (outside space.labels root)))
            z))
        by n true e (inr z) =
            positive_nonzero t.denominator f.dictionary.dictionary.writes.positive
            (sym (IsOwnRow.here (own_row space key f.dictionary.dictionary.cobasis t
            f.dictionary.dictionary.writes k m)) ∙ z)
