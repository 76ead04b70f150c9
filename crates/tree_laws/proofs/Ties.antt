-- The lists of two rows outside the key are not multiples of each other: no row ties with another in the ratio test.
use Rattle.std.proofs.Common.{◌≡◌, ◌≢◌, ℕ, List, ℤ, pos, ◌+ℤ◌, ◌-ℤ◌, ◌*ℤ◌, neg_ℤ, sym, ap, subst, ◌∙◌, ⊎_elim, arith}
use Rattle.std.specs.Prelude.{◌<ℤ◌, Option, Some}
use Rattle.std.specs.List.{Contains}
use Rattle.poly_num.specs.Vectors.{IsZero}
use Rattle.poly_num.proofs.Ring.{expand, lin, mul_comm}
use Rattle.poly_num.proofs.Order.{zero_factor, positive_nonzero}
use Rattle.poly_model.specs.Spaces.{Space}
use Rattle.poly_model.specs.Dictionaries.{Table, sum_over}
use Rattle.poly_model.specs.LexOrder.{gaps, list_of}
use Rattle.poly_model.specs.Tree.{IsRowDictionary, IsRowOutside}
use Rattle.linear_laws.proofs.Signs.{minus_zero}
use Rattle.dictionary_laws.specs.Numbers.{IsOwnRow}
use Rattle.dictionary_laws.proofs.Members.{contains_or, sum_same, sum-scale, sum-add}
use Rattle.dictionary_laws.proofs.Directions.{times_zero, zero_times}
use Rattle.dictionary_laws.proofs.Values.{own_row}
use Rattle.tree_laws.proofs.ListSums.{gaps_of_maps, zero_at}
use Rattle.tree_laws.proofs.Numbers.{row_is_label, composed_entry}
use Rattle.tree_laws.proofs.Levels.{level, places, row_place, level_list, list_is_levels, level_itself, level_inside, level_elsewhere}
use Rattle.tree_laws.proofs.OrderLemmas.{outside_has}
use Rattle.tree_laws.proofs.NotZero.{root_sum, home_itself, key_place}

minus_both : (a b x y : ℤ) → a *ℤ neg_ℤ x +ℤ b *ℤ neg_ℤ y ≡ pos 0 → a *ℤ x +ℤ b *ℤ y ≡ pos 0
minus_both a b x y e = let f = simp expand at e in omega (arith, lin)

-- a combination of two sums, over another denominator
both_times : (a b d x y s r : ℤ) → d *ℤ x ≡ s → d *ℤ y ≡ r → d *ℤ (a *ℤ x +ℤ b *ℤ y) ≡ a *ℤ s +ℤ b *ℤ r
both_times a b d x y s r h k =
    let f = ap (λ (w : ℤ). a *ℤ w) h in let g = ap (λ (w : ℤ). b *ℤ w) k in simp expand (omega (arith, lin))

two_terms : (a b x y z : ℤ) → a *ℤ (x *ℤ z) +ℤ b *ℤ (y *ℤ z) ≡ (a *ℤ x +ℤ b *ℤ y) *ℤ z
two_terms a b x y z = simp expand

first_left : (a b x y d : ℤ) → pos 0 <ℤ d → x ≡ d → a *ℤ x +ℤ b *ℤ y ≡ pos 0 → b *ℤ y ≡ pos 0 → a ≡ pos 0
first_left a b x y d h i e f =
    zero_factor d a (mul_comm d a ∙ ap (λ (z : ℤ). a *ℤ z) (sym i) ∙ only a b x y e f) (positive_nonzero d h)
  where
    only : (a b x y : ℤ) → a *ℤ x +ℤ b *ℤ y ≡ pos 0 → b *ℤ y ≡ pos 0 → a *ℤ x ≡ pos 0
    only a b x y e f = omega (arith, lin)

module _ (space : Space) (root key : List ℕ) (home t : Table) (h : IsRowDictionary space root home)
    (d : IsRowDictionary space key t) where
  -- this combination of the lists of two rows is 0
  pub AreOpposite : ℤ → ℤ → ℕ → ℕ → Type 0
  AreOpposite a b i j =
      (x : Option ℕ) → Contains (places space root) x → a *ℤ level key t i x +ℤ b *ℤ level key t j x ≡ pos 0

  module _ (a b : ℤ) (i j : ℕ) (o : IsRowOutside space.labels key i) (q : IsRowOutside space.labels key j) (n : i ≢ j)
      (z : AreOpposite a b i j) where
    -- a row outside the root stands in its own list alone
    first_outside : (Contains root i → ⊥) → a ≡ pos 0
    unfolding AreOpposite
    first_outside m =
        first_left a b (level key t i (Some i)) (level key t j (Some i)) t.denominator d.dictionary.writes.positive
        (level_itself key t i o.outside) (z (Some i) (row_place space root i (outside_has space root i o.row m)))
        (times_zero b (level key t j (Some i)) (level_elsewhere key t j i n o.outside))

    -- the combination at a row of the root
    root_combination : Contains root i → t.denominator *ℤ (a *ℤ home.entry i i +ℤ b *ℤ home.entry j i) ≡ pos 0
    unfolding AreOpposite
    root_combination r =
        both_times a b t.denominator (home.entry i i) (home.entry j i) (sum_over key first) (sum_over key second)
        (composed_entry space key root t home d h i (row_is_label space i o.row) i r)
        (composed_entry space key root t home d h j (row_is_label space j q.row) i r)
        ∙ both_sums
        ∙ root_sum space root key home t h d i r o.outside (λ c. a *ℤ t.entry i c +ℤ b *ℤ t.entry j c)
        (λ c m u. minus_both a b (t.entry i c) (t.entry j c) (
        both_are (level key t i (Some c)) (level key t j (Some c)) (t.entry i c) (t.entry j c)
        (level_inside key t i c o.outside m) (level_inside key t j c q.outside m)
        (z (Some c) (key_place space root key home t h d c m u))))
      where
        first : ℕ → ℤ
        first c = t.entry i c *ℤ home.entry c i

        second : ℕ → ℤ
        second c = t.entry j c *ℤ home.entry c i

        both_are : (x y v w : ℤ) → x ≡ neg_ℤ v → y ≡ neg_ℤ w → a *ℤ x +ℤ b *ℤ y ≡ pos 0 →
            a *ℤ neg_ℤ v +ℤ b *ℤ neg_ℤ w ≡ pos 0
        both_are x y v w e f g =
            sym (ap (λ (s : ℤ). a *ℤ s +ℤ b *ℤ y) e ∙ ap (λ (s : ℤ). a *ℤ neg_ℤ v +ℤ b *ℤ s) f) ∙ g

        both_sums : a *ℤ sum_over key first +ℤ b *ℤ sum_over key second
            ≡ sum_over key (λ c. (a *ℤ t.entry i c +ℤ b *ℤ t.entry j c) *ℤ home.entry c i)
        both_sums =
            ap (λ (s : ℤ). s +ℤ b *ℤ sum_over key second) (sym (sum-scale a key first))
            ∙ ap (λ (s : ℤ). sum_over key (λ c. a *ℤ first c) +ℤ s) (sym (sum-scale b key second))
            ∙ sym (sum-add key (λ c. a *ℤ first c) (λ c. b *ℤ second c))
            ∙ sum_same key (λ c. a *ℤ first c +ℤ b *ℤ second c)
            (λ c. (a *ℤ t.entry i c +ℤ b *ℤ t.entry j c) *ℤ home.entry c i)
            (λ c _. two_terms a b (t.entry i c) (t.entry j c) (home.entry c i))

    first_inside : Contains root i → ((Contains root j → ⊥) → b ≡ pos 0) → a ≡ pos 0
    first_inside r other =
        first_left a b (home.entry i i) (home.entry j i) home.denominator h.dictionary.writes.positive
        (home_itself space root key home t h d i r)
        (zero_factor t.denominator (a *ℤ home.entry i i +ℤ b *ℤ home.entry j i) (root_combination r)
        (positive_nonzero t.denominator d.dictionary.writes.positive))
        (⊎_elim
        (λ (s : Contains root j). times_zero b (home.entry j i)
        (IsOwnRow.elsewhere (own_row space root h.dictionary.cobasis home h.dictionary.writes j s) i r n))
        (λ (m : Contains root j → ⊥). zero_times b (home.entry j i) (other m))
        (contains_or root j))

  turned : (a b : ℤ) (i j : ℕ) → AreOpposite a b i j → AreOpposite b a j i
  unfolding AreOpposite
  turned a b i j z x c = swap (a *ℤ level key t i x) (b *ℤ level key t j x) (z x c)
    where
      swap : (u v : ℤ) → u +ℤ v ≡ pos 0 → v +ℤ u ≡ pos 0
      swap u v e = omega (arith, lin)

  pub no_combination : (a b : ℤ) (i j : ℕ) → IsRowOutside space.labels key i → IsRowOutside space.labels key j → i ≢ j →
      AreOpposite a b i j → a ≡ pos 0
  no_combination a b i j o q n z =
      ⊎_elim
      (λ (r : Contains root i). first_inside a b i j o q n z r
      (first_outside b a j i q o (λ e. n (sym e)) (turned a b i j z)))
      (first_outside a b i j o q n z)
      (contains_or root i)

  -- so the ratio test has no ties
  pub no_ties : (i j : ℕ) → IsRowOutside space.labels key i → IsRowOutside space.labels key j → i ≢ j → (p q : ℤ) →
      IsZero (gaps p (list_of space.labels root key t i) q (list_of space.labels root key t j)) →
      (p ≡ pos 0) × (q ≡ pos 0)
  unfolding AreOpposite
  no_ties i j o r n p q z = (
    no_combination p (neg_ℤ q) i j o r n opposite,
    minus_zero q (no_combination (neg_ℤ q) p j i r o (λ e. n (sym e)) (turned p (neg_ℤ q) i j opposite)),
  )
    where
      plus_minus : (p q x y : ℤ) → p *ℤ x -ℤ q *ℤ y ≡ pos 0 → p *ℤ x +ℤ neg_ℤ q *ℤ y ≡ pos 0
      plus_minus p q x y e = simp expand (omega (arith, lin))

      opposite : AreOpposite p (neg_ℤ q) i j
      opposite x c =
          plus_minus p q (level key t i x) (level key t j x)
          (zero_at (λ y. p *ℤ level key t i y -ℤ q *ℤ level key t j y) (places space root)
          (subst IsZero (gaps_of_maps p (level key t i) q (level key t j) (places space root))
          (subst (λ xs. IsZero (gaps p xs q (level_list space root key t j)))
          (list_is_levels space root key t i o.outside)
          (subst (λ ys. IsZero (gaps p (list_of space.labels root key t i) q ys))
          (list_is_levels space root key t j r.outside) z))) x c)
