-- The list of a row outside the key is not 0.
use Rattle.std.proofs.Common.{◌≡◌, ℕ, List, ℤ, pos, ◌*ℤ◌, sym, ap, subst, ◌∙◌, ⊎_elim}
use Rattle.std.specs.Prelude.{Option, Some}
use Rattle.std.specs.List.{Contains}
use Rattle.poly_num.specs.Vectors.{IsZero}
use Rattle.poly_num.proofs.Order.{mul_nonzero, positive_nonzero}
use Rattle.poly_model.specs.Spaces.{Space}
use Rattle.poly_model.specs.Dictionaries.{Table, sum_over}
use Rattle.poly_model.specs.LexOrder.{list_of}
use Rattle.poly_model.specs.Tree.{IsRowDictionary, IsRowOutside}
use Rattle.linear_laws.proofs.Signs.{minus_zero}
use Rattle.dictionary_laws.specs.Numbers.{IsOwnRow}
use Rattle.dictionary_laws.proofs.Members.{contains_or, sum_zero}
use Rattle.dictionary_laws.proofs.Directions.{times_zero, zero_times}
use Rattle.dictionary_laws.proofs.Values.{own_row}
use Rattle.tree_laws.proofs.ListSums.{zero_at}
use Rattle.tree_laws.proofs.OrderLemmas.{outside_has}
use Rattle.tree_laws.proofs.Numbers.{row_is_label, key_row, composed_entry}
use Rattle.tree_laws.proofs.Levels.{level, places, row_place, list_is_levels, level_itself, level_inside}

module _ (space : Space) (root key : List ℕ) (home t : Table) (h : IsRowDictionary space root home)
    (d : IsRowDictionary space key t) where
  -- weights that are 0 outside the root do not reach a row of the root
  pub root_sum : (i : ℕ) → Contains root i → (Contains key i → ⊥) → (f : ℕ → ℤ) →
      ((c : ℕ) → Contains key c → (Contains root c → ⊥) → f c ≡ pos 0) →
      sum_over key (λ c. f c *ℤ home.entry c i) ≡ pos 0
  root_sum i r n f z =
      sum_zero key (λ c. f c *ℤ home.entry c i) (λ c m.
      ⊎_elim
      (λ (q : Contains root c). times_zero (f c) (home.entry c i) (IsOwnRow.elsewhere
      (own_row space root h.dictionary.cobasis home h.dictionary.writes c q) i r
      (λ e. n (subst (Contains key) (sym e) m))))
      (λ (o : Contains root c → ⊥). zero_times (f c) (home.entry c i) (z c m o))
      (contains_or root c))

  pub home_itself : (i : ℕ) → Contains root i → home.entry i i ≡ home.denominator
  home_itself i r = IsOwnRow.here (own_row space root h.dictionary.cobasis home h.dictionary.writes i r)

  pub key_place : (c : ℕ) → Contains key c → (Contains root c → ⊥) → Contains (places space root) (Some c)
  key_place c m o = row_place space root c (outside_has space root c (key_row space key t d c m) o)

  -- one row
  pub level_is_nonzero : (i : ℕ) → IsRowOutside space.labels key i →
      ((x : Option ℕ) → Contains (places space root) x → level key t i x ≡ pos 0) → ⊥
  level_is_nonzero i o z = ⊎_elim inside apart (contains_or root i)
    where
      apart : (Contains root i → ⊥) → ⊥
      apart n = positive_nonzero t.denominator d.dictionary.writes.positive
          (sym (level_itself key t i o.outside)
          ∙ z (Some i) (row_place space root i (outside_has space root i o.row n)))

      inside : Contains root i → ⊥
      inside r = mul_nonzero t.denominator home.denominator
          (positive_nonzero t.denominator d.dictionary.writes.positive)
          (positive_nonzero home.denominator h.dictionary.writes.positive)
          (ap (λ (x : ℤ). t.denominator *ℤ x) (sym (home_itself i r))
          ∙ composed_entry space key root t home d h i (row_is_label space i o.row) i r
          ∙ root_sum i r o.outside (t.entry i) (λ c m q. minus_zero (t.entry i c)
          (sym (level_inside key t i c o.outside m) ∙ z (Some c) (key_place c m q))))

  pub list_is_nonzero : (i : ℕ) → IsRowOutside space.labels key i → IsZero (list_of space.labels root key t i) → ⊥
  list_is_nonzero i o z =
      level_is_nonzero i o (zero_at (level key t i) (places space root)
      (subst IsZero (list_is_levels space root key t i o.outside) z))
