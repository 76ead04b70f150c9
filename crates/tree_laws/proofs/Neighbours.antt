-- The neighbours of a lexicographically feasible cobasis: they are feasible, and there is one at most in each column.
use Rattle.std.proofs.Common.{◌≡◌, ⊎_elim, ℕ, List, ℤ, pos, ◌+ℤ◌, ◌-ℤ◌, ◌*ℤ◌, neg_ℤ, map, sym, ap, subst, ◌∙◌, arith}
use Rattle.std.specs.Prelude.{◌<ℤ◌}
use Rattle.std.specs.List.{Contains}
use Rattle.std.proofs.lemmas.Bool.{cases_eq}
use Rattle.std.proofs.lemmas.Int.{by_lt_z}
use Rattle.poly_num.proofs.Ring.{expand, lin, one_mul}
use Rattle.poly_num.proofs.Order.{positive_product}
use Rattle.poly_model.specs.Spaces.{Space}
use Rattle.poly_model.specs.Dictionaries.{Table}
use Rattle.poly_model.specs.LexOrder.{IsNonnegative, rows_in, list_of}
use Rattle.poly_model.specs.Tree.{IsRowDictionary, IsLexFeasible, Leaves, IsNeighbour, exchanged_key}
use Rattle.linear_laws.proofs.Signs.{minus_positive, negative_nonzero}
use Rattle.dictionary_laws.specs.Keys.{Exchanges}
use Rattle.dictionary_laws.specs.Numbers.{IsOwnRow}
use Rattle.dictionary_laws.proofs.Members.{contains_or}
use Rattle.dictionary_laws.proofs.Directions.{zero_times}
use Rattle.dictionary_laws.proofs.Values.{own_row}
use Rattle.tree_laws.proofs.ListSums.{map_same, nonnegative_along, nonnegative_zero, nonnegative_sum}
use Rattle.tree_laws.proofs.LexLemmas.{by_sign, positive_is_nonnegative, positive_unless_zero}
use Rattle.tree_laws.proofs.GapLemmas.{gaps_antisymmetric}
use Rattle.tree_laws.proofs.Levels.{level, places, level_list, list_is_levels, own_level}
use Rattle.tree_laws.proofs.NotZero.{list_is_nonzero}
use Rattle.tree_laws.proofs.Ties.{no_ties}
use Rattle.tree_laws.proofs.ExchangedKeys.{exchanges}
use Rattle.tree_laws.proofs.Exchange.{gap, ratio_gaps_are, exchanged_dictionary, exchanged_level}

-- ---- the lists of all rows
module _ (space : Space) (root key : List ℕ) (t : Table) (f : IsLexFeasible space root key t) where
  pub levels_nonnegative : (i : ℕ) → Contains (rows_in space.labels) i → IsNonnegative (level_list space root key t i)
  levels_nonnegative i l =
      ⊎_elim
      (λ (c : Contains key i).
      nonnegative_zero (level key t i) (own_level space key t f.dictionary i c) (places space root))
      (λ (n : Contains key i → ⊥).
      subst IsNonnegative (list_is_levels space root key t i n)
      (positive_is_nonnegative (list_of space.labels root key t i) (f.lists i (record { row = l; outside = n }))))
      (contains_or key i)

-- in a column, a row of the key is not negative
pub key_entry : (space : Space) (key : List ℕ) (t : Table) → IsRowDictionary space key t → (i s : ℕ) → Contains key i →
    Contains key s → t.entry i s <ℤ pos 0 → ⊥
key_entry space key t d i s c m l =
    ⊎_elim
    (λ (e : s ≡ i). less_and_more (t.entry i s) t.denominator (ap (t.entry i) e ∙ IsOwnRow.here own)
    d.dictionary.writes.positive l)
    (λ (n : s ≡ i → ⊥). less_and_zero (t.entry i s) (IsOwnRow.elsewhere own s m n) l)
    (cases_eq s i)
  where
    own : IsOwnRow space key t i
    own = own_row space key d.dictionary.cobasis t d.dictionary.writes i c

    less_and_more : (x d : ℤ) → x ≡ d → pos 0 <ℤ d → x <ℤ pos 0 → ⊥
    less_and_more x d e h l = omega (arith, lin)

    less_and_zero : (x : ℤ) → x ≡ pos 0 → x <ℤ pos 0 → ⊥
    less_and_zero x e l = omega (arith, lin)

-- ---- the lists of a neighbour
module _ (space : Space) (root key new : List ℕ) (t u : Table) (f : IsLexFeasible space root key t)
    (e : IsRowDictionary space new u) (s r : ℕ) (c : Contains key s) (x : Exchanges key new r s)
    (l : Leaves space.labels root key t s r) where
  gaps_nonnegative : (i : ℕ) → Contains (rows_in space.labels) i →
      IsNonnegative (map (gap key t s r i) (places space root))
  gaps_nonnegative i row =
      by_sign (IsNonnegative (map (gap key t s r i) (places space root))) (t.entry i s) more none less
    where
      less : t.entry i s <ℤ pos 0 → IsNonnegative (map (gap key t s r i) (places space root))
      less h =
          let n : Contains key i → ⊥ = λ m. key_entry space key t f.dictionary i s m c h in
          subst IsNonnegative (ratio_gaps_are space root key t s r i l.row.outside n)
          (l.least i (record { row = row; outside = n }) h)

      none : t.entry i s ≡ pos 0 → IsNonnegative (map (gap key t s r i) (places space root))
      none z =
          nonnegative_along (neg_ℤ (t.entry r s)) (pos 1) (minus_positive (t.entry r s) l.negative)
          (omega (arith, Rattle.std.proofs.lemmas.Int.ints)) (level key t i) (gap key t s r i)
          (λ y. alone (neg_ℤ (t.entry r s) *ℤ level key t i y) (t.entry i s) (level key t r y) z)
          (places space root) (levels_nonnegative space root key t f i row)
        where
          alone : (a y v : ℤ) → y ≡ pos 0 → a ≡ pos 1 *ℤ (a -ℤ neg_ℤ y *ℤ v)
          alone a y v z =
              let h = zero_times (neg_ℤ y) v (ap neg_ℤ z) in
              let k = one_mul (a -ℤ neg_ℤ y *ℤ v) in omega (arith, lin)

      more : pos 0 <ℤ t.entry i s → IsNonnegative (map (gap key t s r i) (places space root))
      more h =
          subst IsNonnegative
          (map_same (λ y. neg_ℤ (t.entry r s) *ℤ level key t i y +ℤ t.entry i s *ℤ level key t r y) (gap key t s r i)
          (λ y. plus (neg_ℤ (t.entry r s) *ℤ level key t i y) (t.entry i s) (level key t r y)) (places space root))
          (nonnegative_sum (neg_ℤ (t.entry r s)) (t.entry i s) (minus_positive (t.entry r s) l.negative) h
          (level key t i) (level key t r) (places space root) (levels_nonnegative space root key t f i row)
          (levels_nonnegative space root key t f r l.row.row))
        where
          plus : (a y v : ℤ) → a +ℤ y *ℤ v ≡ a -ℤ neg_ℤ y *ℤ v
          plus a y v = simp expand (omega (arith, lin))

  new_nonnegative : (i : ℕ) → Contains (rows_in space.labels) i → IsNonnegative (level_list space root new u i)
  new_nonnegative i row =
      nonnegative_along u.denominator (neg_ℤ (t.entry r s) *ℤ t.denominator) e.dictionary.writes.positive
      (positive_product (neg_ℤ (t.entry r s)) t.denominator (minus_positive (t.entry r s) l.negative)
      f.dictionary.dictionary.writes.positive)
      (gap key t s r i) (level new u i)
      (λ y. sym (exchanged_level space key new t u f.dictionary e s r c l.row x i row y))
      (places space root) (gaps_nonnegative i row)

  new_feasible : (home : Table) → IsRowDictionary space root home → IsLexFeasible space root new u
  new_feasible home h = record {
    dictionary = e;
    lists = λ i o. positive_unless_zero (list_of space.labels root new u i)
        (subst IsNonnegative (sym (list_is_levels space root new u i o.outside)) (new_nonnegative i o.row))
        (list_is_nonzero space root new home u h e i o);
  }

module _ (space : Space) (root key : List ℕ) (t : Table) where
  -- the keys of a neighbour
  pub neighbour_exchanges : (s : ℕ) (new : List ℕ) → IsRowDictionary space key t →
      (n : IsNeighbour space.labels root key t s new) → Exchanges key new n.r s
  neighbour_exchanges s new d n =
      subst (λ l. Exchanges key l n.r s) (sym n.exchange) (exchanges key s n.r d.ascending n.leaves.row.outside)

  pub neighbour_dictionary : (s : ℕ) (new : List ℕ) → IsRowDictionary space key t →
      IsNeighbour space.labels root key t s new →
      (u : Table) × IsRowDictionary space new u
  neighbour_dictionary s new d n =
      subst (λ l. (u : Table) × IsRowDictionary space l u) (sym n.exchange)
      (exchanged_dictionary space key t d s n.r n.column n.leaves.row
      (negative_nonzero (t.entry n.r s) n.leaves.negative))

  pub neighbour_feasible : (s : ℕ) (new : List ℕ) (home u : Table) → IsRowDictionary space root home →
      IsLexFeasible space root key t → IsNeighbour space.labels root key t s new → IsRowDictionary space new u →
      IsLexFeasible space root new u
  neighbour_feasible s new home u h f n e =
      new_feasible space root key new t u f e s n.r n.column (neighbour_exchanges s new f.dictionary n) n.leaves home h

  -- ---- one neighbour
  pub one_row : (home : Table) → IsRowDictionary space root home → IsRowDictionary space key t → (s r q : ℕ) →
      Leaves space.labels root key t s r → Leaves space.labels root key t s q → r ≡ q
  one_row home h d s r q l m =
      ⊎_elim
      (λ (e : r ≡ q). e)
      (λ (n : r ≡ q → ⊥). absurd (less_zero (t.entry r s) l.negative (
      no_ties space root key home t h d q r m.row l.row (λ e. n (sym e)) (neg_ℤ (t.entry r s)) (neg_ℤ (t.entry q s))
      (gaps_antisymmetric (neg_ℤ (t.entry r s)) (list_of space.labels root key t q) (neg_ℤ (t.entry q s))
      (list_of space.labels root key t r) (l.least q m.row m.negative) (m.least r l.row l.negative))).0))
      (cases_eq r q)
    where
      less_zero : (y : ℤ) → y <ℤ pos 0 → neg_ℤ y ≡ pos 0 → ⊥
      less_zero y h z = omega (arith, lin)

  pub one_neighbour : (home : Table) → IsRowDictionary space root home → IsRowDictionary space key t → (s : ℕ)
      (new other : List ℕ) → IsNeighbour space.labels root key t s new → IsNeighbour space.labels root key t s other →
      new ≡ other
  one_neighbour home h d s new other n m =
      n.exchange ∙ ap (exchanged_key key s) (one_row home h d s n.r m.r n.leaves m.leaves) ∙ sym m.exchange
