-- A cobasis is the neighbour of each of its neighbours, in the column of the row that took its place: so each child is
-- a neighbour of its parent.
use Rattle.std.proofs.Common.{◌≡◌, ℕ, List, ℤ, pos, ◌*ℤ◌, neg_ℤ, refl, sym, ap, subst, ◌∙◌}
use Rattle.std.specs.Prelude.{◌<ℤ◌}
use Rattle.poly_num.proofs.Ring.{neg-mul-neg}
use Rattle.poly_num.proofs.Order.{positive_product, positive_factor}
use Rattle.poly_model.specs.Spaces.{Space}
use Rattle.poly_model.specs.Dictionaries.{Table}
use Rattle.poly_model.specs.LexOrder.{IsNonnegative}
use Rattle.poly_model.specs.Tree.{IsRowOutside, IsLexFeasible, Leaves, IsNeighbour, IsParent, exchanged_key}
use Rattle.linear_laws.proofs.Signs.{minus_negative, minus_positive}
use Rattle.dictionary_laws.specs.Keys.{Exchanges}
use Rattle.tree_laws.proofs.ListSums.{nonnegative_along}
use Rattle.tree_laws.proofs.Numbers.{key_row}
use Rattle.tree_laws.proofs.Levels.{level, places}
use Rattle.tree_laws.proofs.ExchangedKeys.{exchanges, leaving_outside, exchanged_back}
use Rattle.tree_laws.proofs.Exchange.{gap, ratio_gaps_are, back_entry, exchanged_level}
use Rattle.tree_laws.proofs.Neighbours.{levels_nonnegative, neighbour_exchanges}

module _ (space : Space) (root key new : List ℕ) (t u : Table) (f : IsLexFeasible space root key t)
    (g : IsLexFeasible space root new u) (s : ℕ) (n : IsNeighbour space.labels root key t s new) where
  there : Exchanges key new n.r s
  there = neighbour_exchanges space root key t s new f.dictionary n

  leaving_row : IsRowOutside space.labels new s
  leaving_row = record {
    row = key_row space key t f.dictionary s n.column;
    outside = leaving_outside key new n.r s there n.column n.leaves.row.outside;
  }

  key_again : key ≡ exchanged_key new n.r s
  key_again =
      exchanged_back key s n.r f.dictionary.ascending n.column n.leaves.row.outside
      ∙ ap (λ l. exchanged_key l n.r s) (sym n.exchange)

  back : Exchanges new key s n.r
  back =
      subst (λ l. Exchanges new l s n.r) (sym key_again)
      (exchanges new n.r s g.dictionary.ascending leaving_row.outside)

  -- the entry at the two labels has one sign, there and back
  negative_back : u.entry s n.r <ℤ pos 0
  negative_back =
      other_negative (t.entry n.r s) (u.entry s n.r) (t.denominator *ℤ u.denominator) n.leaves.negative
      (positive_product t.denominator u.denominator f.dictionary.dictionary.writes.positive
      g.dictionary.dictionary.writes.positive)
      (back_entry space key new t u f.dictionary g.dictionary s n.r n.column n.leaves.row there)
    where
      other_negative : (x y p : ℤ) → x <ℤ pos 0 → pos 0 <ℤ p → x *ℤ y ≡ p → y <ℤ pos 0
      other_negative x y p h l e =
          minus_negative y (positive_factor (neg_ℤ x) (neg_ℤ y) (minus_positive x h)
          (subst (λ (z : ℤ). pos 0 <ℤ z) (sym (neg-mul-neg x y ∙ e)) l))

  leaves_back : Leaves space.labels root new u n.r s
  leaves_back = record {
    row = leaving_row;
    negative = negative_back;
    least = λ i o h. subst IsNonnegative (sym (ratio_gaps_are space root new u n.r s i leaving_row.outside o.outside))
        (nonnegative_along (neg_ℤ (u.entry s n.r) *ℤ u.denominator) t.denominator
        (positive_product (neg_ℤ (u.entry s n.r)) u.denominator (minus_positive (u.entry s n.r) negative_back)
        g.dictionary.dictionary.writes.positive)
        f.dictionary.dictionary.writes.positive (level key t i) (gap new u n.r s i)
        (exchanged_level space new key u t g.dictionary f.dictionary n.r s there.entering leaving_row back i o.row)
        (places space root) (levels_nonnegative space root key t f i o.row));
  }

  pub neighbour_back : (m : IsNeighbour space.labels root new u n.r key) × (m.r ≡ s)
  neighbour_back = (
    record { column = there.entering; r = s; leaves = leaves_back; exchange = key_again },
    refl,
  )

pub child_is_neighbour : (space : Space) (root key parent : List ℕ) (t u : Table) → IsLexFeasible space root key t →
    IsLexFeasible space root parent u → (p : IsParent space.labels root key t parent) →
    (m : IsNeighbour space.labels root parent u p.neighbour.r key) × (m.r ≡ p.s)
child_is_neighbour space root key parent t u f g p = neighbour_back space root key parent t u f g p.s p.neighbour
