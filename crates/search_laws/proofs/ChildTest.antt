-- The test of a child: what enters at the neighbour, read from the dictionary of the parent.
use Rattle.std.proofs.Common.{◌≡◌, ◌≢◌, ◌⊎◌, ◌↔◌, inl, inr, ⊎_elim, ℕ, List, pos, ◌*ℤ◌, neg_ℤ, refl, sym, subst}
use Rattle.std.specs.Prelude.{◌<ℤ◌}
use Rattle.std.specs.List.{Contains}
use Rattle.std.proofs.lemmas.Bool.{cases_eq}
use Rattle.poly_num.proofs.Order.{positive_product}
use Rattle.poly_model.specs.Spaces.{Space}
use Rattle.poly_model.specs.Dictionaries.{Table}
use Rattle.poly_model.specs.LexOrder.{rows_in, IsEarlier}
use Rattle.poly_model.specs.Tree.{IsRowDictionary, IsLexFeasible, Leaves, MayEnter, IsNeighbour, IsParent, exchanged_key}
use Rattle.linear_laws.specs.Distinct.{AreDistinct}
use Rattle.linear_laws.proofs.Signs.{minus_positive}
use Rattle.dictionary_laws.specs.Keys.{Exchanges}
use Rattle.search_laws.specs.Shares.{IsChild}
use Rattle.search_laws.specs.ChildTest.{neighbour_entry, downward, LeadsUp, WouldEnter, IsDown}
use Rattle.tree_laws.proofs.Numbers.{key_row}
use Rattle.tree_laws.proofs.OrderLemmas.{backwards_within_only, one_is_earlier, not_earlier_and_later}
use Rattle.tree_laws.proofs.Neighbours.{neighbour_exchanges, neighbour_dictionary, neighbour_feasible}
use Rattle.tree_laws.proofs.Back.{neighbour_back}
use Rattle.search_laws.proofs.NeighbourColumns.{positive_at_members, column_r, column_j}

module _ (space : Space) (root key new : List ℕ) (t u : Table) (f : IsLexFeasible space root key t)
    (g : IsLexFeasible space root new u) (s : ℕ) (n : IsNeighbour space.labels root key t s new) where
  there : Exchanges key new n.r s
  there = neighbour_exchanges space root key t s new f.dictionary n

  back : IsNeighbour space.labels root new u n.r key
  back = (neighbour_back space root key new t u f g s n).0

  up_here : pos 0 <ℤ t.denominator
  up_here = f.dictionary.dictionary.writes.positive

  up_there : pos 0 <ℤ u.denominator
  up_there = g.dictionary.dictionary.writes.positive

  -- the entry at the two labels is negative there too
  up_back : pos 0 <ℤ neg_ℤ (u.entry s n.r)
  up_back =
      let w = neighbour_back space root key new t u f g s n in
      minus_positive (u.entry s n.r)
      (subst (λ k. u.entry k n.r <ℤ pos 0) w.1 w.0.leaves.negative)

  at_r : (q : ℕ) → Contains (downward space.labels root) q →
      t.denominator *ℤ neg_ℤ (u.entry q n.r) ≡ neg_ℤ (u.entry s n.r) *ℤ t.entry q s
  at_r q c =
      column_r space key new t u f.dictionary g.dictionary s n.r n.column n.leaves.row there q
      (backwards_within_only space root q c).0

  pub enters_up : MayEnter space.labels root u n.r → LeadsUp space.labels root t s
  enters_up =
      positive_at_members t.denominator (neg_ℤ (u.entry s n.r)) up_here up_back (λ q. neg_ℤ (u.entry q n.r))
      (λ q. t.entry q s) (downward space.labels root) at_r

  pub up_enters : LeadsUp space.labels root t s → MayEnter space.labels root u n.r
  up_enters =
      positive_at_members (neg_ℤ (u.entry s n.r)) t.denominator up_back up_here (λ q. t.entry q s)
      (λ q. neg_ℤ (u.entry q n.r)) (downward space.labels root) (λ q c. sym (at_r q c))

  module _ (j : ℕ) (m : Contains key j) (o : j ≢ s) where
    factor_up : pos 0 <ℤ (neg_ℤ (t.entry n.r s) *ℤ t.denominator)
    factor_up =
        positive_product (neg_ℤ (t.entry n.r s)) t.denominator (minus_positive (t.entry n.r s) n.leaves.negative)
        up_here

    at_j : (q : ℕ) → Contains (downward space.labels root) q →
        (neg_ℤ (t.entry n.r s) *ℤ t.denominator) *ℤ neg_ℤ (u.entry q j)
        ≡ u.denominator *ℤ neg_ℤ (neighbour_entry t s n.r j q)
    at_j q c =
        column_j space key new t u f.dictionary g.dictionary s n.r n.column n.leaves.row there j m o q
        (backwards_within_only space root q c).0

    enters_would : MayEnter space.labels root u j → WouldEnter t s n.r j (downward space.labels root)
    enters_would =
        positive_at_members (neg_ℤ (t.entry n.r s) *ℤ t.denominator) u.denominator factor_up up_there
        (λ q. neg_ℤ (u.entry q j)) (λ q. neg_ℤ (neighbour_entry t s n.r j q)) (downward space.labels root) at_j

    would_enters : WouldEnter t s n.r j (downward space.labels root) → MayEnter space.labels root u j
    would_enters =
        positive_at_members u.denominator (neg_ℤ (t.entry n.r s) *ℤ t.denominator) up_there factor_up
        (λ q. neg_ℤ (neighbour_entry t s n.r j q)) (λ q. neg_ℤ (u.entry q j)) (downward space.labels root)
        (λ q c. sym (at_j q c))

  module _ (distinct : AreDistinct (rows_in space.labels)) where
    -- at a child the row that took the place enters
    r_enters : (p : IsParent space.labels root new u key) → p.s ≡ n.r
    r_enters p =
        ⊎_elim
        (λ (e : n.r ≡ p.s). sym e)
        (λ (o : n.r ≡ p.s → ⊥). absurd (n.leaves.row.outside
        (Exchanges.kept (neighbour_exchanges space root new u p.s key g.dictionary p.neighbour) n.r there.entering o)))
        (cases_eq n.r p.s)

    pub to_down : IsParent space.labels root new u key → IsDown space.labels root key t s n.r
    to_down p = record {
      lead = enters_up (subst (λ k. MayEnter space.labels root u k) (r_enters p) p.enters.may);
      others = λ j m o b w. ⊎_elim
          (λ (e : j ≡ n.r). n.leaves.row.outside (subst (Contains key) e m))
          (λ (a : IsEarlier space.labels root n.r j). not_earlier_and_later space root distinct j n.r b a)
          (subst (λ k. (j ≡ k) ⊎ IsEarlier space.labels root k j) (r_enters p)
          (p.enters.least j (there.kept j m o) (would_enters j m o w)));
    }

    pub from_down : IsDown space.labels root key t s n.r → IsParent space.labels root new u key
    from_down w = record {
      s = n.r;
      enters = record { column = there.entering; may = up_enters w.lead; least = least };
      neighbour = back;
    }
      where
        other : (k : ℕ) → MayEnter space.labels root u k → Contains key k → k ≢ s → IsEarlier space.labels root n.r k
        other k m c o =
            ⊎_elim
            (λ (b : IsEarlier space.labels root k n.r). absurd (w.others k c o b (enters_would k c o m)))
            (λ (a : IsEarlier space.labels root n.r k). a)
            (one_is_earlier space root k n.r (key_row space key t f.dictionary k c) n.leaves.row.row
            (λ e. n.leaves.row.outside (subst (Contains key) e c)))

        least : (k : ℕ) → Contains new k → MayEnter space.labels root u k →
            (k ≡ n.r) ⊎ IsEarlier space.labels root n.r k
        least k c m =
            ⊎_elim
            (λ (e : k ≡ n.r). inl e)
            (λ (h : Contains key k × (k ≢ s)). inr (other k m h.0 h.1))
            (there.only k c)

pub child_by_test : (space : Space) (root key : List ℕ) (home t : Table) → AreDistinct (rows_in space.labels) →
    IsRowDictionary space root home → IsLexFeasible space root key t → (s r : ℕ) → Contains key s →
    Leaves space.labels root key t s r →
    IsChild space root key (exchanged_key key s r) ↔ IsDown space.labels root key t s r
child_by_test space root key home t distinct h f s r c l = (
  λ k. to_down space root key new t k.0 f k.1 s n distinct k.2,
  λ w. (u.0, g, from_down space root key new t u.0 f g s n distinct w),
)
  where
    new : List ℕ
    new = exchanged_key key s r

    n : IsNeighbour space.labels root key t s new
    n = record { column = c; r = r; leaves = l; exchange = refl }

    u : (v : Table) × IsRowDictionary space new v
    u = neighbour_dictionary space root key t s new f.dictionary n

    g : IsLexFeasible space root new u.0
    g = neighbour_feasible space root key t s new home u.0 h f n u.1
