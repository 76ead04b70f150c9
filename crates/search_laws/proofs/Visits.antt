-- The start of a run, a visit, and its end.
use Rattle.std.proofs.Common.{◌≡◌, ◌⊎◌, inl, inr, ⊎_elim, ◌+◌, ℕ, suc, List, [], ◌∷◌, ◌++◌, length, length-append, sym, subst, ◌∙◌, arith}
use Rattle.std.specs.List.{Contains}
use Rattle.std.proofs.lemmas.List.Elements.{Contains-append_left, Contains-append_right}
use Rattle.poly_num.specs.Vectors.{Vector}
use Rattle.poly_model.specs.Spaces.{Space}
use Rattle.poly_model.specs.Dictionaries.{Table}
use Rattle.poly_model.specs.LexOrder.{rows_in}
use Rattle.poly_model.specs.Tree.{IsFeasibleRoot}
use Rattle.linear_laws.specs.Distinct.{AreDistinct}
use Rattle.linear_laws.proofs.Members.{Contains-nil, Contains-first, Contains-later}
use Rattle.linear_laws.proofs.Distinct.{distinct_append}
use Rattle.search_laws.specs.Shares.{ListsAll, IsFeasibleKey, IsChild, IsFeasibleUnder, InShare, IsTree}
use Rattle.search_laws.specs.Weights.{IsWeight, IsTotal, IsUnderSome, AreIncomparable}
use Rattle.search_laws.specs.Splits.{IsSplit, IsShownBySome, InSomeShare, AreSplit}
use Rattle.search_laws.proofs.OnceLists.{at_first_or_later, at_either}
use Rattle.search_laws.proofs.ShareParts.{under_twice, child_under, under_itself, is_tree}
use Rattle.search_laws.proofs.Gathered.{Gathers, gather, under_some_first, under_some_later, under_some_cases, children_apart}
use Rattle.search_laws.proofs.Weights.{key_or_under_some, not_itself_under, weight_of_children, one_total, some_total_of}
use Rattle.search_laws.proofs.Splits.{to_front, apart-append, under_some_join, under_some_part, total-parts}

module _ (space : Space) (root : List ℕ) where
  start : (key : List ℕ) → IsFeasibleKey space root key → IsSplit space root key [] (key ∷ [])
  start key f = record {
    once = tt;
    only = λ one c. absurd (Contains-nil one c);
    each = λ one u. inr (under_some_first space root key [] one u);
    not_both = λ one c u. Contains-nil one c;
    waits = at_first_or_later (λ one. IsFeasibleUnder space root key one) key [] (f, under_itself space root key)
        (λ one c. absurd (Contains-nil one c));
    apart = (λ one c. absurd (Contains-nil one c), tt);
  }

  not_itself : (key one : List ℕ) (visited waiting : List (List ℕ)) → IsSplit space root key visited waiting →
      Contains visited one → Contains waiting key → ⊥
  not_itself key one visited waiting s c w =
      let u = s.only one c in
      s.not_both one c (record { feasible = u.0; key = key; member = w; under = u.1 })

  finished : (key : List ℕ) (visited : List (List ℕ)) → IsSplit space root key visited [] →
      ListsAll (IsFeasibleUnder space root key) visited
  finished key visited s = record {
    once = s.once;
    only = s.only;
    each = λ one u. ⊎_elim (λ c. c) (λ w. absurd (Contains-nil w.key w.member)) (s.each one u);
  }

  -- ---- the share
  module _ (key : List ℕ) (visited waiting : List (List ℕ)) (s : IsSplit space root key visited waiting)
      (y : Vector) where
    share_there : InShare space root key y → IsShownBySome space root visited y ⊎ InSomeShare space root waiting y
    share_there (one, u, b) =
        ⊎_elim
        (λ (c : Contains visited one). inl (one, c, b))
        (λ (w : IsUnderSome space root waiting one). inr (w.key, w.member, (one, w.under, b)))
        (s.each one ((b.0, b.1), u))

    share_back : IsShownBySome space root visited y ⊎ InSomeShare space root waiting y → InShare space root key y
    share_back (inl (one, c, b)) = (one, (s.only one c).1, b)
    share_back (inr (k, c, (one, u, b))) = (one, under_twice space root one k key u (s.waits k c).1, b)

module _ (space : Space) (root : List ℕ) (home : Table) (h : IsFeasibleRoot space root home)
    (distinct : AreDistinct (rows_in space.labels)) where
  tree : IsTree space root
  tree = is_tree space root home h distinct

  -- ---- a visit
  module _ (key one : List ℕ) (visited waiting cs : List (List ℕ))
      (s : IsSplit space root key visited (one ∷ waiting)) (l : ListsAll (IsChild space root one) cs) where
    own : IsFeasibleUnder space root key one
    own = s.waits one (Contains-first one waiting)

    apart_from : (o : List ℕ) → Contains waiting o → AreIncomparable space root one o
    apart_from o c = s.apart.0 o c

    -- what is under a child is under the key that is visited
    under_one : (k : List ℕ) → IsUnderSome space root cs k → IsUnderSome space root (one ∷ waiting) k
    under_one k u =
        under_some_first space root one waiting k (
          u.feasible,
          under_twice space root k u.key one u.under (child_under space root one u.key (l.only u.key u.member)),
        )

    either_waits : (k : List ℕ) → IsUnderSome space root (cs ++ waiting) k → IsUnderSome space root (one ∷ waiting) k
    either_waits k u =
        ⊎_elim (under_one k) (under_some_later space root one waiting k) (under_some_part space root cs waiting k u)

    each_visited : (k : List ℕ) → IsFeasibleUnder space root key k →
        Contains (one ∷ visited) k ⊎ IsUnderSome space root (cs ++ waiting) k
    each_visited k u =
        ⊎_elim
        (λ (c : Contains visited k). inl (Contains-later k one visited c))
        (λ (w : IsUnderSome space root (one ∷ waiting) k). ⊎_elim
        (λ (v : IsFeasibleUnder space root one k). ⊎_elim
        (λ (e : k ≡ one). inl (subst (λ j. Contains (one ∷ visited) j) (sym e) (Contains-first one visited)))
        (λ (x : IsUnderSome space root cs k). inr (under_some_join space root cs waiting k (inl x)))
        (key_or_under_some space root home h distinct one own.0 cs l k v))
        (λ (x : IsUnderSome space root waiting k). inr (under_some_join space root cs waiting k (inr x)))
        (under_some_cases space root one waiting k w))
        (s.each k u)

    one_not_waiting : IsUnderSome space root (cs ++ waiting) one → ⊥
    one_not_waiting u =
        ⊎_elim
        (not_itself_under space root home h distinct one own.0 cs l)
        (λ (w : IsUnderSome space root waiting one). AreIncomparable.above (apart_from w.key w.member) w.under)
        (under_some_part space root cs waiting one u)

    child_apart : (c o : List ℕ) → Contains cs c → Contains waiting o → AreIncomparable space root c o
    child_apart c o m n =
        let p = l.only c m in
        let a = apart_from o n in
        let u = child_under space root one c p in record {
          above = λ v. ⊎_elim a.above a.below (tree.meet c one o (p.0, p.1) u v);
          below = λ v. a.below (under_twice space root o c one v u);
        }

    pub visit : IsSplit space root key (one ∷ visited) (cs ++ waiting)
    visit = record {
      once = (
        λ c. s.not_both one c (under_some_first space root one waiting one (own.0, under_itself space root one)),
        s.once,
      );
      only = at_first_or_later (λ k. IsFeasibleUnder space root key k) one visited own s.only;
      each = each_visited;
      not_both = at_first_or_later (λ k. IsUnderSome space root (cs ++ waiting) k → ⊥) one visited one_not_waiting
          (λ k c u. s.not_both k c (either_waits k u));
      waits = at_either (λ k. IsFeasibleUnder space root key k) cs waiting
          (λ c m. let p = l.only c m in
          ((p.0, p.1), under_twice space root c one key (child_under space root one c p) own.1))
          (λ o m. s.waits o (Contains-later o one waiting m));
      apart = apart-append space root cs waiting (children_apart space root home h distinct one cs l.once l.only)
          s.apart.1 child_apart;
    }

  -- ---- the weight
  weight : (key : List ℕ) (visited waiting : List (List ℕ)) (w : ℕ) → IsSplit space root key visited waiting →
      IsTotal space root waiting w → IsWeight space root key (length visited + w)
  weight key visited waiting w s t = by (gather space root home h distinct waiting s.apart w t)
    where
      add : (x : ℕ) → x ≡ w → length visited + x ≡ length visited + w
      add x e = omega (arith, e)

      by : Gathers space root waiting w → IsWeight space root key (length visited + w)
      by g = (
        visited ++ g.ones,
        record {
          once = distinct_append visited g.ones s.once g.lists.once (λ k c d. s.not_both k c (g.lists.only k d));
          only = at_either (λ k. IsFeasibleUnder space root key k) visited g.ones s.only
              (λ k c. let u = g.lists.only k c in
              (u.feasible, under_twice space root k u.key key u.under (s.waits u.key u.member).1));
          each = λ k u. ⊎_elim (λ c. Contains-append_left visited g.ones k c)
              (λ v. Contains-append_right visited g.ones k (g.lists.each k v)) (s.each k u);
        },
        length-append visited g.ones ∙ add (length g.ones) g.size,
      )

  falls : (one : List ℕ) (waiting cs : List (List ℕ)) (w : ℕ) → IsFeasibleKey space root one →
      ListsAll (IsChild space root one) cs → IsTotal space root (cs ++ waiting) w →
      IsTotal space root (one ∷ waiting) (suc w)
  falls one waiting cs w f l t = by (total-parts space root cs waiting w t)
    where
      sum : (u v : ℕ) → w ≡ u + v → suc w ≡ suc u + v
      sum u v e = omega (arith, e)

      by : (u : ℕ) × (v : ℕ) × IsTotal space root cs u × IsTotal space root waiting v × (w ≡ u + v) →
          IsTotal space root (one ∷ waiting) (suc w)
      by (u, v, p, q, e) = (suc u, v, weight_of_children space root home h distinct one f cs l u p, q, sum u v e)

  pub are_split : AreSplit space root
  are_split = record {
    start = start space root;
    visit = visit;
    to_front = to_front space root;
    not_itself = not_itself space root;
    weight = weight;
    total = some_total_of space root home h distinct;
    one_total = one_total space root;
    falls = falls;
    finished = finished space root;
    share = λ key visited waiting s y.
        (share_there space root key visited waiting s y, share_back space root key visited waiting s y);
  }
