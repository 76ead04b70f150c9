-- Each vector of a share once: two shares meet only where one key is under the other, and what a run has shown is not
-- in the shares that wait. It is a hypothesis here that a vector is shown along columns of one cobasis at most.
use Rattle.std.proofs.Common.{◌≡◌, ◌⊎◌, ⊎_elim, ℕ, List, ◌∷◌, ◌++◌, sym, subst}
use Rattle.std.specs.Prelude.{None, Some}
use Rattle.std.specs.List.{Contains}
use Rattle.std.proofs.lemmas.List.Elements.{Contains-append_left, Contains-append_right}
use Rattle.poly_num.specs.Vectors.{Vector, ◌·◌}
use Rattle.poly_num.proofs.Order.{positive_nonzero}
use Rattle.poly_model.specs.Spaces.{Space}
use Rattle.poly_model.specs.Dictionaries.{Table}
use Rattle.poly_model.specs.LexOrder.{rows_in}
use Rattle.poly_model.specs.Tree.{IsFeasibleRoot, IsLexFeasible, IsUnder, IsShownAt}
use Rattle.linear_laws.specs.Distinct.{AreDistinct}
use Rattle.linear_laws.proofs.Members.{Contains-first, Contains-later, Contains-cons_cases}
use Rattle.linear_laws.proofs.Distinct.{distinct_append}
use Rattle.search_laws.specs.Shares.{ListsAll, IsChild, IsShownBy, InShare, IsTree}
use Rattle.search_laws.specs.Splits.{IsSplit, IsShownBySome, InSomeShare}
use Rattle.tree_laws.proofs.OnePoint.{one_key}
use Rattle.search_laws.proofs.OnceLists.{at_either}
use Rattle.search_laws.proofs.ShareParts.{is_tree}

-- a vector is shown along columns of one lexicographically feasible cobasis at most
abbrev pub RaysAreOne : Space → List ℕ → Type 0
RaysAreOne space root =
    (key other : List ℕ) (t u : Table) (s r : ℕ) (y : Vector) → IsLexFeasible space root key t →
    IsLexFeasible space root other u → IsShownAt space root key t (Some s) y →
    IsShownAt space root other u (Some r) y → key ≡ other

module _ (space : Space) (root : List ℕ) (rays : RaysAreOne space root) where
  -- points are told from rays by their value at infinity
  pub one_place : (b c : List ℕ) (y : Vector) → IsShownBy space root b y → IsShownBy space root c y → b ≡ c
  one_place b c y (t, f, None, x) (u, g, None, z) =
      one_key space root y b c t u f.dictionary g.dictionary x.0 z.0 x.1 z.1
  one_place b c y (t, f, None, x) (u, g, Some r, z) =
      absurd (positive_nonzero (space.infinity · y) x.1.finite z.1.level)
  one_place b c y (t, f, Some s, x) (u, g, None, z) =
      absurd (positive_nonzero (space.infinity · y) z.1.finite x.1.level)
  one_place b c y (t, f, Some s, x) (u, g, Some r, z) = rays b c t u s r y f g x z

  module _ (home : Table) (h : IsFeasibleRoot space root home) (distinct : AreDistinct (rows_in space.labels)) where
    tree : IsTree space root
    tree = is_tree space root home h distinct

    pub shares_meet : (b c : List ℕ) (y : Vector) → InShare space root b y → InShare space root c y →
        IsUnder space root b c ⊎ IsUnder space root c b
    shares_meet b c y (one, u, s) (two, v, z) =
        tree.meet one b c (s.0, s.1) u (subst (λ k. IsUnder space root k c) (sym (one_place one two y s z)) v)

    -- what a key shows itself is in the share of no child, and what is in that of one child is in that of no other
    pub own_or_child : (key child : List ℕ) (y : Vector) → IsShownBy space root key y →
        IsChild space root key child → InShare space root child y → ⊥
    own_or_child key child y s c (one, u, z) =
        tree.not_under_child key child c (subst (λ k. IsUnder space root k child) (one_place one key y z s) u)

    pub one_child : (key b c : List ℕ) (y : Vector) → IsChild space root key b → IsChild space root key c →
        InShare space root b y → InShare space root c y → b ≡ c
    one_child key b c y p q (one, u, s) (two, v, z) =
        tree.one_child one key b c (s.0, s.1) p q u
        (subst (λ k. IsUnder space root k c) (sym (one_place one two y s z)) v)

  -- ---- what a run has shown
  module _ (key : List ℕ) (visited waiting : List (List ℕ)) where
    pub not_shown_and_waiting : IsSplit space root key visited waiting → (y : Vector) →
        IsShownBySome space root visited y → InSomeShare space root waiting y → ⊥
    not_shown_and_waiting s y (one, c, x) (k, m, (two, u, z)) =
        s.not_both one c (record {
          feasible = (x.0, x.1);
          key = k;
          member = m;
          under = subst (λ j. IsUnder space root j k) (sym (one_place one two y x z)) u;
        })

  -- the rows of a visit in front of those before
  pub more_shown : (one : List ℕ) (visited : List (List ℕ)) (ys rows : List Vector) →
      (Contains visited one → ⊥) → ListsAll (IsShownBy space root one) ys →
      ListsAll (IsShownBySome space root visited) rows →
      ListsAll (IsShownBySome space root (one ∷ visited)) (ys ++ rows)
  more_shown one visited ys rows new a b = record {
    once = distinct_append ys rows a.once b.once
        (λ y c d. let w = b.only y d in
        new (subst (λ k. Contains visited k) (one_place w.0 one y w.2 (a.only y c)) w.1));
    only = at_either (λ y. IsShownBySome space root (one ∷ visited) y) ys rows
        (λ y c. (one, Contains-first one visited, a.only y c))
        (λ y c. let w = b.only y c in (w.0, Contains-later w.0 one visited w.1, w.2));
    each = λ y w. ⊎_elim
        (λ (e : one ≡ w.0). Contains-append_left ys rows y
        (a.each y (subst (λ k. IsShownBy space root k y) (sym e) w.2)))
        (λ (c : Contains visited w.0). Contains-append_right ys rows y (b.each y (w.0, c, w.2)))
        (Contains-cons_cases w.0 one visited w.1);
  }
