-- The children of a cobasis along its columns: they exist, and along all columns they are all children, each once.
use Rattle.std.proofs.Common.{◌≡◌, inl, inr, ⊎_elim, ℕ, List, [], ◌∷◌, refl, sym, subst}
use Rattle.std.specs.List.{Contains}
use Rattle.poly_model.specs.Spaces.{Space}
use Rattle.poly_model.specs.Dictionaries.{Table}
use Rattle.poly_model.specs.LexOrder.{rows_in}
use Rattle.poly_model.specs.Tree.{IsFeasibleRoot, IsLexFeasible, IsNeighbour}
use Rattle.linear_laws.specs.Distinct.{AreDistinct}
use Rattle.linear_laws.proofs.Members.{Contains-nil, Contains-first, Contains-later, Contains-cons_cases}
use Rattle.dictionary_laws.proofs.KeyExchange.{ascending_distinct}
use Rattle.search_laws.specs.Shares.{ListsAll, IsChild}
use Rattle.search_laws.proofs.Children.{child_column, child_or_none}
use Rattle.search_laws.proofs.ChildrenAt.{neighbour_here, one_child, one_column}
use Rattle.reverse_step.specs.Waiting.{AreAlong}
use Rattle.search_laws.specs.Shares.{IsChildAt}

module _ (space : Space) (root : List ℕ) (home : Table) (h : IsFeasibleRoot space root home)
    (distinct : AreDistinct (rows_in space.labels)) (key : List ℕ) (t : Table) (f : IsLexFeasible space root key t) where
  abbrev At : ℕ → List ℕ → Type 0
  At s one = IsChildAt space root key s one

  abbrev Along : List ℕ → List (List ℕ) → Type 0
  Along ss cs = AreAlong (IsChildAt space root) key ss cs

  pub some_along : (ss : List ℕ) → ((s : ℕ) → Contains ss s → Contains key s) → (cs : List (List ℕ)) × Along ss cs
  some_along [] all = ([], refl)
  some_along (s ∷ ss) all =
      let rest = some_along ss (λ r c. all r (Contains-later r s ss c)) in
      ⊎_elim
      (λ (w : (child : List ℕ) × IsChild space root key child × IsNeighbour space.labels root key t s child). (
        w.0 ∷ rest.0,
        inr (
          w.0,
          rest.0,
          record { child = w.1; table = t; dictionary = f.dictionary; neighbour = w.2 },
          rest.1,
          refl,
        ),
      ))
      (λ (n : (child : List ℕ) → IsChild space root key child → IsNeighbour space.labels root key t s child → ⊥).
      (rest.0, inl (λ child c. n child c.child (neighbour_here space root home h distinct key t f s child c), rest.1)))
      (child_or_none space root home h distinct key t f s (all s (Contains-first s ss)))

  along_only : (ss : List ℕ) (cs : List (List ℕ)) → Along ss cs → (one : List ℕ) → Contains cs one →
      (s : ℕ) × Contains ss s × At s one
  along_only [] cs a one c = absurd (Contains-nil one (subst (λ ks. Contains ks one) a c))
  along_only (s ∷ ss) cs (inl (n, a)) one c = let w = along_only ss cs a one c in (w.0, Contains-later w.0 s ss w.1, w.2)
  along_only (s ∷ ss) cs (inr (child, rest, d, a, e)) one c =
      ⊎_elim
      (λ (q : child ≡ one). (s, Contains-first s ss, subst (λ k. At s k) q d))
      (λ (m : Contains rest one). let w = along_only ss rest a one m in (w.0, Contains-later w.0 s ss w.1, w.2))
      (Contains-cons_cases one child rest (subst (λ ks. Contains ks one) e c))

  along_each : (ss : List ℕ) (cs : List (List ℕ)) → Along ss cs → (s : ℕ) → Contains ss s → (one : List ℕ) →
      At s one → Contains cs one
  along_each [] cs a s c one d = absurd (Contains-nil s c)
  along_each (r ∷ ss) cs (inl (n, a)) s c one d =
      ⊎_elim
      (λ (e : r ≡ s). absurd (n one (subst (λ k. At k one) (sym e) d)))
      (λ (m : Contains ss s). along_each ss cs a s m one d)
      (Contains-cons_cases s r ss c)
  along_each (r ∷ ss) cs (inr (child, rest, b, a, e)) s c one d =
      subst (λ ks. Contains ks one) (sym e) (
      ⊎_elim
      (λ (q : r ≡ s). subst (λ k. Contains (child ∷ rest) k)
      (one_child space root home h distinct key t f s child one (subst (λ k. At k child) q b) d)
      (Contains-first child rest))
      (λ (m : Contains ss s). Contains-later one child rest (along_each ss rest a s m one d))
      (Contains-cons_cases s r ss c))

  along_once : (ss : List ℕ) (cs : List (List ℕ)) → AreDistinct ss → Along ss cs → AreDistinct cs
  along_once [] cs d a = subst (λ ks. AreDistinct ks) (sym a) tt
  along_once (s ∷ ss) cs d (inl (n, a)) = along_once ss cs d.1 a
  along_once (s ∷ ss) cs d (inr (child, rest, b, a, e)) =
      subst (λ ks. AreDistinct ks) (sym e) (
        λ c. let w = along_only ss rest a child c in
            d.0 (subst (λ k. Contains ss k) (sym (one_column space root home h distinct key t f s w.0 child b w.2)) w.1),
        along_once ss rest d.1 a,
      )

  pub lists_children : (cs : List (List ℕ)) → Along key cs → ListsAll (IsChild space root key) cs
  lists_children cs a = record {
    once = along_once key cs (ascending_distinct key f.dictionary.ascending) a;
    only = λ one c. IsChildAt.child (along_only key cs a one c).2;
    each = λ one c. let n = child_column space root home h distinct key t f one c in
        along_each key cs a n.0 n.1.column one
        (record { child = c; table = t; dictionary = f.dictionary; neighbour = n.1 });
  }
