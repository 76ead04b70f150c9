-- The children of a list, by their last labels.
use Rattle.std.proofs.Common.{◌≡◌, ⊎_elim, ℕ, ◌+◌, ◌≤◌, ◌<◌, List, [], ◌∷◌, ◌++◌, length, length-append, refl, sym, ap, subst, arith}
use Rattle.std.specs.List.{Contains}
use Rattle.std.proofs.lemmas.Bool.{cases_lt}
use Rattle.std.proofs.lemmas.List.Elements.{All-contains, Contains-append_left, Contains-append_right, Contains-append_cases}
use Rattle.poly_model.specs.Keys.{IsAscending}
use Rattle.poly_model.specs.Systems.{Polyhedron, cone_of}
use Rattle.linear_laws.proofs.Members.{Contains-nil, Contains-first, Contains-cons_cases}
use Rattle.work_core.specs.Orders.{AreAt, AreChildren}
use Rattle.work_core.specs.Subsets.{plain_labels, IsSubsetKey, IsSubsetChildAt}
use Rattle.work_core.proofs.SubsetShares.{short_at}
use Rattle.subset_work.specs.Standing.{IsNext, HasRoom}
use Rattle.subset_work.specs.Walked.{AreChildrenBefore}
use Rattle.subset_work.proofs.ListTree.{ascending_append, above_front, plain_label}

at_append : (At : List ℕ → ℕ → List ℕ → Type 0) (key labels : List ℕ) (cs : List (List ℕ)) (more : List ℕ)
    (ds : List (List ℕ)) → AreAt At key labels cs → AreAt At key more ds → AreAt At key (labels ++ more) (cs ++ ds)
at_append At key [] [] more ds a b = b
at_append At key [] (c ∷ cs) more ds a b = absurd a
at_append At key (s ∷ labels) [] more ds a b = absurd a
at_append At key (s ∷ labels) (c ∷ cs) more ds a b = (a.0, at_append At key labels cs more ds a.1 b)

module _ (p : Polyhedron) (key : List ℕ) where
  -- the last label of a child is that of a row that is not linear
  last_plain : (s : ℕ) (child : List ℕ) → IsSubsetChildAt p key s child → Contains (plain_labels p) s
  last_plain s child x =
      All-contains (Contains (plain_labels p)) child s x.is_key.rows
      (subst (λ ks. Contains ks s) (sym x.longer) (Contains-append_right key (s ∷ []) s (Contains-first s [])))

  -- none comes before the next label
  pub children_none : (from : ℕ) → IsNext key from → AreChildrenBefore p key from []
  children_none from next = record {
    labels = [];
    ascending = tt;
    before = λ s c. absurd (Contains-nil s c);
    at = tt;
    each = λ s child x l.
        let least = next.least s (plain_label p s (last_plain s child x)).0
        (above_front key s [] (subst IsAscending x.longer x.is_key.ascending.ascending)) in
        absurd (omega (arith, l, least));
  }

  -- a list that may not be longer has none
  pub no_children : HasRoom p key 0 → AreChildren (IsSubsetChildAt p) key []
  no_children room = record {
    labels = [];
    ascending = tt;
    at = tt;
    each = λ s child x.
        let l = short_at p child room.dimension room.reduced x.is_key in
        let e = ap length x.longer in let f = length-append key (s ∷ []) in
        absurd (omega (arith, l, e, f, room.count));
  }

  module _ (i : ℕ) (children : List (List ℕ)) (are : AreChildrenBefore p key i children) where
    -- at a linear row there is none
    pub children_past : (Contains (plain_labels p) i → ⊥) → AreChildrenBefore p key (i + 1) children
    children_past n = record {
      labels = are.labels;
      ascending = are.ascending;
      before = λ s c. let l = are.before s c in omega (arith, l);
      at = are.at;
      each = λ s child x l. ⊎_elim (λ (b : s < i). are.each s child x b)
          (λ (b : i ≤ s). let e : s ≡ i = omega (arith, l, b) in
          absurd (n (subst (Contains (plain_labels p)) e (last_plain s child x)))) (cases_lt s i);
    }

    -- the next one
    pub children_with : IsSubsetKey p (key ++ i ∷ []) → AreChildrenBefore p key (i + 1) (children ++ (key ++ i ∷ []) ∷ [])
    children_with is = record {
      labels = are.labels ++ i ∷ [];
      ascending = ascending_append are.labels i are.ascending are.before;
      before = λ s c. ⊎_elim (λ d. let l = are.before s d in omega (arith, l))
          (λ (d : Contains (i ∷ []) s). ⊎_elim (λ (e : i ≡ s). omega (arith, e)) (λ f. absurd (Contains-nil s f))
          (Contains-cons_cases s i [] d)) (Contains-append_cases are.labels (i ∷ []) s c);
      at = at_append (IsSubsetChildAt p) key are.labels children (i ∷ []) ((key ++ i ∷ []) ∷ []) are.at
          (record { longer = refl; is_key = is }, tt);
      each = λ s child x l. ⊎_elim (λ (b : s < i). Contains-append_left are.labels (i ∷ []) s (are.each s child x b))
          (λ (b : i ≤ s). let e : i ≡ s = omega (arith, l, b) in
          Contains-append_right are.labels (i ∷ []) s (subst (Contains (i ∷ [])) e (Contains-first i []))) (cases_lt s i);
    }

    -- behind the last row, these are all
    pub children_all : length (cone_of p).rows < i → AreChildren (IsSubsetChildAt p) key children
    children_all behind = record {
      labels = are.labels;
      ascending = are.ascending;
      at = are.at;
      each = λ s child x. let b = (plain_label p s (last_plain s child x)).1 in are.each s child x (omega (arith, b, behind));
    }
