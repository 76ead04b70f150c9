-- The children of a cobasis along its columns, as they wait, stand by ascending label.
use Rattle.std.proofs.Common.{◌≡◌, inl, inr, ⊎_elim, ℕ, ◌<◌, List, [], ◌∷◌, sym, subst}
use Rattle.std.specs.List.{Contains, AllByRecursion}
use Rattle.poly_model.specs.Keys.{IsAscending}
use Rattle.poly_model.specs.Spaces.{Space}
use Rattle.poly_model.specs.Dictionaries.{Table}
use Rattle.poly_model.specs.Tree.{IsLexFeasible}
use Rattle.linear_laws.proofs.Members.{Contains-first, Contains-later, Contains-cons_cases, all_at}
use Rattle.listing_laws.proofs.ListLemmas.{all_members}
use Rattle.search_laws.specs.Shares.{IsChildAt}
use Rattle.reverse_step.specs.Waiting.{AreAlong}
use Rattle.work_core.specs.Orders.{AreAt, AreChildren}

module _ (At : List ℕ → ℕ → List ℕ → Type 0) (key : List ℕ) where
  -- the labels at which children stand, among these columns
  pub record HasLabels (columns : List ℕ) (children : List (List ℕ)) : Type 0 where
    pub labels : List ℕ
    pub ascending : IsAscending labels
    pub at : AreAt At key labels children
    pub within : (s : ℕ) → Contains labels s → Contains columns s
    pub each : (s : ℕ) (child : List ℕ) → Contains columns s → At key s child → Contains labels s

  -- none in the first column
  none_here : (s : ℕ) (columns : List ℕ) (children : List (List ℕ)) → ((child : List ℕ) → At key s child → ⊥) →
      HasLabels columns children → HasLabels (s ∷ columns) children
  none_here s columns children none w = record {
    labels = w.labels;
    ascending = w.ascending;
    at = w.at;
    within = λ r c. Contains-later r s columns (w.within r c);
    each = λ r child c x. ⊎_elim
        (λ (e : s ≡ r). absurd (none child (subst (λ l. At key l child) (sym e) x)))
        (λ (m : Contains columns r). w.each r child m x)
        (Contains-cons_cases r s columns c);
  }

  -- one in the first column
  one_here : (s : ℕ) (columns child : List ℕ) (children : List (List ℕ)) → AllByRecursion (λ r. s < r) columns →
      At key s child → HasLabels columns children → HasLabels (s ∷ columns) (child ∷ children)
  one_here s columns child children up x w = record {
    labels = s ∷ w.labels;
    ascending = (all_members (λ r. s < r) w.labels (λ r c. all_at (λ q. s < q) columns up r (w.within r c)), w.ascending);
    at = (x, w.at);
    within = λ r c. ⊎_elim
        (λ (q : s ≡ r). subst (λ l. Contains (s ∷ columns) l) q (Contains-first s columns))
        (λ (m : Contains w.labels r). Contains-later r s columns (w.within r m))
        (Contains-cons_cases r s w.labels c);
    each = λ r one c y. ⊎_elim
        (λ (q : s ≡ r). subst (λ l. Contains (s ∷ w.labels) l) q (Contains-first s w.labels))
        (λ (m : Contains columns r). Contains-later r s w.labels (w.each r one m y))
        (Contains-cons_cases r s columns c);
  }

  has_labels : (columns : List ℕ) (children : List (List ℕ)) → IsAscending columns → AreAlong At key columns children →
      HasLabels columns children
  has_labels [] children up e = record {
    labels = [];
    ascending = tt;
    at = subst (λ ks. AreAt At key [] ks) (sym e) tt;
    within = λ s c. c;
    each = λ s child c x. c;
  }
  has_labels (s ∷ columns) children up (inl (none, a)) =
      none_here s columns children none (has_labels columns children up.1 a)
  has_labels (s ∷ columns) children up (inr (child, rest, x, a, e)) =
      subst (HasLabels (s ∷ columns)) (sym e) (one_here s columns child rest up.0 x (has_labels columns rest up.1 a))

-- along all its columns they are all its children
pub are_children : (space : Space) (root key : List ℕ) (t : Table) → IsLexFeasible space root key t →
    (children : List (List ℕ)) → AreAlong (IsChildAt space root) key key children →
    AreChildren (IsChildAt space root) key children
are_children space root key t f children along =
    let w = has_labels (IsChildAt space root) key key children f.dictionary.ascending along in
    record {
      labels = w.labels;
      ascending = w.ascending;
      at = w.at;
      each = λ s child x. w.each s child x.neighbour.column x;
    }
