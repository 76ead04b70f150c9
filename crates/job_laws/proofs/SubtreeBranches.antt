-- The keys of the work by subtrees branch; and its children and depths in the words of one space, there and back.
use Rattle.std.proofs.Common.{◌≡◌, ◌⊎◌, inl, inr, ⊎_elim, ℕ, ◌+◌, List, subst, arith}
use Rattle.poly_model.specs.FreeColumns.{AreFreeColumns}
use Rattle.poly_model.specs.Spaces.{Space, main_space}
use Rattle.poly_model.specs.LexOrder.{rows_in}
use Rattle.poly_model.specs.Subtrees.{IsSubtreeRoot, IsSubtreeKey}
use Rattle.poly_model.specs.Systems.{Polyhedron, cone_of}
use Rattle.poly_model.specs.Tree.{IsAbove, IsUnder}
use Rattle.linear_laws.specs.Distinct.{AreDistinct}
use Rattle.tree_laws.proofs.AscendingRows.{main_rows_ascend}
use Rattle.tree_laws.proofs.ListedVectors as listed
use Rattle.search_laws.specs.Shares.{IsFeasibleKey, IsChild, IsChildAt, IsTree}
use Rattle.search_laws.proofs.Children.{child_column}
use Rattle.search_laws.proofs.ChildrenAt.{one_child_at, one_label_of}
use Rattle.search_laws.proofs.Depths.{child_above, above_twice}
use Rattle.search_laws.proofs.ShareParts.{is_tree, own_or_under_child}
use Rattle.work_core.specs.Meanings.{StandsUnder, IsKeyBelow}
use Rattle.work_core.specs.Searches.{by_subtrees}
use Rattle.work_core.specs.Subtrees.{IsSubtreeChildAt}
use Rattle.work_core.proofs.Dimensions.{same_free}
use Rattle.job_laws.specs.Branches.{HasBranches}

-- ---- there and back, for one list of the free columns
module _ (p : Polyhedron) (root free : List ℕ) (columns : AreFreeColumns (cone_of p) free) where
  pub child_there : (key : List ℕ) (s : ℕ) (child : List ℕ) → IsSubtreeChildAt p root key s child →
      IsChildAt (main_space p free) root key s child
  child_there key s child x =
      subst (λ f. IsChildAt (main_space p f) root key s child) (same_free p x.free free x.columns columns) x.child_at

  pub child_back : (key : List ℕ) (s : ℕ) (child : List ℕ) → IsChildAt (main_space p free) root key s child →
      IsSubtreeChildAt p root key s child
  child_back key s child x = record { free = free; columns = columns; child_at = x }

-- ---- under a root at which a search may begin
module _ (p : Polyhedron) (root : List ℕ) (h : IsSubtreeRoot p root) where
  abbrev space : Space
  space = main_space p h.free

  distinct : AreDistinct (rows_in space.labels)
  distinct = (main_rows_ascend p h.free).distinct

  tree : IsTree space root
  tree = is_tree space root h.home h.feasible distinct

  there : (key : List ℕ) (s : ℕ) (child : List ℕ) → IsSubtreeChildAt p root key s child → IsChildAt space root key s child
  there = child_there p root h.free h.columns

  key_there : (key : List ℕ) → IsSubtreeKey p root key → IsFeasibleKey space root key
  key_there key k = listed.key_there p root h.free h.columns key k

  under_there : (one key : List ℕ) → StandsUnder (by_subtrees p root) one key → IsUnder space root one key
  under_there one key u = (u.0, listed.depth_there p root h.free h.columns one key u.0 u.1)

  under_back : (one key : List ℕ) → IsUnder space root one key → StandsUnder (by_subtrees p root) one key
  under_back one key u = (u.0, listed.depth_back p root h.free h.columns one key u.0 u.1)

  part : (key one : List ℕ) → IsSubtreeKey p root key → IsKeyBelow (by_subtrees p root) key one →
      (one ≡ key) ⊎ ((s : ℕ) × (c : List ℕ) × IsSubtreeChildAt p root key s c × StandsUnder (by_subtrees p root) one c)
  part key one k u =
      ⊎_elim (λ (e : one ≡ key). inl e)
      (λ (w : (child : List ℕ) × IsChild space root key child × IsUnder space root one child).
      let f = key_there key k in
      let n = child_column space root h.home h.feasible distinct key f.0 f.1 w.0 w.1 in
      inr (
        n.0,
        w.0,
        child_back p root h.free h.columns key n.0 w.0
            (record { child = w.1; table = f.0; dictionary = f.1.dictionary; neighbour = n.1 }),
        under_back one w.0 w.2,
      ))
      (own_or_under_child space root h.home h.feasible key one (key_there one u.0) (under_there one key u.1))

  one_more : (n : ℕ) → 1 + n ≡ n + 1
  one_more n = omega arith

  pub subtrees_branch : HasBranches (by_subtrees p root)
  subtrees_branch = record {
    child_key = λ key s c is x.
        let y = (there key s c x).child in listed.key_back p root h.free h.columns c y.0 y.1;
    child_under = λ key s c x.
        listed.depth_back p root h.free h.columns c key 1 (child_above space root key c (there key s c x).child);
    deeper = λ key s c above d x u.
        listed.depth_back p root h.free h.columns c above (d + 1)
        (subst (λ n. IsAbove space root n c above) (one_more d)
        (above_twice space root 1 d c key above (child_above space root key c (there key s c x).child)
        (listed.depth_there p root h.free h.columns key above d u)));
    parts = part;
    one_child = λ key s r b c one is x y u v.
        tree.one_child one key b c (key_there one is) (there key s b x).child (there key r c y).child
        (under_there one b u) (under_there one c v);
    not_itself = λ key s c is x u. tree.not_under_child key c (there key s c x).child (under_there key c u);
    one_at = λ key s a c x y.
        one_child_at space root h.home h.feasible distinct key s a c (there key s a x) (there key s c y);
    one_label = λ key s r c x y.
        one_label_of space root h.home h.feasible distinct key c s r (there key s c x) (there key r c y);
  }
