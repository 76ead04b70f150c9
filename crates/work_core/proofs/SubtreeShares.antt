-- The shares of the work by subtrees, from those of the tree of cobases; and so those of each search.
use Rattle.std.proofs.Common.{ℕ, List}
use Rattle.poly_num.specs.Vectors.{Vector}
use Rattle.poly_model.specs.declared.kind.WorkKind.{WorkKind}
use Rattle.poly_model.specs.declared.kind.WorkKind.TheVariants.{Subsets, Subtrees}
use Rattle.poly_model.specs.Systems.{Polyhedron}
use Rattle.poly_model.specs.Spaces.{in_main}
use Rattle.poly_model.specs.Subtrees.{IsSubtreeRoot, InSubtree}
use Rattle.search_laws.proofs.SubtreeShares as tree
use Rattle.work_core.specs.Meanings.{IsKeyBelow}
use Rattle.work_core.specs.Searches.{by_subtrees, meaning_by, IsRootBy}
use Rattle.work_core.specs.Laws.{HasShares, SharesHold}
use Rattle.work_core.specs.Walks.{ShowsAt}
use Rattle.work_core.specs.Shown.{SubtreesShow, SubtreeWalksSplit}
use Rattle.work_core.specs.Subtrees.{IsShownAtCobasis}
use Rattle.work_core.proofs.WalkLemmas.{walk_leaves}
use Rattle.work_core.proofs.SubsetShares.{has_shares}

module _ (p : Polyhedron) (root : List ℕ) (h : IsSubtreeRoot p root) where
  pub subtrees_have_shares : HasShares (by_subtrees p root)
  subtrees_have_shares =
      let shares = tree.has_shares p root h in
      record {
        first = shares.first;
        itself = shares.itself;
        through = λ a b c k ab bc. shares.through a b c ab bc;
        both = shares.both;
        meet = shares.meet;
        one_depth = shares.one_depth;
        within = λ a b y k ab m. shares.within a b y ab m;
        weight = shares.weight;
        one_weight = shares.one_weight;
      }

  -- a vector that is in a share is shown at a key under it
  shown_under : (key : List ℕ) (y : Vector) → InSubtree p root key y →
      (one : List ℕ) × IsKeyBelow (by_subtrees p root) key one × IsShownAtCobasis p root one y
  shown_under key y m = (
    m.one,
    (
      record { free = m.shown.free; columns = m.shown.columns; table = m.shown.table; feasible = m.shown.feasible },
      (m.depth, m.under),
    ),
    (m.place, m.shown),
  )

  pub shown_at_cobases : ShowsAt (by_subtrees p root) (IsShownAtCobasis p root)
  shown_at_cobases = record {
    one_key = λ a b y u v.
        (tree.once p root h).one a b (in_main p.kind y) (tree.shown_there p root h a y u) (tree.shown_there p root h b y v);
    share = λ key y k. (
      λ m. shown_under key y m,
      λ u. record { one = u.0; depth = u.1.1.0; under = u.1.1.1; place = u.2.0; shown = u.2.1 },
    );
  }

pub subtrees_show : SubtreesShow
subtrees_show p root h = shown_at_cobases p root h

pub subtree_walks_split : SubtreeWalksSplit
subtree_walks_split p root h key is visited given rows w start =
    walk_leaves (by_subtrees p root) (IsShownAtCobasis p root) (subtrees_have_shares p root h)
    (shown_at_cobases p root h) key is visited given rows w start

-- ---- both works
by_work : (kind : WorkKind) (p : Polyhedron) (root : List ℕ) → IsRootBy kind p root → HasShares (meaning_by kind p root)
by_work Subsets p root h = has_shares p
by_work Subtrees p root h = subtrees_have_shares p root h

pub shares_hold : SharesHold
shares_hold s h = by_work s.work s.polyhedron s.root h
