-- Reverse search in the words of a polyhedron's listing, from that of its main space.
use Rattle.std.proofs.Common.{◌≡◌, ℕ, List, length, subst}
use Rattle.std.specs.Prelude.{Option}
use Rattle.poly_num.specs.Vectors.{Vector}
use Rattle.poly_model.specs.Systems.{Polyhedron, cone_of}
use Rattle.poly_model.specs.FreeColumns.{AreFreeColumns}
use Rattle.poly_model.specs.Extreme.{IsShown, IsExtreme}
use Rattle.poly_model.specs.Spaces.{Space, main_space, in_main}
use Rattle.poly_model.specs.Dictionaries.{Table}
use Rattle.poly_model.specs.Tree.{IsLexFeasible, IsAbove, IsShownAt}
use Rattle.poly_model.specs.Subtrees.{IsSubtreeRoot, IsSubtreeKey, IsSubtreeDepth, IsShownAtKey}
use Rattle.poly_model.specs.Labels.{IsRow}
use Rattle.tree_laws.specs.Shown.{IsShownOnce}
use Rattle.tree_laws.specs.ReverseSearch.{IsSearched}
use Rattle.tree_laws.specs.ListedVectors.{IsShownAtOneKey, SearchesListing}
use Rattle.tree_laws.proofs.OneList.{same_columns}
use Rattle.tree_laws.proofs.MainExtremes.{extremes_of_main}
use Rattle.tree_laws.proofs.TouchedVectors.{first_unit_is_not_shown}
use Rattle.tree_laws.proofs.AscendingRows.{main_rows_ascend}
use Rattle.tree_laws.proofs.ReverseSearch.{reverse_search}

-- ---- there and back, for one list of the free columns
module _ (p : Polyhedron) (root free : List ℕ) (columns : AreFreeColumns (cone_of p) free) where
  abbrev space : Space
  space = main_space p free

  same : (other : List ℕ) → AreFreeColumns (cone_of p) other → other ≡ free
  same other f = same_columns p free other columns f

  pub key_there : (key : List ℕ) → IsSubtreeKey p root key → (t : Table) × IsLexFeasible space root key t
  key_there key k =
      (k.table, subst (λ f. IsLexFeasible (main_space p f) root key k.table) (same k.free k.columns) k.feasible)

  pub key_back : (key : List ℕ) (t : Table) → IsLexFeasible space root key t → IsSubtreeKey p root key
  key_back key t f = record { free = free; columns = columns; table = t; feasible = f }

  pub depth_there : (one key : List ℕ) (depth : ℕ) → IsSubtreeDepth p root one key depth →
      IsAbove space root depth one key
  depth_there one key depth d =
      subst (λ f. IsAbove (main_space p f) root depth one key) (same d.free d.columns) d.above

  pub depth_back : (one key : List ℕ) (depth : ℕ) → IsAbove space root depth one key →
      IsSubtreeDepth p root one key depth
  depth_back one key depth a = record { free = free; columns = columns; above = a }

  -- y is shown there
  abbrev pub IsShownThere : List ℕ → Option ℕ → Vector → Type 0
  IsShownThere key place y =
      (t : Table) × IsLexFeasible space root key t × IsShownAt space root key t place (in_main p.kind y)

  pub shown_there : (key : List ℕ) (place : Option ℕ) (y : Vector) → IsShownAtKey p root key place y →
      IsShownThere key place y
  shown_there key place y s =
      subst
      (λ f. (t : Table) × IsLexFeasible (main_space p f) root key t
      × IsShownAt (main_space p f) root key t place (in_main p.kind y)) (same s.free s.columns)
      (s.table, s.feasible, s.shown)

  pub shown_back : (key : List ℕ) (place : Option ℕ) (y : Vector) → IsShownThere key place y →
      IsShown p.kind (cone_of p) y → IsShownAtKey p root key place y
  shown_back key place y (t, f, s) touched =
      record { free = free; columns = columns; table = t; feasible = f; shown = s; touched = touched }

-- ---- the search
module _ (p : Polyhedron) (root : List ℕ) (few : IsRow (length (cone_of p).rows))
    (h : IsSubtreeRoot p root) where
  searched : IsSearched (main_space p h.free) root h.home
  searched = reverse_search (main_space p h.free) root h.home (main_rows_ascend p h.free).distinct h.feasible

  shown_once : (y : Vector) → IsExtreme (cone_of p) y → IsShownAtOneKey p root y
  shown_once y e =
      by ((extremes_of_main p h.free h.columns few y).0 e).1
      (searched.each_once (in_main p.kind y) ((extremes_of_main p h.free h.columns few y).0 e).0)
    where
      by : IsShown p.kind (cone_of p) y → IsShownOnce (main_space p h.free) root (in_main p.kind y) →
          IsShownAtOneKey p root y
      by touched k = record {
        key = k.key;
        place = k.place;
        shown = shown_back p root h.free h.columns k.key k.place y (k.table, k.feasible, k.shown) touched;
        only = λ other elsewhere s.
            let w = shown_there p root h.free h.columns other elsewhere y s in k.only other w.0 elsewhere w.1 w.2;
      }

  only_extreme : (key : List ℕ) (place : Option ℕ) (y : Vector) → IsShownAtKey p root key place y →
      IsExtreme (cone_of p) y
  only_extreme key place y s =
      let w = shown_there p root h.free h.columns key place y s in
      (extremes_of_main p h.free h.columns few y).1
      (searched.only_extreme key w.0 place (in_main p.kind y) w.1 w.2, s.touched)

  pub searches_listing : SearchesListing p root
  searches_listing = record {
    root_is_key = key_back p root h.free h.columns root h.home searched.root_feasible;
    under_root = λ key k.
        let w = key_there p root h.free h.columns key k in
        let u = searched.under_the_root key w.0 w.1 in
        (u.0, depth_back p root h.free h.columns key root u.0 u.1);
    one_depth = λ key m n k a b.
        let w = key_there p root h.free h.columns key k in
        searched.one_depth key w.0 w.1 m n (depth_there p root h.free h.columns key root m a)
        (depth_there p root h.free h.columns key root n b);
    each_once = shown_once;
    only_extreme = only_extreme;
    not_first_unit = λ key place e s. first_unit_is_not_shown p e s.touched;
  }
