-- Keys, shares and weights in the words of a polyhedron's listing, from those of its main space.
use Rattle.std.proofs.Common.{◌⊎◌, ◌↔◌, inl, inr, ◌+◌, ℕ, List, [], ◌∷◌, length, refl}
use Rattle.std.specs.Prelude.{Option}
use Rattle.std.specs.List.{Contains}
use Rattle.poly_num.specs.Vectors.{Vector}
use Rattle.poly_model.specs.Systems.{Polyhedron, cone_of}
use Rattle.poly_model.specs.Extreme.{IsShown, IsExtreme}
use Rattle.poly_model.specs.Spaces.{Space, main_space, in_main}
use Rattle.poly_model.specs.Tree.{IsUnder}
use Rattle.poly_model.specs.Subtrees.{IsSubtreeRoot, IsSubtreeKey, IsShownAtKey, InSubtree}
use Rattle.poly_model.specs.Labels.{IsRow}
use Rattle.linear_laws.proofs.Members.{Contains-first, Contains-later}
use Rattle.tree_laws.proofs.AscendingRows.{main_rows_ascend}
use Rattle.tree_laws.proofs.MainExtremes.{extremes_of_main}
use Rattle.tree_laws.proofs.Roots.{root_is_feasible}
use Rattle.tree_laws.proofs.ListedVectors as listed
use Rattle.search_laws.specs.Shares.{IsFeasibleKey, IsFeasibleUnder, IsShownBy, InShare, IsTree}
use Rattle.search_laws.specs.Weights.{IsWeight, IsTotal}
use Rattle.search_laws.specs.SharesOnce.{ShowsOnce}
use Rattle.search_laws.specs.SharesOfListings.{LiesUnder, IsKeyUnder, IsSubtreeWeight, IsSubtreeTotal, HasSubtreeShares}
use Rattle.search_laws.proofs.Depths.{above_twice, one_length}
use Rattle.search_laws.proofs.OnceLists.{same_lists}
use Rattle.search_laws.proofs.ShareParts.{is_tree}
use Rattle.search_laws.proofs.Weights.{one_weight, some_weight}
use Rattle.search_laws.proofs.RootShare.{shows_once}

module _ (p : Polyhedron) (root : List ℕ) (h : IsSubtreeRoot p root) where
  abbrev pub space : Space
  space = main_space p h.free

  pub tree : IsTree space root
  tree = is_tree space root h.home h.feasible (main_rows_ascend p h.free).distinct

  pub once : ShowsOnce space root
  once = shows_once space root h.home h.feasible (main_rows_ascend p h.free).distinct

  -- ---- keys, there and back
  pub key_there : (key : List ℕ) → IsSubtreeKey p root key → IsFeasibleKey space root key
  key_there key k = listed.key_there p root h.free h.columns key k

  pub key_back : (key : List ℕ) → IsFeasibleKey space root key → IsSubtreeKey p root key
  key_back key k = listed.key_back p root h.free h.columns key k.0 k.1

  pub under_there : (one key : List ℕ) → LiesUnder p root one key → IsUnder space root one key
  under_there one key u = (u.0, listed.depth_there p root h.free h.columns one key u.0 u.1)

  pub under_back : (one key : List ℕ) → IsUnder space root one key → LiesUnder p root one key
  under_back one key u = (u.0, listed.depth_back p root h.free h.columns one key u.0 u.1)

  either : (b c : List ℕ) → IsUnder space root b c ⊎ IsUnder space root c b →
      LiesUnder p root b c ⊎ LiesUnder p root c b
  either b c (inl u) = inl (under_back b c u)
  either b c (inr u) = inr (under_back c b u)

  -- ---- vectors, there and back
  pub shown_there : (one : List ℕ) (y : Vector) → (place : Option ℕ) × IsShownAtKey p root one place y →
      IsShownBy space root one (in_main p.kind y)
  shown_there one y s = let w = listed.shown_there p root h.free h.columns one s.0 y s.1 in (w.0, w.1, s.0, w.2)

  pub shown_back : (one : List ℕ) (y : Vector) → IsShown p.kind (cone_of p) y →
      IsShownBy space root one (in_main p.kind y) → (place : Option ℕ) × IsShownAtKey p root one place y
  shown_back one y touched (t, f, place, s) =
      (place, listed.shown_back p root h.free h.columns one place y (t, f, s) touched)

  pub share_there : (key : List ℕ) (y : Vector) → InSubtree p root key y →
      InShare space root key (in_main p.kind y)
  share_there key y m =
      (m.one, under_there m.one key (m.depth, m.under), shown_there m.one y (m.place, m.shown))

  pub share_back : (key : List ℕ) (y : Vector) → IsShown p.kind (cone_of p) y →
      InShare space root key (in_main p.kind y) → InSubtree p root key y
  share_back key y touched (one, u, s) =
      let d = under_back one key u in
      let w = shown_back one y touched s in
      record { one = one; depth = d.0; under = d.1; place = w.0; shown = w.1 }

  within : (a b : List ℕ) (y : Vector) → LiesUnder p root a b → InSubtree p root a y → InSubtree p root b y
  within a b y ab m =
      let d = under_back m.one b
      (tree.through m.one a b (under_there m.one a (m.depth, m.under)) (under_there a b ab)) in
      record { one = m.one; depth = d.0; under = d.1; place = m.place; shown = m.shown }

  pub key_under_there : (key one : List ℕ) → IsKeyUnder p root key one → IsFeasibleUnder space root key one
  key_under_there key one u = (key_there one u.0, under_there one key u.1)

  pub key_under_back : (key one : List ℕ) → IsFeasibleUnder space root key one → IsKeyUnder p root key one
  key_under_back key one u = (key_back one u.0, under_back one key u.1)

  -- ---- weights, there and back
  weight_there : (key : List ℕ) (w : ℕ) → IsSubtreeWeight p root key w → IsWeight space root key w
  weight_there key w (ones, l, count) = (
    ones,
    same_lists (IsKeyUnder p root key) (IsFeasibleUnder space root key) (key_under_there key) (key_under_back key)
        ones l,
    count,
  )

  pub weight_back : (key : List ℕ) (w : ℕ) → IsWeight space root key w → IsSubtreeWeight p root key w
  weight_back key w (ones, l, count) = (
    ones,
    same_lists (IsFeasibleUnder space root key) (IsKeyUnder p root key) (key_under_back key) (key_under_there key)
        ones l,
    count,
  )

  some_weight_of : (key : List ℕ) → IsSubtreeKey p root key → (w : ℕ) × IsSubtreeWeight p root key w
  some_weight_of key k =
      let w = some_weight space root h.home h.feasible (main_rows_ascend p h.free).distinct key (key_there key k) in
      (w.0, weight_back key w.0 w.1)

  pub total_there : (keys : List (List ℕ)) (w : ℕ) → IsSubtreeTotal p root keys w → IsTotal space root keys w
  total_there [] w t = t
  total_there (key ∷ keys) w (u, v, a, b, e) = (u, v, weight_there key u a, total_there keys v b, e)

  some_total : (keys : List (List ℕ)) → ((key : List ℕ) → Contains keys key → IsSubtreeKey p root key) →
      (w : ℕ) × IsSubtreeTotal p root keys w
  some_total [] k = (0, refl)
  some_total (key ∷ keys) k =
      let u = some_weight_of key (k key (Contains-first key keys)) in
      let v = some_total keys (λ one c. k one (Contains-later one key keys c)) in
      (u.0 + v.0, (u.0, v.0, u.1, v.1, refl))

  pub has_shares : HasSubtreeShares p root
  has_shares = record {
    first = key_back root (h.home, root_is_feasible space root h.home h.feasible);
    above = λ one key k u. key_back key (tree.feasible one key (key_there one k) (under_there one key u));
    through = λ a b c ab bc. under_back a c (tree.through a b c (under_there a b ab) (under_there b c bc));
    both = λ a b k ab ba. tree.both a b (key_there a k) (under_there a b ab) (under_there b a ba);
    meet = λ one b c k ob oc.
        either b c (tree.meet one b c (key_there one k) (under_there one b ob) (under_there one c oc));
    one_depth = λ one key m n k a b.
        one_length space root h.home h.feasible (main_rows_ascend p h.free).distinct m n one key (key_there one k)
        (listed.depth_there p root h.free h.columns one key m a)
        (listed.depth_there p root h.free h.columns one key n b);
    itself = λ key. listed.depth_back p root h.free h.columns key key 0 refl;
    joined = λ a b c m n x y.
        listed.depth_back p root h.free h.columns a c (m + n)
        (above_twice space root m n a b c (listed.depth_there p root h.free h.columns a b m x)
        (listed.depth_there p root h.free h.columns b c n y));
    own = λ key place y s. record {
      one = key;
      depth = 0;
      under = listed.depth_back p root h.free h.columns key key 0 refl;
      place = place;
      shown = s;
    };
    within = within;
    common = λ b c y m n. either b c (once.meet b c (in_main p.kind y) (share_there b y m) (share_there c y n));
    weight = some_weight_of;
    one_weight = λ key v w a b. one_weight space root key v w (weight_there key v a) (weight_there key w b);
    total = some_total;
  }

  -- ---- the share of the root
  module _ (few : IsRow (length (cone_of p).rows)) (y : Vector) where
    listed_there : InSubtree p root root y → IsExtreme (cone_of p) y
    listed_there m =
        (extremes_of_main p h.free h.columns few y).1
        ((once.all (in_main p.kind y)).0 (share_there root y m), m.shown.touched)

    listed_back : IsExtreme (cone_of p) y → InSubtree p root root y
    listed_back e =
        let m = (extremes_of_main p h.free h.columns few y).0 e in
        share_back root y m.1 ((once.all (in_main p.kind y)).1 m.0)

    pub root_share : InSubtree p root root y ↔ IsExtreme (cone_of p) y
    root_share = (listed_there, listed_back)
