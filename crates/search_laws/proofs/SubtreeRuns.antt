-- Runs in the words of a polyhedron's listing, from those of its main space.
use Rattle.std.proofs.Common.{◌≡◌, ◌⊎◌, ◌↔◌, inl, inr, ⊎_elim, ◌+◌, ℕ, List, [], ◌∷◌, ◌++◌, length, sym, subst, ◌∙◌}
use Rattle.std.specs.Prelude.{Option}
use Rattle.std.specs.List.{Contains}
use Rattle.std.proofs.lemmas.List.Elements.{Contains-append_left, Contains-append_right}
use Rattle.poly_num.specs.Vectors.{Vector}
use Rattle.poly_model.specs.Systems.{Polyhedron, cone_of}
use Rattle.poly_model.specs.Extreme.{IsShown}
use Rattle.poly_model.specs.Spaces.{Space, main_space, in_main}
use Rattle.poly_model.specs.Tree.{IsUnder}
use Rattle.poly_model.specs.Subtrees.{IsSubtreeRoot, IsSubtreeKey, IsShownAtKey, InSubtree}
use Rattle.linear_laws.specs.Distinct.{AreDistinct}
use Rattle.linear_laws.proofs.Members.{Contains-nil, Contains-first, Contains-later, Contains-cons_cases}
use Rattle.linear_laws.proofs.Distinct.{distinct_append}
use Rattle.tree_laws.proofs.AscendingRows.{main_rows_ascend}
use Rattle.tree_laws.proofs.OneList.{same_columns}
use Rattle.tree_laws.proofs.ListedVectors as listed
use Rattle.search_laws.specs.Shares.{ListsAll, IsFeasibleUnder, IsChild}
use Rattle.search_laws.specs.Weights.{IsAntichain}
use Rattle.search_laws.specs.Splits.{IsSplit, IsShownBySome, InSomeShare, AreSplit}
use Rattle.search_laws.specs.Partitions.{PartsShare}
use Rattle.search_laws.specs.SharesOfListings.{LiesUnder, IsKeyUnder, IsSubtreeChild, IsShownAtSome, InSomeSubtree, IsRun, RunsPartSubtrees}
use Rattle.search_laws.proofs.Depths.{child_above, last_step}
use Rattle.search_laws.proofs.OnceLists.{same_lists, at_either}
use Rattle.search_laws.proofs.ShareParts.{under_itself}
use Rattle.search_laws.proofs.Visits.{are_split}
use Rattle.search_laws.proofs.SubtreeShares as words

-- ---- keys that are apart
module _ (space : Space) (root : List ℕ) where
  same_or_apart : (keys : List (List ℕ)) → IsAntichain space root keys → (b c : List ℕ) → Contains keys b →
      Contains keys c → IsUnder space root b c → b ≡ c
  same_or_apart [] a b c m n u = absurd (Contains-nil b m)
  same_or_apart (key ∷ keys) a b c m n u =
      ⊎_elim
      (λ (e : key ≡ b). ⊎_elim (λ (f : key ≡ c). sym e ∙ f)
      (λ (d : Contains keys c). absurd ((a.0 c d).above (subst (λ k. IsUnder space root k c) (sym e) u)))
      (Contains-cons_cases c key keys n))
      (λ (d : Contains keys b). ⊎_elim
      (λ (f : key ≡ c). absurd ((a.0 b d).below (subst (λ k. IsUnder space root b k) (sym f) u)))
      (λ (g : Contains keys c). same_or_apart keys a.1 b c d g u)
      (Contains-cons_cases c key keys n))
      (Contains-cons_cases b key keys m)

  -- so they are distinct
  pub apart_once : (keys : List (List ℕ)) → IsAntichain space root keys → AreDistinct keys
  apart_once [] a = tt
  apart_once (key ∷ keys) a = (λ c. (a.0 key c).above (under_itself space root key), apart_once keys a.1)

module _ (p : Polyhedron) (root : List ℕ) (h : IsSubtreeRoot p root) where
  abbrev space : Space
  space = main_space p h.free

  splits : AreSplit space root
  splits = are_split space root h.home h.feasible (main_rows_ascend p h.free).distinct

  -- ---- runs, there and back
  pub run_there : (key : List ℕ) (visited waiting : List (List ℕ)) → IsRun p root key visited waiting →
      IsSplit space root key visited waiting
  run_there key visited waiting r =
      subst (λ f. IsSplit (main_space p f) root key visited waiting) (same_columns p h.free r.free h.columns r.columns)
      r.split

  pub run_back : (key : List ℕ) (visited waiting : List (List ℕ)) → IsSplit space root key visited waiting →
      IsRun p root key visited waiting
  run_back key visited waiting s = record { free = h.free; columns = h.columns; split = s }

  -- ---- children, there and back
  pub child_there : (key child : List ℕ) → IsSubtreeChild p root key child → IsChild space root key child
  child_there key child c =
      by (last_step space root h.home h.feasible 0 child key (words.key_there p root h child c.0)
      (listed.depth_there p root h.free h.columns child key 1 c.1))
    where
      by : (one : List ℕ) × (child ≡ one) × IsChild space root key one → IsChild space root key child
      by (one, e, k) = subst (λ j. IsChild space root key j) (sym e) k

  pub child_back : (key child : List ℕ) → IsChild space root key child → IsSubtreeChild p root key child
  child_back key child c = (
    words.key_back p root h child (c.0, c.1),
    listed.depth_back p root h.free h.columns child key 1 (child_above space root key child c),
  )

  -- ---- what is shown and what waits, there and back
  some_there : (keys : List (List ℕ)) (y : Vector) → IsShownAtSome p root keys y →
      IsShownBySome space root keys (in_main p.kind y)
  some_there keys y s = (s.0, s.1, words.shown_there p root h s.0 y (s.2, s.3))

  some_back : (keys : List (List ℕ)) (y : Vector) → IsShown p.kind (cone_of p) y →
      IsShownBySome space root keys (in_main p.kind y) → IsShownAtSome p root keys y
  some_back keys y touched (one, c, s) = let w = words.shown_back p root h one y touched s in (one, c, w.0, w.1)

  waiting_there : (keys : List (List ℕ)) (y : Vector) → InSomeSubtree p root keys y →
      InSomeShare space root keys (in_main p.kind y)
  waiting_there keys y s = (s.0, s.1, words.share_there p root h s.0 y s.2)

  -- ---- a visit
  visit : (key one : List ℕ) (visited waiting children : List (List ℕ)) → IsRun p root key visited (one ∷ waiting) →
      ListsAll (IsSubtreeChild p root one) children → IsRun p root key (one ∷ visited) (children ++ waiting)
  visit key one visited waiting children r l =
      run_back key (one ∷ visited) (children ++ waiting)
      (splits.visit key one visited waiting children (run_there key visited (one ∷ waiting) r)
      (same_lists (IsSubtreeChild p root one) (IsChild space root one) (child_there one) (child_back one) children l))

  to_front : (key one : List ℕ) (visited front back : List (List ℕ)) →
      IsRun p root key visited (front ++ one ∷ back) ↔ IsRun p root key visited (one ∷ front ++ back)
  to_front key one visited front back = (
    λ r. run_back key visited (one ∷ front ++ back)
        ((splits.to_front key one visited front back).0 (run_there key visited (front ++ one ∷ back) r)),
    λ r. run_back key visited (front ++ one ∷ back)
        ((splits.to_front key one visited front back).1 (run_there key visited (one ∷ front ++ back) r)),
  )

  -- a vector is shown at one key
  one_place : (b c : List ℕ) (y : Vector) → (place : Option ℕ) × IsShownAtKey p root b place y →
      (place : Option ℕ) × IsShownAtKey p root c place y → b ≡ c
  one_place b c y s t =
      (words.once p root h).one b c (in_main p.kind y) (words.shown_there p root h b y s)
      (words.shown_there p root h c y t)

  more_rows : (one : List ℕ) (visited : List (List ℕ)) (ys rows : List Vector) → (Contains visited one → ⊥) →
      ListsAll (IsShownAtSome p root (one ∷ [])) ys → ListsAll (IsShownAtSome p root visited) rows →
      ListsAll (IsShownAtSome p root (one ∷ visited)) (ys ++ rows)
  more_rows one visited ys rows new a b = record {
    once = distinct_append ys rows a.once b.once (λ y c d. apart y (a.only y c) (b.only y d));
    only = at_either (IsShownAtSome p root (one ∷ visited)) ys rows (λ y c. from_own y (a.only y c))
        (λ y c. from_earlier y (b.only y c));
    each = λ y s. ⊎_elim
        (λ (e : one ≡ s.0). Contains-append_left ys rows y
        (a.each y (s.0, subst (λ k. Contains (k ∷ []) s.0) (sym e) (Contains-first s.0 []), s.2, s.3)))
        (λ (c : Contains visited s.0). Contains-append_right ys rows y (b.each y (s.0, c, s.2, s.3)))
        (Contains-cons_cases s.0 one visited s.1);
  }
    where
      own : (k : List ℕ) → Contains (one ∷ []) k → one ≡ k
      own k c =
          ⊎_elim (λ (e : one ≡ k). e) (λ (d : Contains [] k). absurd (Contains-nil k d))
          (Contains-cons_cases k one [] c)

      apart : (y : Vector) → IsShownAtSome p root (one ∷ []) y → IsShownAtSome p root visited y → ⊥
      apart y (b, c, i, s) (k, d, j, t) =
          new (subst (λ o. Contains visited o) (sym (own b c ∙ one_place b k y (i, s) (j, t))) d)

      from_own : (y : Vector) → IsShownAtSome p root (one ∷ []) y → IsShownAtSome p root (one ∷ visited) y
      from_own y (b, c, i, s) =
          (b, subst (λ k. Contains (one ∷ visited) k) (own b c) (Contains-first one visited), i, s)

      from_earlier : (y : Vector) → IsShownAtSome p root visited y → IsShownAtSome p root (one ∷ visited) y
      from_earlier y (b, c, i, s) = (b, Contains-later b one visited c, i, s)

  -- ---- a run
  module _ (key : List ℕ) (visited waiting : List (List ℕ)) (r : IsRun p root key visited waiting) where
    split : IsSplit space root key visited waiting
    split = run_there key visited waiting r

    module _ (y : Vector) where
      share_parts : InSubtree p root key y → IsShownAtSome p root visited y ⊎ InSomeSubtree p root waiting y
      share_parts m =
          ⊎_elim
          (λ (s : IsShownBySome space root visited (in_main p.kind y)). inl (some_back visited y m.shown.touched s))
          (λ (s : InSomeShare space root waiting (in_main p.kind y)).
          inr (s.0, s.1, words.share_back p root h s.0 y m.shown.touched s.2))
          ((splits.share key visited waiting split (in_main p.kind y)).0 (words.share_there p root h key y m))

      shown_within : IsShownAtSome p root visited y → InSubtree p root key y
      shown_within s =
          words.share_back p root h key y s.3.touched
          ((splits.share key visited waiting split (in_main p.kind y)).1 (inl (some_there visited y s)))

      waiting_within : InSomeSubtree p root waiting y → InSubtree p root key y
      waiting_within s =
          words.share_back p root h key y s.2.shown.touched
          ((splits.share key visited waiting split (in_main p.kind y)).1 (inr (waiting_there waiting y s)))

      not_both : IsShownAtSome p root visited y → InSomeSubtree p root waiting y → ⊥
      not_both s w =
          (words.once p root h).shown_or_waiting key visited waiting split (in_main p.kind y) (some_there visited y s)
          (waiting_there waiting y w)

      one_waiting : (b c : List ℕ) → Contains waiting b → Contains waiting c → InSubtree p root b y →
          InSubtree p root c y → b ≡ c
      one_waiting b c m n x z =
          ⊎_elim
          (same_or_apart space root waiting split.apart b c m n)
          (λ (u : IsUnder space root c b). sym (same_or_apart space root waiting split.apart c b n m u))
          ((words.once p root h).meet b c (in_main p.kind y) (words.share_there p root h b y x)
          (words.share_there p root h c y z))

    parts : (one : List ℕ) (rows : List Vector) → Contains visited one → ListsAll (IsShownAtSome p root visited) rows →
        PartsShare (IsSubtreeKey p root) (LiesUnder p root) (InSubtree p root) key rows waiting
    parts one rows c l = record {
      parts = record {
        rows_once = l.once;
        keys_once = apart_once space root waiting split.apart;
        covers = λ y m. ⊎_elim (λ (s : IsShownAtSome p root visited y). inl (l.each y s))
            (λ (s : InSomeSubtree p root waiting y). inr s) (share_parts y m);
        rows_within = λ y m. shown_within y (l.only y m);
        keys_within = λ k y m s. waiting_within y (k, m, s);
        apart = λ k y m s n. not_both y (l.only y n) (k, m, s);
        one_key = λ b d y m n s t. one_waiting y b d m n s t;
      };
      given = λ k m. record {
        key_of = words.key_back p root h k (split.waits k m).0;
        under = words.under_back p root h k key (split.waits k m).1;
        other = λ e. splits.not_itself key one visited waiting split c (subst (λ j. Contains waiting j) e m);
      };
      side_by_side = λ b d m n u.
          same_or_apart space root waiting split.apart b d m n (words.under_there p root h b d u);
    }

  pub runs_part : RunsPartSubtrees p root
  runs_part = record {
    start = λ key k. run_back key [] (key ∷ []) (splits.start key (words.key_there p root h key k));
    visit = visit;
    visited_under = λ key one visited waiting r c.
        words.key_under_back p root h key one ((split key visited waiting r).only one c);
    waiting_under = λ key one visited waiting r c.
        words.key_under_back p root h key one ((split key visited waiting r).waits one c);
    finished = λ key visited r.
        same_lists (IsFeasibleUnder space root key) (IsKeyUnder p root key) (words.key_under_back p root h key)
        (words.key_under_there p root h key) visited (splits.finished key visited (split key visited [] r));
    to_front = to_front;
    more_rows = more_rows;
    share = λ key visited waiting r y. (
      share_parts key visited waiting r y,
      ⊎_elim (shown_within key visited waiting r y) (waiting_within key visited waiting r y),
    );
    not_both = not_both;
    one_waiting = λ key b c visited waiting r y. one_waiting key visited waiting r y b c;
    parts = λ key one visited waiting rows r c l. parts key visited waiting r one rows c l;
    weight = λ key visited waiting w r t.
        words.weight_back p root h key (length visited + w)
        (splits.weight key visited waiting w (split key visited waiting r) (words.total_there p root h waiting w t));
  }
