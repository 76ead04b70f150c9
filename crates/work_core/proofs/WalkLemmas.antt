-- Walks one after the other; and what a walk over the keys under a key leaves is a split of its share within its weight.
use Rattle.std.proofs.Common.{◌≡◌, ◌⊎◌, ◌↔◌, inl, inr, ⊎_elim, ℕ, ◌+◌, List, [], ◌∷◌, ◌++◌, length, length-append, refl, sym, ap, subst, ◌∙◌, arith}
use Rattle.std.specs.List.{Contains}
use Rattle.std.proofs.lemmas.List.Elements.{All-from_recursion, Contains-append_left, Contains-append_right, Contains-append_cases}
use Rattle.poly_num.specs.Vectors.{Vector}
use Rattle.linear_laws.specs.Distinct.{AreDistinct}
use Rattle.linear_laws.proofs.Members.{Contains-nil, Contains-first, Contains-later, Contains-cons_cases}
use Rattle.linear_laws.proofs.Distinct.{distinct_append}
use Rattle.listing_laws.proofs.ListLemmas.{all_members}
use Rattle.search_laws.specs.Shares.{ListsAll}
use Rattle.search_laws.proofs.OnceLists.{at_either}
use Rattle.search_laws.specs.Partitions.{IsGivenBack}
use Rattle.work_core.specs.Meanings.{Meaning, StandsUnder, IsKeyBelow, WeighTogether}
use Rattle.work_core.specs.Splits.{Splits, AreWithin}
use Rattle.work_core.specs.Laws.{HasShares}
use Rattle.work_core.specs.Walks.{StandsUnderSome, ShowsAt, IsWalk, LeavesSplit}

-- a key lies under itself
pub under_itself : (work : Meaning) → HasShares work → (k : List ℕ) → StandsUnder work k k
under_itself work shares k = (0, shares.itself k)

module _ (work : Meaning) (Shows : List ℕ → Vector → Type 0) where
  -- ---- pieces
  -- nothing
  pub walk_none : (P : List ℕ → Type 0) → ((one : List ℕ) → P one → ⊥) → IsWalk work Shows P [] [] []
  walk_none P n = record {
    once = tt;
    only = λ one c. absurd (Contains-nil one c);
    each = λ one h. absurd (n one h);
    not_both = λ one c u. Contains-nil one c;
    given_once = tt;
    given_keys = λ k c. absurd (Contains-nil k c);
    given_within = λ k one c u. absurd (Contains-nil k c);
    apart = λ j k one c d u v. absurd (Contains-nil j c);
    rows_once = tt;
    rows_shown = λ y c. absurd (Contains-nil y c);
    shown_rows = λ one y c h. absurd (Contains-nil one c);
  }

  -- one key is visited
  pub walk_visit : (key : List ℕ) (rows : List Vector) → ListsAll (Shows key) rows →
      IsWalk work Shows (λ one. one ≡ key) (key ∷ []) [] rows
  walk_visit key rows l = record {
    once = (Contains-nil key, tt);
    only = λ one c. this one c;
    each = λ one e. inl (subst (Contains (key ∷ [])) (sym e) (Contains-first key []));
    not_both = λ one c u. Contains-nil u.0 u.1;
    given_once = tt;
    given_keys = λ k c. absurd (Contains-nil k c);
    given_within = λ k one c u. absurd (Contains-nil k c);
    apart = λ j k one c d u v. absurd (Contains-nil j c);
    rows_once = l.once;
    rows_shown = λ y c. (key, Contains-first key [], l.only y c);
    shown_rows = λ one y c h. l.each y (subst (λ k. Shows k y) (this one c) h);
  }
    where
      this : (one : List ℕ) → Contains (key ∷ []) one → one ≡ key
      this one c = ⊎_elim (λ (e : key ≡ one). sym e) (λ d. absurd (Contains-nil one d)) (Contains-cons_cases one key [] c)

  -- one key is given back
  pub walk_give : (key : List ℕ) → work.is_key key → IsWalk work Shows (IsKeyBelow work key) [] (key ∷ []) []
  walk_give key is = record {
    once = tt;
    only = λ one c. absurd (Contains-nil one c);
    each = λ one h. inr (key, Contains-first key [], h.1);
    not_both = λ one c u. Contains-nil one c;
    given_once = (Contains-nil key, tt);
    given_keys = λ k c. subst (work.is_key) (this k c) is;
    given_within = λ k one c u. subst (λ j. IsKeyBelow work j one) (sym (this k c)) u;
    apart = λ j k one c d u v. sym (this j c) ∙ this k d;
    rows_once = tt;
    rows_shown = λ y c. absurd (Contains-nil y c);
    shown_rows = λ one y c h. absurd (Contains-nil one c);
  }
    where
      this : (k : List ℕ) → Contains (key ∷ []) k → key ≡ k
      this k c = ⊎_elim (λ (e : key ≡ k). e) (λ d. absurd (Contains-nil k d)) (Contains-cons_cases k key [] c)

  -- ---- the keys told in another way
  pub walk_of : (P Q : List ℕ → Type 0) (visited given : List (List ℕ)) (rows : List Vector) →
      ((one : List ℕ) → P one ↔ Q one) → IsWalk work Shows P visited given rows → IsWalk work Shows Q visited given rows
  walk_of P Q visited given rows h w = record {
    once = w.once;
    only = λ one c. (h one).0 (w.only one c);
    each = λ one q. w.each one ((h one).1 q);
    not_both = w.not_both;
    given_once = w.given_once;
    given_keys = w.given_keys;
    given_within = λ k one c u. (h one).0 (w.given_within k one c u);
    apart = w.apart;
    rows_once = w.rows_once;
    rows_shown = w.rows_shown;
    shown_rows = w.shown_rows;
  }

  under_append : (ks ls : List (List ℕ)) (one : List ℕ) → StandsUnderSome work (ks ++ ls) one →
      StandsUnderSome work ks one ⊎ StandsUnderSome work ls one
  under_append ks ls one (k, c, u) =
      ⊎_elim (λ d. inl (k, d, u)) (λ d. inr (k, d, u)) (Contains-append_cases ks ls k c)

  -- ---- one walk and then another, over other keys
  module _ (itself : (k : List ℕ) → StandsUnder work k k) (one_key : (a b : List ℕ) (y : Vector) → Shows a y → Shows b y → a ≡ b)
      (P Q : List ℕ → Type 0) (other : (one : List ℕ) → P one → Q one → ⊥)
      (vs ws : List (List ℕ)) (gs hs : List (List ℕ)) (xs ys : List Vector)
      (v : IsWalk work Shows P vs gs xs) (w : IsWalk work Shows Q ws hs ys)
      (keys : (one : List ℕ) → (P one ⊎ Q one) → work.is_key one) where
    left_in : (one : List ℕ) → StandsUnderSome work gs one → work.is_key one → P one
    left_in one (k, c, u) i = v.given_within k one c (i, u)

    right_in : (one : List ℕ) → StandsUnderSome work hs one → work.is_key one → Q one
    right_in one (k, c, u) i = w.given_within k one c (i, u)

    pub walk_then : IsWalk work Shows (λ one. P one ⊎ Q one) (vs ++ ws) (gs ++ hs) (xs ++ ys)
    walk_then = record {
      once = distinct_append vs ws v.once w.once (λ one c d. other one (v.only one c) (w.only one d));
      only = λ one c. ⊎_elim (λ d. inl (v.only one d)) (λ d. inr (w.only one d)) (Contains-append_cases vs ws one c);
      each = λ one h. ⊎_elim
          (λ p. ⊎_elim (λ c. inl (Contains-append_left vs ws one c))
          (λ (u : StandsUnderSome work gs one). inr (u.0, Contains-append_left gs hs u.0 u.1, u.2)) (v.each one p))
          (λ q. ⊎_elim (λ c. inl (Contains-append_right vs ws one c))
          (λ (u : StandsUnderSome work hs one). inr (u.0, Contains-append_right gs hs u.0 u.1, u.2)) (w.each one q))
          h;
      not_both = λ one c u. ⊎_elim
          (λ (d : Contains vs one). ⊎_elim (λ t. v.not_both one d t)
          (λ t. other one (v.only one d) (right_in one t (keys one (inl (v.only one d)))))
          (under_append gs hs one u))
          (λ (d : Contains ws one). ⊎_elim
          (λ t. other one (left_in one t (keys one (inr (w.only one d)))) (w.only one d))
          (λ t. w.not_both one d t) (under_append gs hs one u))
          (Contains-append_cases vs ws one c);
      given_once = distinct_append gs hs v.given_once w.given_once
          (λ k c d. other k (v.given_within k k c (v.given_keys k c, itself k)) (w.given_within k k d (v.given_keys k c, itself k)));
      given_keys = λ k c. ⊎_elim (v.given_keys k) (w.given_keys k) (Contains-append_cases gs hs k c);
      given_within = λ k one c u. ⊎_elim (λ d. inl (v.given_within k one d u)) (λ d. inr (w.given_within k one d u))
          (Contains-append_cases gs hs k c);
      apart = λ j k one c d t u. ⊎_elim
          (λ (e : Contains gs j). ⊎_elim (λ f. v.apart j k one e f t u)
          (λ f. absurd (other one (v.given_within j one e t) (w.given_within k one f u))) (Contains-append_cases gs hs k d))
          (λ (e : Contains hs j). ⊎_elim
          (λ f. absurd (other one (v.given_within k one f u) (w.given_within j one e t)))
          (λ f. w.apart j k one e f t u) (Contains-append_cases gs hs k d))
          (Contains-append_cases gs hs j c);
      rows_once = distinct_append xs ys v.rows_once w.rows_once (λ y c d.
          let a = v.rows_shown y c in let b = w.rows_shown y d in
          other b.0 (subst P (one_key a.0 b.0 y a.2 b.2) (v.only a.0 a.1)) (w.only b.0 b.1));
      rows_shown = λ y c. ⊎_elim
          (λ d. let a = v.rows_shown y d in (a.0, Contains-append_left vs ws a.0 a.1, a.2))
          (λ d. let b = w.rows_shown y d in (b.0, Contains-append_right vs ws b.0 b.1, b.2))
          (Contains-append_cases xs ys y c);
      shown_rows = λ one y c h. ⊎_elim (λ d. Contains-append_left xs ys y (v.shown_rows one y d h))
          (λ d. Contains-append_right xs ys y (w.shown_rows one y d h)) (Contains-append_cases vs ws one c);
    }

  -- ---- a walk over the keys under a key
  module _ (shares : HasShares work) (shows : ShowsAt work Shows)
      (key : List ℕ) (is : work.is_key key)
      (P : List ℕ → Type 0) (under : (one : List ℕ) → P one → IsKeyBelow work key one)
      (visited given : List (List ℕ)) (rows : List Vector) (w : IsWalk work Shows P visited given rows) where
    row_in : (y : Vector) → Contains rows y → work.in_share key y
    row_in y c = let a = w.rows_shown y c in (shows.share key y is).1 (a.0, under a.0 (w.only a.0 a.1), a.2)

    key_in : (k : List ℕ) → Contains given k → IsKeyBelow work key k
    key_in k c = under k (w.given_within k k c (w.given_keys k c, under_itself work shares k))

    -- it stays within the share, however far it is
    pub walk_within : AreWithin work key rows given
    walk_within = record {
      rows_within = All-from_recursion (work.in_share key) rows (all_members (work.in_share key) rows row_in);
      keys_within = All-from_recursion (IsKeyBelow work key) given
          (all_members (IsKeyBelow work key) given key_in);
    }

  module _ (shares : HasShares work) (shows : ShowsAt work Shows)
      (key : List ℕ) (is : work.is_key key) (visited given : List (List ℕ)) (rows : List Vector)
      (w : IsWalk work Shows (IsKeyBelow work key) visited given rows) (start : Contains visited key) where
    pub walk_splits : Splits work key rows given
    walk_splits = record {
      parts = record {
        rows_once = w.rows_once;
        keys_once = w.given_once;
        covers = λ y h. let a = (shows.share key y is).0 h in
            ⊎_elim (λ c. inl (w.shown_rows a.0 y c a.2))
            (λ (u : StandsUnderSome work given a.0).
            inr (u.0, u.1, (shows.share u.0 y (w.given_keys u.0 u.1)).1 (a.0, (a.1.0, u.2), a.2))) (w.each a.0 a.1);
        rows_within = λ y c. row_in shares shows key is (IsKeyBelow work key) (λ one h. h) visited given rows w y c;
        keys_within = λ k y c h. let a = (shows.share k y (w.given_keys k c)).0 h in
            (shows.share key y is).1 (a.0, w.given_within k a.0 c a.1, a.2);
        apart = λ k y c h d. let a = (shows.share k y (w.given_keys k c)).0 h in let b = w.rows_shown y d in
            w.not_both a.0 (subst (Contains visited) (shows.one_key b.0 a.0 y b.2 a.2) b.1) (k, c, a.1.1);
        one_key = λ j k y c d g h.
            let a = (shows.share j y (w.given_keys j c)).0 g in let b = (shows.share k y (w.given_keys k d)).0 h in
            w.apart j k a.0 c d a.1 (subst (λ o. IsKeyBelow work k o) (shows.one_key b.0 a.0 y b.2 a.2) b.1);
      };
      given = back;
      side_by_side = λ j k c d u. w.apart j k j c d (w.given_keys j c, under_itself work shares j) (w.given_keys j c, u);
    }
      where
        back : (k : List ℕ) → Contains given k → IsGivenBack work.is_key (StandsUnder work) work.in_share key k
        back k c = let a = key_in shares shows key is (IsKeyBelow work key) (λ one h. h) visited given rows w k c in
            record {
              key_of = a.0;
              under = a.1;
              other = λ e. w.not_both key start (k, c, subst (λ o. StandsUnder work o k) e (under_itself work shares k));
            }

    -- ---- the keys that are given back weigh what is not visited
    pub record Gathered (keys : List (List ℕ)) (total : ℕ) : Type 0 where
      pub ones : List (List ℕ)
      pub lists : ListsAll (λ one. work.is_key one × StandsUnderSome work keys one) ones
      pub size : length ones ≡ total

    gather : (keys : List (List ℕ)) → AreDistinct keys → ((k : List ℕ) → Contains keys k → Contains given k) → (t : ℕ) →
        WeighTogether work keys t → Gathered keys t
    gather [] o h t e = record {
      ones = [];
      lists = record {
        once = tt;
        only = λ one c. absurd (Contains-nil one c);
        each = λ one u. absurd (Contains-nil u.1.0 u.1.1);
      };
      size = sym e;
    }
    gather (k ∷ keys) o h t (a, b, (ks, l, e), rest, sum) =
        by (gather keys o.1 (λ j c. h j (Contains-later j k keys c)) b rest)
      where
        by : Gathered keys b → Gathered (k ∷ keys) t
        by g = record {
          ones = ks ++ g.ones;
          lists = record {
            once = distinct_append ks g.ones l.once g.lists.once
                (λ one c d. let p = l.only one c in let q = g.lists.only one d in
                o.0 (subst (Contains keys) (sym (w.apart k q.1.0 one (h k (Contains-first k keys))
                (h q.1.0 (Contains-later q.1.0 k keys q.1.1)) p (q.0, q.1.2))) q.1.1));
            only = λ one c. ⊎_elim
                (λ d. let p = l.only one d in (p.0, (k, Contains-first k keys, p.1)))
                (λ d. let q = g.lists.only one d in (q.0, (q.1.0, Contains-later q.1.0 k keys q.1.1, q.1.2)))
                (Contains-append_cases ks g.ones one c);
            each = λ one p. ⊎_elim
                (λ (f : k ≡ p.1.0). Contains-append_left ks g.ones one
                (l.each one (p.0, subst (λ j. StandsUnder work one j) (sym f) p.1.2)))
                (λ d. Contains-append_right ks g.ones one (g.lists.each one (p.0, (p.1.0, d, p.1.2))))
                (Contains-cons_cases p.1.0 k keys p.1.1);
          };
          size = length-append ks g.ones ∙ add (length ks) (length g.ones) e g.size;
        }
          where
            add : (x y : ℕ) → x ≡ a → y ≡ b → x + y ≡ t
            add x y f g = omega (arith, sum)

    some_total : (keys : List (List ℕ)) → ((k : List ℕ) → Contains keys k → work.is_key k) → (t : ℕ) × WeighTogether work keys t
    some_total [] h = (0, refl)
    some_total (k ∷ keys) h =
        let a = shares.weight k (h k (Contains-first k keys)) in
        let b = some_total keys (λ j c. h j (Contains-later j k keys c)) in
        (a.0 + b.0, (a.0, b.0, a.1, b.1, refl))

    pub walk_leaves : LeavesSplit work key visited given rows
    walk_leaves = by (some_total given w.given_keys)
      where
        by : (t : ℕ) × WeighTogether work given t → LeavesSplit work key visited given rows
        by (t, all) = with_ones (gather given w.given_once (λ k c. c) t all)
          where
            with_ones : Gathered given t → LeavesSplit work key visited given rows
            with_ones g = record {
              splits = walk_splits;
              whole = length visited + t;
              left = t;
              weighs = (
                visited ++ g.ones,
                record {
                  once = distinct_append visited g.ones w.once g.lists.once
                      (λ one c d. w.not_both one c (g.lists.only one d).1);
                  only = at_either (IsKeyBelow work key) visited g.ones w.only
                      (λ one c. let p = g.lists.only one c in w.given_within p.1.0 one p.1.1 (p.0, p.1.2));
                  each = λ one u. ⊎_elim (λ c. Contains-append_left visited g.ones one c)
                      (λ t. Contains-append_right visited g.ones one (g.lists.each one (u.0, t))) (w.each one u);
                },
                length-append visited g.ones ∙ ap (λ n. length visited + n) g.size,
              );
              weigh = all;
              visits = refl;
            }
