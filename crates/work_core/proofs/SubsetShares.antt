-- The shares of the work by subsets: prefixes, weights, and the one list of each extreme vector.
use Rattle.std.proofs.Common.{◌≡◌, ◌≢◌, ◌⊎◌, inl, inr, ⊎_elim, ℕ, ◌-◌, ◌≤◌, ◌<◌, List, [], ◌∷◌, ◌++◌, length, length-append, append_assoc, append-nil, refl, sym, ap, subst, ◌∙◌, arith}
use Rattle.std.specs.List.{All, AllByRecursion, Contains}
use Rattle.std.proofs.lemmas.Bool.{cases_eq, cases_lt}
use Rattle.std.proofs.lemmas.List.Elements.{All-from_recursion, All-contains, Contains-append_left}
use Rattle.poly_num.specs.Vectors.{Vector}
use Rattle.poly_model.specs.Keys.{IsAscending}
use Rattle.poly_model.specs.Limits.{most_labels}
use Rattle.poly_model.specs.Systems.{Polyhedron, cone_of}
use Rattle.poly_model.specs.Extreme.{IsExtreme}
use Rattle.linear_laws.specs.Distinct.{AreDistinct}
use Rattle.linear_laws.proofs.Members.{same_first, same_others, Contains-nil, Contains-first, Contains-later, Contains-cons_cases, all_at}
use Rattle.dictionary_laws.proofs.Members.{contains_or, all_from}
use Rattle.listing_laws.specs.Prefixes.{marked_labels}
use Rattle.listing_laws.specs.ListedCone.{cone_over}
use Rattle.listing_laws.proofs.FirstLists.{labels_ascend}
use Rattle.tree_laws.proofs.Sublists.{ascending_parts, contains_ascending}
use Rattle.search_laws.proofs.OnceLists.{one_of_or_not, one_count}
use Rattle.work_core.specs.Meanings.{Meaning, IsKeyBelow, Weighs}
use Rattle.work_core.specs.Subsets.{plain_labels, IsReducedDimension, IsSubsetKey, IsSubsetDepth, IsListOf}
use Rattle.work_core.specs.Searches.{by_subsets}
use Rattle.work_core.specs.Laws.{HasShares}
use Rattle.work_core.specs.Walks.{ShowsAt}
use Rattle.work_core.specs.Subsets.{IsShownAtList}
use Rattle.work_core.specs.Shown.{HasOneList, HaveOneList, HasOneDimension, SubsetsShow, SubsetWalksSplit}
use Rattle.work_core.proofs.Dimensions.{HasBase, has_base, dimension_fills, one_dimension, some_dimension}
use Rattle.work_core.proofs.SubsetLists.{HasMarks, has_marks, same_list, label_is_plain}
use Rattle.work_core.proofs.WalkLemmas.{walk_leaves}

-- ---- prefixes
none_more : (a : List ℕ) → length a ≡ 0 → a ≡ []
none_more [] e = refl
none_more (x ∷ a) e = absurd (omega (arith, e))

meet_at : (b c m k : List ℕ) → b ++ m ≡ c ++ k → ((j : List ℕ) × (b ≡ c ++ j)) ⊎ ((j : List ℕ) × (c ≡ b ++ j))
meet_at [] c m k e = inr (c, refl)
meet_at (x ∷ b) [] m k e = inl (x ∷ b, refl)
meet_at (x ∷ b) (y ∷ c) m k e =
    let h : x ≡ y = same_first x y (b ++ m) (c ++ k) e in
    ⊎_elim (λ (j : (j : List ℕ) × (b ≡ c ++ j)). let q = j.1 in inl (j.0, cc)) (λ (j : (j : List ℕ) × (c ≡ b ++ j)). let q = j.1 in inr (j.0, cc))
    (meet_at b c m k (same_others x y (b ++ m) (c ++ k) e))

extends_or_not : (key one : List ℕ) → ((j : List ℕ) × (one ≡ key ++ j)) ⊎ ((j : List ℕ) → one ≡ key ++ j → ⊥)
extends_or_not [] one = inl (one, refl)
extends_or_not (x ∷ key) [] = inr (λ j e. let l = ap length e in absurd (omega (arith, l, length-append (x ∷ key) j)))
extends_or_not (x ∷ key) (y ∷ one) = by (cases_eq y x) (extends_or_not key one)
  where
    by : (y ≡ x) ⊎ (y ≢ x) → ((j : List ℕ) × (one ≡ key ++ j)) ⊎ ((j : List ℕ) → one ≡ key ++ j → ⊥) →
        ((j : List ℕ) × ((y ∷ one) ≡ (x ∷ key) ++ j)) ⊎ ((j : List ℕ) → (y ∷ one) ≡ (x ∷ key) ++ j → ⊥)
    by (inr n) f = inr (λ j e. n (same_first y x one (key ++ j) e))
    by (inl e) (inr n) = inr (λ j f. n j (same_others y x one (key ++ j) f))
    by (inl e) (inl (j, f)) = inl (j, cc)

pub ascending_front : (front rest : List ℕ) → IsAscending (front ++ rest) → IsAscending front
ascending_front [] rest a = tt
ascending_front (k ∷ front) rest a = (front_all k front rest a.0, ascending_front front rest a.1)
  where
    front_all : (k : ℕ) (front rest : List ℕ) → AllByRecursion (λ y. k < y) (front ++ rest) → AllByRecursion (λ y. k < y) front
    front_all k [] rest h = tt
    front_all k (j ∷ front) rest h = (h.0, front_all k front rest h.1)

-- ---- keys are decided
all_or_not : (P : ℕ → Type 0) → ((k : ℕ) → P k ⊎ (P k → ⊥)) → (ks : List ℕ) → AllByRecursion P ks ⊎ (AllByRecursion P ks → ⊥)
all_or_not P d [] = inl tt
all_or_not P d (k ∷ ks) =
    ⊎_elim
    (λ (h : P k). ⊎_elim (λ (r : AllByRecursion P ks). inl (h, r)) (λ n. inr (λ a. n a.1)) (all_or_not P d ks))
    (λ n. inr (λ a. n a.0)) (d k)

ascending_or_not : (ks : List ℕ) → IsAscending ks ⊎ (IsAscending ks → ⊥)
ascending_or_not [] = inl tt
ascending_or_not (k ∷ ks) =
    ⊎_elim
    (λ (h : AllByRecursion (λ y. k < y) ks). ⊎_elim (λ (r : IsAscending ks). inl (h, r)) (λ n. inr (λ a. n a.1)) (ascending_or_not ks))
    (λ n. inr (λ a. n a.0))
    (all_or_not (λ y. k < y) (λ y. ⊎_elim (λ l. inl l) (λ (m : y ≤ k). inr (λ l. absurd (omega arith))) (cases_lt k y)) ks)

module _ (p : Polyhedron) where
  abbrev work : Meaning
  work = by_subsets p

  rows_all : (key : List ℕ) → ((k : ℕ) → Contains key k → Contains (plain_labels p) k) → All (Contains (plain_labels p)) key
  rows_all key h = All-from_recursion (Contains (plain_labels p)) key (all_from (Contains (plain_labels p)) key h)

  pub is_key : (key : List ℕ) (r : ℕ) → IsReducedDimension p r → IsAscending key → length key ≤ most_labels →
      ((k : ℕ) → Contains key k → Contains (plain_labels p) k) → length key ≤ r - 1 → IsSubsetKey p key
  is_key key r d a l h e = record {
    ascending = record { room = l; ascending = a };
    rows = rows_all key h;
    dimension = r;
    reduced = d;
    short = e;
  }

  pub short_at : (key : List ℕ) (r : ℕ) → IsReducedDimension p r → IsSubsetKey p key → length key ≤ r - 1
  short_at key r d k = let e = one_dimension p k.dimension r k.reduced d in let l = k.short in omega (arith, e, l)

  key_or_not : (r : ℕ) → IsReducedDimension p r → (key : List ℕ) → IsSubsetKey p key ⊎ (IsSubsetKey p key → ⊥)
  key_or_not r d key =
      ⊎_elim
      (λ (a : IsAscending key). ⊎_elim
      (λ (h : AllByRecursion (Contains (plain_labels p)) key). ⊎_elim
      (λ (l : most_labels < length key). inr (λ k. let f = k.ascending.room in absurd (omega (arith, l, f))))
      (λ (l : length key ≤ most_labels). ⊎_elim
      (λ (e : r - 1 < length key). inr (λ k. let f = short_at key r d k in absurd (omega (arith, e, f))))
      (λ (e : length key ≤ r - 1). inl (is_key key r d a l (λ k c. all_at (Contains (plain_labels p)) key h k c) e))
      (cases_lt (r - 1) (length key))) (cases_lt most_labels (length key)))
      (λ n. inr (λ k. n (all_from (Contains (plain_labels p)) key (λ j c. All-contains (Contains (plain_labels p)) key j k.rows c))))
      (all_or_not (Contains (plain_labels p)) (contains_or (plain_labels p)) key))
      (λ n. inr (λ k. n k.ascending.ascending)) (ascending_or_not key)

  under_or_not : (r : ℕ) → IsReducedDimension p r → (key one : List ℕ) → IsKeyBelow work key one ⊎ (IsKeyBelow work key one → ⊥)
  under_or_not r d key one =
      ⊎_elim
      (λ (k : IsSubsetKey p one). ⊎_elim
      (λ (j : (j : List ℕ) × (one ≡ key ++ j)). inl (k, (length j.0, record { more = j.0; begins = j.1; count = refl })))
      (λ n. inr (λ u. n u.1.1.more u.1.1.begins)) (extends_or_not key one))
      (λ n. inr (λ u. n u.0)) (key_or_not r d one)

  -- ---- those of a list with P, each once
  record Picked (P : List ℕ → Type 0) (from : List (List ℕ)) : Type 0 where
    ones : List (List ℕ)
    once : AreDistinct ones
    only : (x : List ℕ) → Contains ones x → P x
    each : (x : List ℕ) → Contains from x → P x → Contains ones x

  pick : (P : List ℕ → Type 0) → ((x : List ℕ) → P x ⊎ (P x → ⊥)) → (from : List (List ℕ)) → Picked P from
  pick P d [] = record { ones = []; once = tt; only = λ x c. absurd (Contains-nil x c); each = λ x c h. absurd (Contains-nil x c) }
  pick P d (y ∷ from) = by (d y) (pick P d from)
    where
      with_first : P y → (r : Picked P from) → Contains r.ones y ⊎ (Contains r.ones y → ⊥) → Picked P (y ∷ from)
      with_first h r (inl c) = record {
        ones = r.ones;
        once = r.once;
        only = r.only;
        each = λ x m k. ⊎_elim (λ (e : y ≡ x). subst (Contains r.ones) e c) (λ n. r.each x n k) (Contains-cons_cases x y from m);
      }
      with_first h r (inr n) = record {
        ones = y ∷ r.ones;
        once = (n, r.once);
        only = λ x m. ⊎_elim (λ (e : y ≡ x). subst P e h) (λ c. r.only x c) (Contains-cons_cases x y r.ones m);
        each = λ x m k. ⊎_elim (λ (e : y ≡ x). subst (Contains (y ∷ r.ones)) e (Contains-first y r.ones))
            (λ c. Contains-later x y r.ones (r.each x c k)) (Contains-cons_cases x y from m);
      }

      by : P y ⊎ (P y → ⊥) → Picked P from → Picked P (y ∷ from)
      by (inl h) r = with_first h r (one_of_or_not r.ones y)
      by (inr n) r = record {
        ones = r.ones;
        once = r.once;
        only = r.only;
        each = λ x m k. ⊎_elim (λ (e : y ≡ x). absurd (n (subst P (sym e) k))) (λ c. r.each x c k) (Contains-cons_cases x y from m);
      }

  some_weight : (key : List ℕ) → (w : ℕ) × Weighs work key w
  some_weight key = by (some_dimension p)
    where
      by : (r : ℕ) × IsReducedDimension p r → (w : ℕ) × Weighs work key w
      by (r, d) =
          let k = pick (IsKeyBelow work key) (under_or_not r d key) (ascending_parts (plain_labels p)) in (
            length k.ones,
            (
              k.ones,
              record {
                once = k.once;
                only = k.only;
                each = λ x u. k.each x (contains_ascending (plain_labels p) x u.0.ascending.ascending
                    (λ j c. All-contains (Contains (plain_labels p)) x j u.0.rows c)) u;
              },
              refl,
            ),
          )

  one_weight_of : (key : List ℕ) (v w : ℕ) → Weighs work key v → Weighs work key w → v ≡ w
  one_weight_of key v w (ks, l, e) (js, m, f) =
      sym e ∙ one_count ks js l.once m.once (λ k c. m.each k (l.only k c)) (λ k c. l.each k (m.only k c)) ∙ f

  one_depth_of : (one key : List ℕ) (m n : ℕ) → IsSubsetDepth one key m → IsSubsetDepth one key n → m ≡ n
  one_depth_of one key m n u v =
      let a = ap length u.begins ∙ length-append key u.more in
      let b = ap length v.begins ∙ length-append key v.more in
      omega (arith, a, b, u.count, v.count)

  pub has_shares : HasShares work
  has_shares = record {
    first = let d = some_dimension p in
        is_key [] d.0 d.1 tt (omega arith) (λ k c. absurd (Contains-nil k c)) (omega arith);
    itself = λ k. record { more = []; begins = sym (append-nil k); count = refl };
    through = λ a b c k u v. (
      length (v.1.more ++ u.1.more),
      record {
        more = v.1.more ++ u.1.more;
        begins = u.1.begins ∙ ap (λ l. l ++ u.1.more) v.1.begins ∙ append_assoc c v.1.more u.1.more;
        count = refl;
      },
    );
    both = λ a b k u v.
        let e = ap length u.1.begins ∙ length-append b u.1.more in
        let f = ap length v.1.begins ∙ length-append a v.1.more in
        u.1.begins ∙ ap (λ l. b ++ l) (none_more u.1.more (omega (arith, e, f))) ∙ append-nil b;
    meet = λ one b c k u v.
        ⊎_elim (λ (j : (j : List ℕ) × (b ≡ c ++ j)). inl (length j.0, record { more = j.0; begins = j.1; count = refl }))
        (λ (j : (j : List ℕ) × (c ≡ b ++ j)). inr (length j.0, record { more = j.0; begins = j.1; count = refl }))
        (meet_at b c u.1.more v.1.more (sym u.1.begins ∙ v.1.begins));
    one_depth = λ one key m n k u v. one_depth_of one key m n u v;
    within = λ a b y k u m. record {
      extreme = m.extreme;
      rest = u.1.more ++ m.rest;
      list = subst (IsListOf p y) (ap (λ l. l ++ m.rest) u.1.begins ∙ append_assoc b u.1.more m.rest) m.list;
    };
    weight = λ key k. some_weight key;
    one_weight = one_weight_of;
  }

  -- ---- lists
  module _ (narrow : p.n ≤ most_labels) (y : Vector) (x : IsExtreme (cone_of p) y) where
    pub has_one_list : HasOneList p y
    has_one_list = by (has_base p)
      where
        by : HasBase p → HasOneList p y
        by b = of_marks (has_marks p (cone_over b.base (cone_of p)) b.cone y x)
          where
            of_marks : HasMarks p (cone_over b.base (cone_of p)) y → HasOneList p y
            of_marks m = record {
              list = marked_labels m.marks;
              is = m.list;
              only = λ other l. same_list p y other (marked_labels m.marks) l m.list;
              long = λ r d. omega (arith, dimension_fills p b r d, m.count);
              keys = λ front rest e. is_front front rest e (some_dimension p);
            }
              where
                is_front : (front rest : List ℕ) → marked_labels m.marks ≡ front ++ rest → (r : ℕ) × IsReducedDimension p r →
                    IsSubsetKey p front
                is_front front rest e (r, d) =
                    let f = dimension_fills p b r d in
                    let l = ap length e ∙ length-append front rest in
                    is_key front r d (ascending_front front rest (subst IsAscending e (labels_ascend 1 m.marks)))
                    (omega (arith, m.count, l))
                    (λ k c. label_is_plain p (cone_over b.base (cone_of p)) b.cone y m.marks m.full m.first k
                    (subst (λ ks. Contains ks k) (sym e) (Contains-append_left front rest k c)))
                    (omega (arith, m.count, l, f))

  pub shows_at : p.n ≤ most_labels → ShowsAt work (IsShownAtList p)
  shows_at narrow = record {
    one_key = λ a b y u v. same_list p y a b u.1 v.1;
    share = λ key y k. (
      λ m. let h = has_one_list narrow y m.extreme in
          let e = h.only (key ++ m.rest) m.list in (
            key ++ m.rest,
            (
              h.keys (key ++ m.rest) [] (sym e ∙ sym (append-nil (key ++ m.rest))),
              (length m.rest, record { more = m.rest; begins = refl; count = refl }),
            ),
            (m.extreme, m.list),
          ),
      λ u. record {
        extreme = u.2.0;
        rest = u.1.1.1.more;
        list = subst (IsListOf p y) u.1.1.1.begins u.2.1;
      },
    );
  }

pub one_dimension_each : HasOneDimension
one_dimension_each p = let d = some_dimension p in (d.0, d.1, λ q e. one_dimension p q d.0 e d.1)

pub each_has_one_list : HaveOneList
each_has_one_list p narrow y x = has_one_list p narrow y x

pub subsets_show : SubsetsShow
subsets_show p narrow = shows_at p narrow

pub subset_walks_split : SubsetWalksSplit
subset_walks_split p narrow key is visited given rows w start =
    walk_leaves (by_subsets p) (IsShownAtList p) (has_shares p) (shows_at p narrow) key is visited given rows w start
