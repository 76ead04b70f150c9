-- What a dictionary that stands at a list tells of the lists under it.
use Rattle.std.proofs.Common.{◌≡◌, ⊎_elim, Bool, true, false, ℕ, zero, suc, ◌+◌, ◌≤◌, ◌<◌, List, [], ◌∷◌, ◌++◌, length, length-append, append_assoc, append-nil, refl, sym, ap, subst, ◌∙◌, arith}
use Rattle.std.specs.List.{Contains, slice_index_or}
use Rattle.std.proofs.lemmas.List.{append_cancel_left}
use Rattle.std.proofs.lemmas.List.Elements.{Contains-append_left, Contains-append_cases}
use Rattle.poly_num.specs.Vectors.{Vector}
use Rattle.poly_model.specs.Keys.{IsAscending}
use Rattle.poly_model.specs.Systems.{System, Polyhedron, cone_of}
use Rattle.poly_model.specs.Extreme.{IsExtreme}
use Rattle.linear_laws.specs.LocalTest.{AreFirstTight}
use Rattle.linear_laws.proofs.FirstBases.{not_both}
use Rattle.linear_laws.proofs.TightLists.{tight_unique}
use Rattle.linear_laws.proofs.Members.{same_others, Contains-nil, Contains-first, Contains-cons_cases, all_at, ascending_is_one}
use Rattle.dictionary_laws.proofs.Members.{without}
use Rattle.dictionary.specs.Views.{Dictionary, IsPivot}
use Rattle.search_laws.specs.Shares.{ListsAll}
use Rattle.listing_laws.specs.ListedCone.{ListedCone, IsConeOf}
use Rattle.listing_laws.specs.Lists.{Lists}
use Rattle.listing_laws.specs.Prefixes.{labels_from, marked_labels, taken_at, IsCornerUnder}
use Rattle.listing_laws.proofs.ConeLemmas.{extreme_is_shown_corner}
use Rattle.listing_laws.proofs.FirstLists.{labels_within, labels_ascend, labels-with, labels-without, first_with}
use Rattle.plain_enum.specs.Columns.{IsColumnOf, HasNoColumn}
use Rattle.plain_enum.specs.Standing.{parted}
use Rattle.plain_enum.proofs.Counting.{length_of_cobasis}
use Rattle.plain_enum.proofs.NextRow as next_row
use Rattle.plain_enum.proofs.Standings.{stands_dictionary}
use Rattle.work_core.specs.Meanings.{IsKeyBelow}
use Rattle.work_core.specs.Subsets.{IsListOf}
use Rattle.work_core.specs.Searches.{by_subsets}
use Rattle.work_core.specs.Subsets.{IsShownAtList}
use Rattle.work_core.proofs.SubsetLists.{HasMarks, has_marks, same_list}
use Rattle.work_core.proofs.SubsetShares.{has_one_list}
use Rattle.subset_work.specs.Standing.{HasRoom, IsLive, IsDead}

-- ---- marks and labels
labels-parts : (j : ℕ) (a b : List Bool) → labels_from j (a ++ b) ≡ labels_from j a ++ labels_from (j + length a) b
labels-parts j [] b = let e : j ≡ j + length {A = Bool} [] = omega arith in ap (λ k. labels_from k b) e
labels-parts j (true ∷ a) b =
    let e : suc j + length a ≡ j + suc (length a) = omega arith in
    ap (λ ks. j ∷ ks) (labels-parts (suc j) a b ∙ ap (λ k. labels_from (suc j) a ++ labels_from k b) e)
labels-parts j (false ∷ a) b =
    let e : suc j + length a ≡ j + suc (length a) = omega arith in
    labels-parts (suc j) a b ∙ ap (λ k. labels_from (suc j) a ++ labels_from k b) e

first_front : (n : ℕ) (before : List Vector) (y : Vector) (gs : List Vector) (a b : List Bool) →
    AreFirstTight n before y gs (a ++ b) → AreFirstTight n before y gs a
first_front n before y gs [] b f = tt
first_front n before y [] (m ∷ a) b f = absurd f
first_front n before y (g ∷ gs) (true ∷ a) b f = (f.0, f.1, first_front n (g ∷ before) y gs a b f.2)
first_front n before y (g ∷ gs) (false ∷ a) b f = (f.0, first_front n before y gs a b f.1)

cut_at : (ms : List Bool) (k : ℕ) → k ≤ length ms → (a : List Bool) × (b : List Bool) × (ms ≡ a ++ b) × (length a ≡ k)
cut_at ms zero l = ([], ms, refl, refl)
cut_at [] (suc k) l = absurd (omega arith)
cut_at (m ∷ ms) (suc k) l = let h = cut_at ms k (omega arith) in (m ∷ h.0, h.1, ap (λ t. m ∷ t) h.2, ap suc h.3)

not_there : (j : ℕ) (ms : List Bool) (ks : List ℕ) → (j ∷ ks) ≡ labels_from (suc j) ms → ⊥
not_there j ms ks e =
    let l = (labels_within (suc j) ms j (subst (λ t. Contains t j) e (Contains-first j ks))).0 in omega (arith, l)

same_marks : (j : ℕ) (a b : List Bool) → length a ≡ length b → labels_from j a ≡ labels_from j b → a ≡ b
same_marks j [] [] l e = refl
same_marks j [] (m ∷ b) l e = absurd (omega (arith, l))
same_marks j (m ∷ a) [] l e = absurd (omega (arith, l))
same_marks j (true ∷ a) (true ∷ b) l e = ap (λ t. true ∷ t) (same_marks (suc j) a b (omega (arith, l)) (same_others j j (labels_from (suc j) a) (labels_from (suc j) b) e))
same_marks j (false ∷ a) (false ∷ b) l e = ap (λ t. false ∷ t) (same_marks (suc j) a b (omega (arith, l)) e)
same_marks j (true ∷ a) (false ∷ b) l e = absurd (not_there j b (labels_from (suc j) a) e)
same_marks j (false ∷ a) (true ∷ b) l e = absurd (not_there j a (labels_from (suc j) b) (sym e))

-- all marks begin with those whose labels all labels begin with
front_of : (marks all : List Bool) (more : List ℕ) → length marks ≤ length all → marked_labels all ≡ marked_labels marks ++ more →
    ((k : ℕ) → Contains more k → length marks < k) → (b : List Bool) × (all ≡ marks ++ b) × (labels_from (1 + length marks) b ≡ more)
front_of marks all more l e h = by (cut_at all (length marks) l)
  where
    by : (a : List Bool) × (b : List Bool) × (all ≡ a ++ b) × (length a ≡ length marks) →
        (b : List Bool) × (all ≡ marks ++ b) × (labels_from (1 + length marks) b ≡ more)
    by (a, b, s, t) = (
      b,
      whole,
      append_cancel_left (marked_labels marks) (labels_from (1 + length marks) b) more
          (sym (subst (λ ms. marked_labels all ≡ marked_labels ms ++ labels_from (1 + length marks) b) front parts) ∙ e),
    )
      where
        parts : marked_labels all ≡ marked_labels a ++ labels_from (1 + length marks) b
        parts = ap marked_labels s ∙ labels-parts 1 a b ∙ ap (λ n. marked_labels a ++ labels_from (1 + n) b) t

        there : (k : ℕ) → Contains (marked_labels a) k → Contains (marked_labels marks) k
        there k c =
            let w = (labels_within 1 a k c).1 in
            ⊎_elim (λ d. d) (λ d. let m = h k d in absurd (omega (arith, w, m, t)))
            (Contains-append_cases (marked_labels marks) more k
            (subst (λ ks. Contains ks k) (sym parts ∙ e) (Contains-append_left (marked_labels a) (labels_from (1 + length marks) b) k c)))

        back : (k : ℕ) → Contains (marked_labels marks) k → Contains (marked_labels a) k
        back k c =
            let w = (labels_within 1 marks k c).1 in
            ⊎_elim (λ d. d) (λ d. let m = (labels_within (1 + length marks) b k d).0 in absurd (omega (arith, w, m)))
            (Contains-append_cases (marked_labels a) (labels_from (1 + length marks) b) k
            (subst (λ ks. Contains ks k) (sym e ∙ parts) (Contains-append_left (marked_labels marks) more k c)))

        front : a ≡ marks
        front = same_marks 1 a marks t (ascending_is_one (marked_labels a) (marked_labels marks) (labels_ascend 1 a) (labels_ascend 1 marks) there back)

        whole : all ≡ marks ++ b
        whole = s ∙ ap (λ ms. ms ++ b) front

-- nothing is shown at a list that may be longer
pub none_shown : (p : Polyhedron) (key : List ℕ) (left : ℕ) → HasRoom p key left → 0 < left → ListsAll (IsShownAtList p key) []
none_shown p key left room some = record {
  once = tt;
  only = λ y c. absurd (Contains-nil y c);
  each = λ y h.
      let one = has_one_list p room.narrow y h.0 in
      let e = ap length (one.only key h.1) in let f = one.long room.dimension room.reduced in
      absurd (omega (arith, e, f, room.count, some));
}

pub dead_shows_none : (p : Polyhedron) (key : List ℕ) (left : ℕ) → HasRoom p key left → IsDead p key → IsKeyBelow (by_subsets p) key key → ListsAll (IsShownAtList p key) []
dead_shows_none p key left room dead u = record {
  once = tt;
  only = λ y c. absurd (Contains-nil y c);
  each = λ y h. absurd (dead key u y h);
}

module _ (sys : System) (free : List ℕ) (d : Dictionary) (i depth : ℕ) (p : Polyhedron) (key : List ℕ)
    (live : IsLive sys free d i depth p key) where
  abbrev cone : ListedCone
  cone = live.cone

  is : IsConeOf (cone_of p) cone
  is = subst (λ s. IsConeOf s cone) live.at.file live.at.is_cone

  -- ---- where the list is full
  count_left : length live.fixed + (length (marked_labels live.marks) + length live.left) ≡ p.n
  count_left =
      let all = length_of_cobasis p (parted live.fixed live.marks live.left) (stands_dictionary p cone d live.fixed live.left live.marks live.at.stands).cobasis in
      omega (arith, all, length-append live.fixed (marked_labels live.marks ++ live.left), length-append (marked_labels live.marks) live.left)

  pub count_key : length cone.base + length key + suc depth ≡ p.n
  count_key = omega (arith, count_left, live.at.stands.count, live.at.count, ap length live.labels)

  module _ (full : depth ≡ 0) where
    there : (y : Vector) → IsCornerUnder cone live.marks y → IsShownAtList p key y
    there y u = by (has_marks p cone is y extreme)
      where
        extreme : IsExtreme (cone_of p) y
        extreme = (extreme_is_shown_corner (cone_of p) cone is y).1 u.0

        by : HasMarks p cone y → IsShownAtList p key y
        by m = parts (cut_at m.marks (length live.marks) (let w = live.at.stands.within in omega (arith, m.full, w)))
          where
            none : (ks : List ℕ) → length ks ≡ 0 → ks ≡ []
            none [] e = refl
            none (k ∷ ks) e = absurd (omega (arith, e))

            parts : (a : List Bool) × (b : List Bool) × (m.marks ≡ a ++ b) × (length a ≡ length live.marks) → IsShownAtList p key y
            parts (a, b, s, t) =
                let f = first_front cone.n cone.base y cone.rows a b (subst (λ ms. AreFirstTight cone.n cone.base y cone.rows ms) s m.first) in
                let e : a ≡ live.marks = tight_unique cone.n cone.base y cone.rows live.marks a t u.1 f in
                let l = ap marked_labels s ∙ labels-parts 1 a b in
                let n = ap length l ∙ length-append (marked_labels a) (labels_from (1 + length a) b) in
                let q = ap (λ ms. length (marked_labels ms)) e in
                let z = none (labels_from (1 + length a) b)
                (omega (arith, n, q, m.count, count_key, full, ap length live.labels, is.width)) in
                (extreme, subst (IsListOf p y) (l ∙ ap (λ ks. marked_labels a ++ ks) z ∙ append-nil (marked_labels a) ∙ ap marked_labels e ∙ live.labels) m.list)

    back : (y : Vector) → IsShownAtList p key y → IsCornerUnder cone live.marks y
    back y h = by (has_marks p cone is y h.0)
      where
        by : HasMarks p cone y → IsCornerUnder cone live.marks y
        by m =
            let w = live.at.stands.within in
            let f = front_of live.marks m.marks [] (omega (arith, m.full, w))
            (same_list p y (marked_labels m.marks) key m.list h.1 ∙ sym live.labels ∙ sym (append-nil (marked_labels live.marks)))
            (λ k c. absurd (Contains-nil k c)) in (
              (extreme_is_shown_corner (cone_of p) cone is y).0 h.0,
              first_front cone.n cone.base y cone.rows live.marks f.0 (subst (λ ms. AreFirstTight cone.n cone.base y cone.rows ms) f.1 m.first),
            )

    pub shown_none : Lists (IsCornerUnder cone live.marks) [] → ListsAll (IsShownAtList p key) []
    shown_none l = record {
      once = tt;
      only = λ y c. absurd (Contains-nil y c);
      each = λ y h. (l.members y).1 (back y h);
    }

    pub shown_one : (v : Vector) → Lists (IsCornerUnder cone live.marks) (v ∷ []) → ListsAll (IsShownAtList p key) (v ∷ [])
    shown_one v l = record {
      once = (Contains-nil v, tt);
      only = λ y c. there y ((l.members y).0 c);
      each = λ y h. (l.members y).1 (back y h);
    }

  -- ---- the next row
  pub live_stays : i ≤ length sys.rows → IsLive sys free d (i + 1) depth p key
  live_stays row = record {
    cone = cone;
    fixed = live.fixed;
    left = live.left;
    marks = live.marks ++ false ∷ [];
    at = next_row.stays sys free d i depth p cone live.fixed live.left live.marks live.at row;
    labels = labels-without 1 live.marks ∙ live.labels;
  }

  pub live_deeper : i ≤ length sys.rows → (k : ℕ) → IsColumnOf d free i k → (new : Dictionary) → IsPivot d i k new → (less : ℕ) → suc less ≡ depth →
      IsLive sys free new (i + 1) less p (key ++ i ∷ [])
  live_deeper row k column new pivot less e = record {
    cone = cone;
    fixed = live.fixed;
    left = without k live.left;
    marks = live.marks ++ true ∷ [];
    at = next_row.goes_deeper sys free d i depth p cone live.fixed live.left live.marks live.at row k column new pivot less e;
    labels = labels-with 1 live.marks ∙ ap (λ ks. ks ++ (length live.marks + 1) ∷ []) live.labels ∙ ap (λ j. key ++ j ∷ []) (sym live.at.next);
  }

  pub dead_child : i ≤ length sys.rows → HasNoColumn d free i → IsDead p (key ++ i ∷ [])
  dead_child row none one u y h = by (has_marks p cone is y h.0)
    where
      before : length live.marks < length cone.rows
      before = next_row.before sys free d i depth p cone live.fixed live.left live.marks live.at row

      by : HasMarks p cone y → ⊥
      by m = parts (front_of live.marks m.marks (i ∷ u.1.1.more) (let w = live.at.stands.within in omega (arith, m.full, w)) labels later)
        where
          begins : one ≡ key ++ i ∷ u.1.1.more
          begins = u.1.1.begins ∙ append_assoc key (i ∷ []) u.1.1.more

          labels : marked_labels m.marks ≡ marked_labels live.marks ++ i ∷ u.1.1.more
          labels = same_list p y (marked_labels m.marks) one m.list h.1 ∙ begins ∙ ap (λ ks. ks ++ i ∷ u.1.1.more) (sym live.labels)

          ascending_behind : (a b : List ℕ) → IsAscending (a ++ b) → IsAscending b
          ascending_behind [] b g = g
          ascending_behind (x ∷ a) b g = ascending_behind a b g.1

          later : (k : ℕ) → Contains (i ∷ u.1.1.more) k → length live.marks < k
          later k c =
              let a = ascending_behind key (i ∷ u.1.1.more) (subst IsAscending begins u.0.ascending.ascending) in
              ⊎_elim (λ (e : i ≡ k). omega (arith, e, live.at.next))
              (λ (f : Contains u.1.1.more k). let g = all_at (λ y. i < y) u.1.1.more a.0 k f in omega (arith, g, live.at.next))
              (Contains-cons_cases k i u.1.1.more c)

          parts : (b : List Bool) × (m.marks ≡ live.marks ++ b) × (labels_from (1 + length live.marks) b ≡ i ∷ u.1.1.more) → ⊥
          parts ([], s, e) = let f = ap length e in omega (arith, f)
          parts (false ∷ b, s, e) =
              let l = (labels_within (suc (1 + length live.marks)) b i
              (subst (λ ks. Contains ks i) (sym e) (Contains-first i u.1.1.more))).0 in
              omega (arith, l, live.at.next)
          parts (true ∷ b, s, e) =
              let f = first_front cone.n cone.base y cone.rows (live.marks ++ true ∷ []) b
              (subst (λ ms. AreFirstTight cone.n cone.base y cone.rows ms) (s ∙ sym (append_assoc live.marks (true ∷ []) b)) m.first) in
              not_both cone.n (taken_at cone live.marks) (slice_index_or cone.rows (length live.marks) [])
              ((first_with cone.n cone.base y cone.rows live.marks before).0 f).2
              (next_row.follows sys free d i depth p cone live.fixed live.left live.marks live.at row none)
