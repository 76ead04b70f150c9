-- From prefix to prefix: the next row taken or not.
use Rattle.std.proofs.Common.{◌≡◌, ◌≢◌, ⊎_elim, Bool, true, false, ℕ, ◌+◌, ◌<◌, pos, List, [], ◌∷◌, ◌++◌, length, length-append, sym, subst, arith}
use Rattle.std.specs.List.{Contains}
use Rattle.std.proofs.lemmas.Bool.{cases_eq}
use Rattle.std.proofs.lemmas.List.Elements.{Contains-append_left, Contains-append_right, Contains-append_cases}
use Rattle.poly_num.specs.Vectors.{◌·◌}
use Rattle.poly_num.proofs.VectorLemmas.{dot-zero}
use Rattle.poly_model.specs.Systems.{Polyhedron}
use Rattle.poly_model.specs.Spaces.{cone_space}
use Rattle.linear_laws.specs.Distinct.{AreDistinct}
use Rattle.linear_laws.proofs.Members.{Contains-nil, Contains-first}
use Rattle.dictionary_laws.specs.Keys.{HaveSameLabels, Exchanges}
use Rattle.dictionary_laws.proofs.Members.{contains_cases, without, without_only, without_kept, distinct_without}
use Rattle.dictionary_laws.proofs.PhasePoints.{phase_points}
use Rattle.dictionary.specs.Views.{Dictionary, IsDictionaryIn, IsPivot}
use Rattle.listing_laws.specs.ListedCone.{ListedCone}
use Rattle.listing_laws.specs.Prefixes.{marked_labels}
use Rattle.listing_laws.proofs.FirstLists.{labels-with, labels-without, labels_within}
use Rattle.plain_enum.specs.Standing.{form_of, parted, StandsAt}
use Rattle.plain_enum.specs.Laws.{DictionaryStays}
use Rattle.plain_enum.proofs.ConeVectors.{DualOver, dual_over, zero_over}
use Rattle.plain_enum.proofs.Parts.{AreApart, distinct-append, distinct_left, distinct_right, distinct_apart, in_parts, in_first, in_second, in_third}
use Rattle.plain_enum.proofs.Standings.{left_is_not_fixed, left_is_not_taken}

one_more : (marks : List Bool) (m : Bool) → length (marks ++ m ∷ []) ≡ length marks + 1
one_more marks m = length-append marks (m ∷ [])

pub dictionary_stays : DictionaryStays
dictionary_stays p cone d fixed left marks s l =
    let same = sym (labels-without 1 marks) in
    record {
      over = s.over;
      dictionary = s.dictionary;
      within = omega (arith, one_more marks false);
      key = subst (λ (ls : List ℕ). HaveSameLabels d.key (fixed ++ (ls ++ left))) same s.key;
      distinct = subst (λ (ls : List ℕ). AreDistinct (fixed ++ (ls ++ left))) same s.distinct;
      coordinates = s.coordinates;
      base = s.base;
      count = s.count;
    }

module _ (p : Polyhedron) (cone : ListedCone) (d new : Dictionary) (fixed left : List ℕ) (marks : List Bool)
    (s : StandsAt p cone d fixed left marks) (k : ℕ) (leaving : Contains left k)
    (pivot : IsPivot d (length marks + 1) k new) where
  abbrev r : ℕ
  r = length marks + 1

  abbrev exchanges : Exchanges d.key new.key r k
  exchanges = pivot.key.exchanges

  is : IsDictionaryIn (cone_space p) new
  is = pivot.dictionary (cone_space p) (phase_points p).cone s.dictionary

  -- ---- the row that enters was not in the key, but as the label that leaves
  pub only_leaving : Contains d.key r → r ≡ k
  only_leaving c =
      ⊎_elim (λ (e : r ≡ k). e) (λ (n : r ≢ k). absurd (by n (dual_over p d.key s.dictionary.dictionary.cobasis k old)))
      (cases_eq r k)
    where
      old : Contains d.key k
      old = s.key.back k (in_third fixed (marked_labels marks) left k leaving)

      by : r ≢ k → DualOver p d.key k → ⊥
      by n e =
          e.here (dot-zero (form_of p k) e.vector
          (zero_over p new.key is.dictionary.cobasis e.vector e.width
          (λ j i. ⊎_elim
          (λ (f : j ≡ r). subst (λ (i : ℕ). form_of p i · e.vector ≡ pos 0) (sym f) (e.elsewhere r c n))
          (λ (f : Contains d.key j × (j ≢ k)). e.elsewhere j f.0 f.1)
          (exchanges.only j i))))

  -- ---- the labels
  abbrev taken_now : List ℕ
  taken_now = marked_labels marks ++ r ∷ []

  abbrev labels_now : List ℕ
  labels_now = fixed ++ (taken_now ++ without k left)

  entering : Contains labels_now r
  entering =
      in_second fixed taken_now (without k left) r
      (Contains-append_right (marked_labels marks) (r ∷ []) r (Contains-first r []))

  there : (j : ℕ) → Contains (parted fixed marks left) j → j ≢ k → Contains labels_now j
  there =
      in_parts (λ j. j ≢ k → Contains labels_now j) fixed (marked_labels marks) left
      (λ j c n. in_first fixed taken_now (without k left) j c)
      (λ j c n. in_second fixed taken_now (without k left) j (Contains-append_left (marked_labels marks) (r ∷ []) j c))
      (λ j c n. in_third fixed taken_now (without k left) j (without_kept k left j c n))

  -- a fact of the rows taken and of the one that enters
  in_taken_now : (P : ℕ → Type 0) → ((j : ℕ) → Contains (marked_labels marks) j → P j) → P r →
      (j : ℕ) → Contains taken_now j → P j
  in_taken_now P f e j c =
      ⊎_elim (f j)
      (λ (h : Contains (r ∷ []) j).
      ⊎_elim (λ (q : j ≡ r). subst P (sym q) e) (λ (h : Contains [] j). absurd (Contains-nil j h))
      (contains_cases r [] j h))
      (Contains-append_cases (marked_labels marks) (r ∷ []) j c)

  kept : (j : ℕ) → Contains (parted fixed marks left) j → j ≢ k → Contains new.key j
  kept j c n = exchanges.kept j (s.key.back j c) n

  back : (j : ℕ) → Contains labels_now j → Contains new.key j
  back =
      in_parts (Contains new.key) fixed taken_now (without k left)
      (λ j c. kept j (in_first fixed (marked_labels marks) left j c)
      (λ e. left_is_not_fixed p cone d fixed left marks s k (subst (Contains fixed) e c) leaving))
      (in_taken_now (Contains new.key)
      (λ j c. kept j (in_second fixed (marked_labels marks) left j c)
      (λ e. left_is_not_taken p cone d fixed left marks s k (subst (Contains (marked_labels marks)) e c) leaving))
      exchanges.entering)
      (λ j c. let h = without_only k left j c in kept j (in_third fixed (marked_labels marks) left j h.0) h.1)

  same : HaveSameLabels new.key labels_now
  same = record {
    there = λ j c. ⊎_elim
        (λ (e : j ≡ r). subst (Contains labels_now) (sym e) entering)
        (λ (h : Contains d.key j × (j ≢ k)). there j (s.key.there j h.0) h.1)
        (exchanges.only j c);
    back = back;
  }

  -- ---- each stands once
  old_parts : AreDistinct (marked_labels marks ++ left)
  old_parts = distinct_right fixed (marked_labels marks ++ left) s.distinct

  taken_distinct : AreDistinct taken_now
  taken_distinct =
      distinct-append (marked_labels marks) (r ∷ []) (distinct_left (marked_labels marks) left old_parts) (Contains-nil r, tt)
      (λ j c e. ⊎_elim (λ (q : j ≡ r). absurd (omega (arith, (labels_within 1 marks j c).1, q)))
      (λ (h : Contains [] j). absurd (Contains-nil j h)) (contains_cases r [] j e))

  taken_apart : AreApart taken_now (without k left)
  taken_apart =
      in_taken_now (λ j. Contains (without k left) j → ⊥)
      (λ j c e. left_is_not_taken p cone d fixed left marks s j c (without_only k left j e).0)
      (λ e. let h = without_only k left r e in
      h.1 (only_leaving (s.key.back r (in_third fixed (marked_labels marks) left r h.0))))

  fixed_apart : AreApart fixed (taken_now ++ without k left)
  fixed_apart j c e =
      ⊎_elim
      (λ (h : Contains taken_now j). in_taken_now (λ i. Contains fixed i → ⊥)
      (λ i m f. distinct_apart fixed (marked_labels marks ++ left) s.distinct i f
      (Contains-append_left (marked_labels marks) left i m))
      (λ f. left_is_not_fixed p cone d fixed left marks s k
      (subst (Contains fixed) (only_leaving (s.key.back r (in_first fixed (marked_labels marks) left r f))) f) leaving)
      j h c)
      (λ (h : Contains (without k left) j). left_is_not_fixed p cone d fixed left marks s j c
      (without_only k left j h).0)
      (Contains-append_cases taken_now (without k left) j e)

  distinct_now : AreDistinct labels_now
  distinct_now =
      distinct-append fixed (taken_now ++ without k left) (distinct_left fixed (marked_labels marks ++ left) s.distinct)
      (distinct-append taken_now (without k left) taken_distinct
      (distinct_without k left (distinct_right (marked_labels marks) left old_parts)) taken_apart)
      fixed_apart

  pub pivot_takes : length marks < length cone.rows → StandsAt p cone new fixed (without k left) (marks ++ true ∷ [])
  pivot_takes l =
      let grown = sym (labels-with 1 marks) in
      record {
        over = s.over;
        dictionary = is;
        within = omega (arith, one_more marks true);
        key = subst (λ (ls : List ℕ). HaveSameLabels new.key (fixed ++ (ls ++ without k left))) grown same;
        distinct = subst (λ (ls : List ℕ). AreDistinct (fixed ++ (ls ++ without k left))) grown distinct_now;
        coordinates = λ j c. s.coordinates j (without_only k left j c).0;
        base = s.base;
        count = s.count;
      }
