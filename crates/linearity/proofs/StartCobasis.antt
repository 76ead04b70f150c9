-- Which rows are in the start cobasis: a row is where at some vector it is not 0 and all before it are; and a cobasis
-- of rows is the start cobasis where each row outside it is 0 at the later rows of it.
use Rattle.std.proofs.Common.{◌≡◌, ◌≢◌, ⊎_elim, inl, inr, ◌⊎◌, if◌then◌else◌, ◌*ℤ◌, ℕ, ◌<◌, Bool, true, false, List, [], ◌∷◌, ◌++◌, pos, map, length, refl, sym, ap, subst, ◌∙◌, arith}
use Rattle.std.specs.List.{AllByRecursion, Contains, filter}
use Rattle.std.proofs.lemmas.Bool.{cases_Bool}
use Rattle.poly_num.specs.Vectors.{Vector, ◌·◌}
use Rattle.poly_num.proofs.Order.{zero_factor, positive_nonzero}
use Rattle.poly_model.specs.Keys.{IsAscending}
use Rattle.poly_model.specs.Independence.{Vanish, Follows, IsNew, IsFirstBasis}
use Rattle.poly_model.specs.Spaces.{Space, IsDirection, is_member, marked, IsStartCobasis}
use Rattle.poly_model.specs.Labels.{is_row}
use Rattle.poly_model.specs.Dictionaries.{Table, IsCobasis, Writes, sum_over}
use Rattle.linear_laws.proofs.AllLemmas.{all_left, all_right, all_both, all_from_map, all_to_map}
use Rattle.linear_laws.proofs.Members.{Contains-nil, Contains-first, Contains-later, all_at, less_or_equal, ascending_is_one}
use Rattle.dictionary_laws.proofs.Members.{contains_cases, all_from, sum_zero}
use Rattle.dictionary_laws.proofs.Filters.{filter_only, filter_kept, member_only, member_has, ascending_filter}
use Rattle.dictionary_laws.proofs.Directions.{times_zero, zero_times}
use Rattle.dictionary_laws.proofs.Duals.{dual_of}
use Rattle.dictionary_laws.proofs.Values.{terms, level_value}

-- the labels that are marked by a test
marked_by_test : (test : ℕ → Bool) (ks : List ℕ) → marked ks (map test ks) ≡ filter test ks
marked_by_test test [] = refl
marked_by_test test (k ∷ ks) = by (test k) (marked_by_test test ks)
  where
    by : (b : Bool) → marked ks (map test ks) ≡ filter test ks →
        marked (k ∷ ks) (b ∷ map test ks) ≡ (if b then k ∷ filter test ks else filter test ks)
    by true e = ap (λ l. k ∷ l) e
    by false e = e

-- ---- a row that is not 0 where all before it are
-- it is marked: otherwise it would follow from those taken before it
is_marked : (n : ℕ) (form : ℕ → Vector) (before : List Vector) (ks : List ℕ) (ms : List Bool) →
    IsFirstBasis n before (map form ks) ms → IsAscending ks → (k : ℕ) → Contains ks k → (y : Vector) → length y ≡ n →
    Vanish before y → ((j : ℕ) → Contains ks j → j < k → form j · y ≡ pos 0) → form k · y ≢ pos 0 →
    Contains (marked ks ms) k
is_marked n form before [] ms f a k c y l v zero here = absurd (Contains-nil k c)
is_marked n form before (x ∷ ks) [] f a k c y l v zero here = absurd f
is_marked n form before (x ∷ ks) (true ∷ ms) f a k c y l v zero here =
    ⊎_elim
    (λ (e : k ≡ x). subst (Contains (x ∷ marked ks ms)) (sym e) (Contains-first x (marked ks ms)))
    (λ (d : Contains ks k).
    Contains-later k x (marked ks ms)
    (is_marked n form (form x ∷ before) ks ms f.1 a.1 k d y l
    (zero x (Contains-first x ks) (all_at (λ j. x < j) ks a.0 k d), v)
    (λ j m. zero j (Contains-later j x ks m)) here))
    (contains_cases x ks k c)
is_marked n form before (x ∷ ks) (false ∷ ms) f a k c y l v zero here =
    ⊎_elim
    (λ (e : k ≡ x). absurd (here (ap (λ j. form j · y) e ∙ f.0 y l v)))
    (λ (d : Contains ks k).
    is_marked n form before ks ms f.1 a.1 k d y l v (λ j m. zero j (Contains-later j x ks m)) here)
    (contains_cases x ks k c)

pub start_has : (space : Space) (start : List ℕ) → IsStartCobasis space start →
    IsAscending (filter is_row space.labels) →
    (k : ℕ) → Contains space.labels k → is_row k ≡ true → (y : Vector) → IsDirection space y →
    ((j : ℕ) → Contains space.labels j → is_row j ≡ true → j < k → space.form j · y ≡ pos 0) →
    space.form k · y ≢ pos 0 → Contains start k
start_has space start h a k c r y direction zero here =
    subst (λ ks. Contains ks k) (sym h.taken)
    (is_marked space.n space.form (space.infinity ∷ space.fixed) (filter is_row space.labels) h.marks h.first a k
    (filter_kept is_row space.labels k c r) y direction.inside.width (direction.level, direction.inside.fixed)
    (λ j m. let q = filter_only is_row space.labels j m in zero j q.0 q.1) here)

-- ---- a cobasis of rows
module _ (space : Space) (key : List ℕ) (t : Table) (cobasis : IsCobasis space key) (w : Writes space key t)
    (settled : (i : ℕ) → Contains space.labels i → is_row i ≡ true → (Contains key i → ⊥) →
    (k : ℕ) → Contains key k → i < k → t.entry i k ≡ pos 0) where
  -- the rows taken, the last of them first, and what stands before all rows
  abbrev rows_before : List ℕ → List Vector
  rows_before before = map space.form before ++ space.infinity ∷ space.fixed

  -- ---- a label of the key is new
  -- over labels of the key that are not it
  is_new : (before : List ℕ) (i : ℕ) → Contains key i →
      ((k : ℕ) → Contains before k → Contains key k × (k < i)) → IsNew space.n (rows_before before) (space.form i)
  is_new before i c within =
      let d = dual_of space key cobasis i c in (
        d.vector,
        d.direction.inside.width,
        all_both (λ g. g · d.vector ≡ pos 0) (map space.form before) (space.infinity ∷ space.fixed)
            (all_to_map (λ g. g · d.vector ≡ pos 0) space.form before
            (all_from (λ k. space.form k · d.vector ≡ pos 0) before
            (λ k m. d.elsewhere k (within k m).0 (λ e. let l = (within k m).1 in omega arith))))
            (d.direction.level, d.direction.inside.fixed),
        d.here,
      )

  -- ---- another row follows
  -- where the labels of the key before it have been taken
  follows : (before : List ℕ) (i : ℕ) → Contains space.labels i → is_row i ≡ true → (Contains key i → ⊥) →
      ((k : ℕ) → Contains key k → k < i → Contains before k) → Follows space.n (rows_before before) (space.form i)
  follows before i l r n earlier y width zero =
      zero_factor t.denominator (space.form i · y)
      (level_value (t.constant i) (space.infinity · y) (sum_over key (terms space t i y))
      (t.denominator *ℤ (space.form i · y)) fixed.0
      (w.values i l y (record { width = width; fixed = fixed.1 }))
      ∙ sum_zero key (terms space t i y) term)
      (positive_nonzero t.denominator w.positive)
    where
      taken : AllByRecursion (λ g. g · y ≡ pos 0) (map space.form before)
      taken = all_left (λ g. g · y ≡ pos 0) (map space.form before) (space.infinity ∷ space.fixed) zero

      fixed : AllByRecursion (λ g. g · y ≡ pos 0) (space.infinity ∷ space.fixed)
      fixed = all_right (λ g. g · y ≡ pos 0) (map space.form before) (space.infinity ∷ space.fixed) zero

      term : (k : ℕ) → Contains key k → t.entry i k *ℤ (space.form k · y) ≡ pos 0
      term k c = by (less_or_equal k i)
        where
          by : (k < i) ⊎ ((i < k) ⊎ (k ≡ i)) → t.entry i k *ℤ (space.form k · y) ≡ pos 0
          by (inl h) =
              times_zero (t.entry i k) (space.form k · y)
              (all_at (λ j. space.form j · y ≡ pos 0) before
              (all_from_map (λ g. g · y ≡ pos 0) space.form before taken) k (earlier k c h))
          by (inr (inl h)) = zero_times (t.entry i k) (space.form k · y) (settled i l r n k c h)
          by (inr (inr e)) = absurd (n (subst (Contains key) e c))

  -- ---- so those in the key are the first basis
  abbrev in_key : ℕ → Bool
  in_key k = is_member k key

  first : (before rows : List ℕ) → IsAscending rows →
      ((k : ℕ) → Contains rows k → Contains space.labels k × (is_row k ≡ true)) →
      ((i : ℕ) → Contains rows i → (k : ℕ) → Contains before k → Contains key k × (k < i)) →
      ((i : ℕ) → Contains rows i → (k : ℕ) → Contains key k → k < i → Contains rows k ⊎ Contains before k) →
      IsFirstBasis space.n (rows_before before) (map space.form rows) (map in_key rows)
  first before [] a labels within earlier = tt
  first before (i ∷ rows) a labels within earlier =
      ⊎_elim
      (λ (e : in_key i ≡ true).
      let c = member_only i key e in
      subst (λ b. IsFirstBasis space.n (rows_before before) (space.form i ∷ map space.form rows)
      (b ∷ map in_key rows)) (sym e) (
        is_new before i c (within i (Contains-first i rows)),
        first (i ∷ before) rows a.1
            (λ k m. labels k (Contains-later k i rows m))
            (λ j m k b. ⊎_elim
            (λ (s : k ≡ i). (subst (Contains key) (sym s) c, let l = above j m in omega arith))
            (λ (o : Contains before k). within j (Contains-later j i rows m) k o)
            (contains_cases i before k b))
            (λ j m k q l. ⊎_elim
            (λ (o : Contains (i ∷ rows) k). ⊎_elim
            (λ (s : k ≡ i). inr (subst (Contains (i ∷ before)) (sym s) (Contains-first i before)))
            (λ (o : Contains rows k). inl o)
            (contains_cases i rows k o))
            (λ (o : Contains before k). inr (Contains-later k i before o))
            (earlier j (Contains-later j i rows m) k q l)),
      ))
      (λ (e : in_key i ≡ false).
      let n : Contains key i → ⊥ = λ c. let f = member_has i key c in cc in
      subst (λ b. IsFirstBasis space.n (rows_before before) (space.form i ∷ map space.form rows)
      (b ∷ map in_key rows)) (sym e) (
        (let here = labels i (Contains-first i rows) in
            follows before i here.0 here.1 n
            (λ k q l. ⊎_elim
            (λ (o : Contains (i ∷ rows) k). absurd (⊎_elim
            (λ (s : k ≡ i). omega arith)
            (λ (o : Contains rows k). let b = above k o in omega arith)
            (contains_cases i rows k o)))
            (λ (o : Contains before k). o)
            (earlier i (Contains-first i rows) k q l))),
        first before rows a.1
            (λ k m. labels k (Contains-later k i rows m))
            (λ j m. within j (Contains-later j i rows m))
            (λ j m k q l. ⊎_elim
            (λ (o : Contains (i ∷ rows) k). ⊎_elim
            (λ (s : k ≡ i). absurd (n (subst (Contains key) s q)))
            (λ (o : Contains rows k). inl o)
            (contains_cases i rows k o))
            inr
            (earlier j (Contains-later j i rows m) k q l)),
      ))
      (cases_Bool (in_key i))
    where
      above : (j : ℕ) → Contains rows j → i < j
      above j m = all_at (λ k. i < k) rows a.0 j m

  -- ---- the start cobasis
  pub is_start : IsAscending key → ((k : ℕ) → Contains key k → Contains space.labels k × (is_row k ≡ true)) →
      IsAscending (filter is_row space.labels) → IsStartCobasis space key
  is_start a rows labels_ascend = record {
    marks = map in_key (filter is_row space.labels);
    first = first [] (filter is_row space.labels) labels_ascend
        (λ k c. filter_only is_row space.labels k c)
        (λ i c k b. absurd (Contains-nil k b))
        (λ i c k q l. inl (filter_kept is_row space.labels k (rows k q).0 (rows k q).1));
    taken =
        ascending_is_one key (filter in_key (filter is_row space.labels)) a
        (ascending_filter in_key (filter is_row space.labels) labels_ascend)
        (λ k q. filter_kept in_key (filter is_row space.labels) k
        (filter_kept is_row space.labels k (rows k q).0 (rows k q).1) (member_has k key q))
        (λ k c. member_only k key (filter_only in_key (filter is_row space.labels) k c).1)
        ∙ sym (marked_by_test in_key (filter is_row space.labels));
  }
