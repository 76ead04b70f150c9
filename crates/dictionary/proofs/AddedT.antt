-- The dictionary with t, whose column of cells is the last one, is whole, and has the numbers of a cobasis with t.
use Rattle.std.proofs.Common.{◌≡◌, ◌≢◌, ℕ, zero, suc, ◌+◌, ◌-◌, ◌*◌, ◌<◌, Bool, true, false, cond, ℤ, pos, ◌*ℤ◌, List, [], ◌∷◌, ◌++◌, map, length, get_or, arith, refl, sym, ap, subst, ◌∙◌, ⊎_elim, length-append}
use Rattle.std.specs.Prelude.{◌==◌}
use Rattle.std.specs.List.{Contains}
use Rattle.std.proofs.lemmas.Bool.{cases_eq, eq-eqb, ne_eqb, lt-ltb}
use Rattle.std.proofs.lemmas.Nat.{mul-add-lt}
use Rattle.std.proofs.lemmas.List.{length-map, get_or-map, get_or_append_left, get_or-append_right}
use Rattle.std.proofs.lemmas.List.Elements.{Contains-append_left, Contains-append_right, Contains-append_cases}
use Rattle.poly_num.proofs.Ring.{mul_one, mul_zero}
use Rattle.linear_laws.proofs.Members.{Contains-first, Contains-later, Contains-nil}
use Rattle.poly_model.specs.declared.overflow.Phase.TheVariants.{First}
use Rattle.poly_model.specs.Keys.{IsAscending, with_label}
use Rattle.poly_model.specs.Labels.{is_row}
use Rattle.poly_model.specs.Spaces.{lift_of}
use Rattle.linear_laws.proofs.Distinct.{distinct_append}
use Rattle.dictionary_laws.specs.Keys.{place_in}
use Rattle.dictionary_laws.proofs.Filters.{member_has}
use Rattle.dictionary_laws.proofs.Members.{contains_cases, contains_or, all_from}
use Rattle.dictionary.specs.Views.{Dictionary, number, by_columns, IsWhole}
use Rattle.dictionary.specs.MainPhase.{kept_columns}
use Rattle.dictionary.specs.FirstPhase.{HasRoomForT, t_entry, cells_with_t, AddsT}
use Rattle.dictionary.proofs.ByColumns.{length_by_columns, cell_by_columns}
use Rattle.dictionary.proofs.Numbers.{no_member, own_number, other_number, row_number}
use Rattle.dictionary.proofs.PlaceLemmas.{place_within, at_place, place_at, place_front, place_behind}

-- ---- what t is at a label of the cobasis, and at another
times_lift : (d : ℤ) (b : Bool) → (d *ℤ cond b (pos 1) (pos 0)) ≡ cond b d (pos 0)
times_lift d true = mul_one d
times_lift d false = mul_zero d

either_zero : (b : Bool) → cond b (pos 0) (pos 0) ≡ pos 0
either_zero true = refl
either_zero false = refl

lift_inside : (start : List ℕ) (i : ℕ) → Contains start i → lift_of start i ≡ pos 0
lift_inside start i c =
    ap (λ b. cond (is_row i) (cond b (pos 0) (pos 1)) (pos 0)) (member_has i start c) ∙ either_zero (is_row i)

lift_outside : (start : List ℕ) (i : ℕ) → (Contains start i → ⊥) → lift_of start i ≡ cond (is_row i) (pos 1) (pos 0)
lift_outside start i n =
    ap (λ b. cond (is_row i) (cond b (pos 0) (pos 1)) (pos 0)) (no_member i start n)

-- ---- 0 in front of labels that do not have it
above_zero : (ks : List ℕ) → (Contains ks 0 → ⊥) → (k : ℕ) → Contains ks k → 0 < k
above_zero ks n k c =
    let other : k ≢ 0 = λ e. n (subst (λ (i : ℕ). Contains ks i) e c) in
    omega (arith, other)

ascending_behind : (ks : List ℕ) → (Contains ks 0 → ⊥) → IsAscending ks → IsAscending (0 ∷ ks)
ascending_behind ks n h = (all_from (λ k. 0 < k) ks (above_zero ks n), h)

pub label_in_front : (ks : List ℕ) → (Contains ks 0 → ⊥) → with_label 0 ks ≡ 0 ∷ ks
label_in_front [] n = refl
label_in_front (x ∷ ks) n =
    ap (λ b. cond b (0 ∷ x ∷ ks) (cond (0 == x) (x ∷ ks) (x ∷ with_label 0 ks)))
    (lt-ltb 0 x (above_zero (x ∷ ks) n x (Contains-first x ks)))

-- a member of these labels and 0
last_cases : (ks : List ℕ) (P : Type 0) (k : ℕ) → Contains (ks ++ 0 ∷ []) k → (Contains ks k → P) → (k ≡ 0 → P) → P
last_cases ks P k c old new =
    ⊎_elim old
    (λ (h : Contains (0 ∷ []) k).
    ⊎_elim new (λ (m : Contains [] k). absurd (Contains-nil k m)) (contains_cases 0 [] k h))
    (Contains-append_cases ks (0 ∷ []) k c)

last_there : (ks : List ℕ) → Contains (ks ++ 0 ∷ []) 0
last_there ks = Contains-append_right ks (0 ∷ []) 0 (Contains-first 0 [])

one_column_more : (n h : ℕ) → suc n * h + h ≡ suc (suc n) * h
one_column_more n h = omega arith

module _ (d : Dictionary) (whole : IsWhole d) (room : HasRoomForT d) where
  abbrev columns : List ℕ
  columns = d.columns ++ 0 ∷ []

  abbrev pub with_t_added : Dictionary
  with_t_added = record {
    phase = First;
    labels = 0 ∷ d.labels;
    key = 0 ∷ d.key;
    columns = columns;
    rows = d.rows;
    denominator = d.denominator;
    cells = cells_with_t d;
  }

  abbrev old_cells : List ℤ
  old_cells = by_columns (number d) d.rows (kept_columns d.columns d.columns)

  column_count : length (kept_columns d.columns d.columns) ≡ suc (length d.columns)
  column_count = ap suc (length-map d.columns (λ k. suc (place_in d.columns k)))

  old_size : length old_cells ≡ suc (length d.columns) * length d.rows
  old_size =
      length_by_columns (number d) d.rows (kept_columns d.columns d.columns) ∙ ap (λ n. n * length d.rows) column_count

  no_column : Contains d.columns 0 → ⊥
  no_column c = room.none (whole.inside 0 c)

  pub no_key : Contains d.key 0 → ⊥
  no_key c = no_column (whole.same.there 0 c)

  width : length columns ≡ suc (length d.columns)
  width = omega (arith, length-append d.columns (0 ∷ []))

  pub whole_with_t : IsWhole with_t_added
  whole_with_t = record {
    size = length-append old_cells (map (λ i. t_entry d i) d.rows)
        ∙ ap (λ n. n + length (map (λ i. t_entry d i) d.rows)) old_size
        ∙ ap (λ n. suc (length d.columns) * length d.rows + n) (length-map d.rows (λ i. t_entry d i))
        ∙ one_column_more (length d.columns) (length d.rows)
        ∙ ap (λ n. suc n * length d.rows) (sym width);
    positive = whole.positive;
    labels = ascending_behind d.labels room.none whole.labels;
    below = λ i c.
        ⊎_elim (λ (e : i ≡ 0). omega (arith, e)) (λ (h : Contains d.labels i). whole.below i h)
        (contains_cases 0 d.labels i c);
    key = record {
      room = let l = room.room in omega (arith, l);
      ascending = ascending_behind d.key no_key whole.key.ascending;
    };
    same = record {
      there = λ k c.
          ⊎_elim
          (λ (e : k ≡ 0). subst (λ (i : ℕ). Contains columns i) (sym e) (last_there d.columns))
          (λ (h : Contains d.key k). Contains-append_left d.columns (0 ∷ []) k (whole.same.there k h))
          (contains_cases 0 d.key k c);
      back = λ k c.
          last_cases d.columns (Contains (0 ∷ d.key) k) k c
          (λ h. Contains-later k 0 d.key (whole.same.back k h))
          (λ e. subst (λ (i : ℕ). Contains (0 ∷ d.key) i) (sym e) (Contains-first 0 d.key));
    };
    distinct = distinct_append d.columns (0 ∷ []) whole.distinct ((λ c. Contains-nil 0 c), tt)
        (λ k c h.
        ⊎_elim (λ (e : k ≡ 0). no_column (subst (λ (i : ℕ). Contains d.columns i) e c))
        (λ (m : Contains [] k). Contains-nil k m)
        (contains_cases 0 [] k h));
    inside = λ k c.
        last_cases d.columns (Contains (0 ∷ d.labels) k) k c
        (λ h. Contains-later k 0 d.labels (whole.inside k h))
        (λ e. subst (λ (i : ℕ). Contains (0 ∷ d.labels) i) (sym e) (Contains-first 0 d.labels));
    distinct_rows = whole.distinct_rows;
    row_there = λ i c n.
        ⊎_elim
        (λ (e : i ≡ 0). absurd (n (subst (λ (k : ℕ). Contains columns k) (sym e) (last_there d.columns))))
        (λ (h : Contains d.labels i).
        whole.row_there i h (λ m. n (Contains-append_left d.columns (0 ∷ []) i m)))
        (contains_cases 0 d.labels i c);
    row_back = λ i r.
        let b = whole.row_back i r in (
          Contains-later i 0 d.labels b.0,
          λ c. last_cases d.columns ⊥ i c b.1 (λ e. room.none (subst (λ (k : ℕ). Contains d.labels k) e b.0)),
        );
  }

  -- ---- the numbers
  own_place : (k : ℕ) → Contains d.columns k → place_in columns k ≡ place_in d.columns k
  own_place k c = place_front d.columns (0 ∷ []) k c

  t_place : place_in columns 0 ≡ length d.columns
  t_place = place_behind d.columns 0 no_column

  not_column : (i : ℕ) → Contains d.labels i → (Contains d.columns i → ⊥) → Contains columns i → ⊥
  not_column i l n c =
      last_cases d.columns ⊥ i c n (λ e. room.none (subst (λ (k : ℕ). Contains d.labels k) e l))

  -- each column of the kept ones is itself
  same_column : (j : ℕ) → j < suc (length d.columns) → get_or (kept_columns d.columns d.columns) j 0 ≡ j
  same_column zero l = refl
  same_column (suc j) l =
      let lt : j < length d.columns = omega (arith, l) in
      get_or-map (λ k. suc (place_in d.columns k)) d.columns j 0 0 lt ∙ ap suc (place_at d.columns j 0 whole.distinct lt)

  -- a label that was there has its old numbers in the old columns
  old_number : (i j : ℕ) → Contains d.labels i → j < suc (length d.columns) → number with_t_added i j ≡ number d i j
  old_number i j l lt =
      ⊎_elim
      (λ (c : Contains d.columns i). inside c)
      (λ (n : Contains d.columns i → ⊥). outside n)
      (contains_or d.columns i)
    where
      inside : Contains d.columns i → number with_t_added i j ≡ number d i j
      inside c =
          let c2 = Contains-append_left d.columns (0 ∷ []) i c in
          ⊎_elim
          (λ (e : j ≡ suc (place_in d.columns i)).
          own_number with_t_added i j c2 (e ∙ ap suc (sym (own_place i c))) ∙ sym (own_number d i j c e))
          (λ (n : j ≢ suc (place_in d.columns i)).
          other_number with_t_added i j c2 (λ e. n (e ∙ ap suc (own_place i c))) ∙ sym (other_number d i j c n))
          (cases_eq j (suc (place_in d.columns i)))

      outside : (Contains d.columns i → ⊥) → number with_t_added i j ≡ number d i j
      outside n =
          let r = whole.row_there i l n in
          let p = place_in d.rows i in
          let q = place_within d.rows i r in
          let m = mul-add-lt j (length d.rows) p (suc (length d.columns)) lt q in
          row_number with_t_added i j (not_column i l n)
          ∙ get_or_append_left old_cells (map (λ k. t_entry d k) d.rows) (pos 0) (j * length d.rows + p)
          (omega (arith, old_size, m))
          ∙ cell_by_columns (number d) d.rows (kept_columns d.columns d.columns) p j q (omega (arith, column_count, lt))
          ∙ ap (λ k. number d k (get_or (kept_columns d.columns d.columns) j 0)) (at_place d.rows i 0 r)
          ∙ ap (λ b. number d i b) (same_column j lt)

  -- a label outside the cobasis has the entry of t in the last column
  t_number : (i : ℕ) → Contains d.labels i → (Contains d.columns i → ⊥) →
      number with_t_added i (suc (length d.columns)) ≡ t_entry d i
  t_number i l n =
      let r = whole.row_there i l n in
      let p = place_in d.rows i in
      let place : suc (length d.columns) * length d.rows + p - suc (length d.columns) * length d.rows ≡ p = omega arith in
      row_number with_t_added i (suc (length d.columns)) (not_column i l n)
      ∙ get_or-append_right old_cells (map (λ k. t_entry d k) d.rows) (suc (length d.columns) * length d.rows)
      (suc (length d.columns) * length d.rows + p) (pos 0) old_size (omega arith)
      ∙ ap (λ b. get_or (map (λ k. t_entry d k) d.rows) b (pos 0)) place
      ∙ get_or-map (λ k. t_entry d k) d.rows p 0 (pos 0) (place_within d.rows i r)
      ∙ ap (λ k. t_entry d k) (at_place d.rows i 0 r)

  -- the entries of t
  t_own : number with_t_added 0 (suc (place_in columns 0)) ≡ d.denominator
  t_own = own_number with_t_added 0 (suc (place_in columns 0)) (last_there d.columns) refl

  t_at : (i : ℕ) → Contains d.labels i →
      (d.denominator *ℤ lift_of d.key i) ≡ number with_t_added i (suc (place_in columns 0))
  t_at i l =
      ⊎_elim
      (λ (c : Contains d.columns i).
      ap (λ z. d.denominator *ℤ z) (lift_inside d.key i (whole.same.back i c))
      ∙ mul_zero d.denominator
      ∙ sym (other_number with_t_added i (suc (place_in columns 0)) (Contains-append_left d.columns (0 ∷ []) i c)
      (λ e. let lt = place_within d.columns i c in omega (arith, e, t_place, own_place i c, lt))))
      (λ (n : Contains d.columns i → ⊥).
      ap (λ z. d.denominator *ℤ z) (lift_outside d.key i (λ k. n (whole.same.there i k)))
      ∙ times_lift d.denominator (is_row i)
      ∙ sym (t_number i l n)
      ∙ ap (λ b. number with_t_added i (suc b)) (sym t_place))
      (contains_or d.columns i)

  -- the entries of the other labels of the cobasis
  t_elsewhere : (k : ℕ) → Contains d.key k → pos 0 ≡ number with_t_added 0 (suc (place_in columns k))
  t_elsewhere k c =
      let m = whole.same.there k c in
      let lt = place_within d.columns k m in
      sym (other_number with_t_added 0 (suc (place_in columns k)) (last_there d.columns)
      (λ e. omega (arith, e, t_place, own_place k m, lt)))

  old_at : (i k : ℕ) → Contains d.labels i → Contains d.key k →
      number d i (suc (place_in d.columns k)) ≡ number with_t_added i (suc (place_in columns k))
  old_at i k l c =
      let m = whole.same.there k c in
      let lt = place_within d.columns k m in
      sym (old_number i (suc (place_in d.columns k)) l (omega (arith, lt)))
      ∙ ap (λ b. number with_t_added i (suc b)) (sym (own_place k m))

  abbrev entry_by : ℕ → ℕ → Bool → Bool → ℤ
  entry_by i k a b =
      cond a (cond b d.denominator (d.denominator *ℤ lift_of d.key i))
      (cond b (pos 0) (number d i (suc (place_in d.columns k))))

  entries : (i k : ℕ) → Contains (0 ∷ d.labels) i → Contains (0 ∷ d.key) k →
      entry_by i k (k == 0) (i == 0) ≡ number with_t_added i (suc (place_in columns k))
  entries i k l c =
      ⊎_elim
      (λ (e : k ≡ 0).
      ap (λ a. entry_by i k a (i == 0)) (eq-eqb k 0 e)
      ∙ in_t
      ∙ ap (λ q. number with_t_added i (suc (place_in columns q))) (sym e))
      (λ (h : Contains d.key k).
      ap (λ a. entry_by i k a (i == 0)) (ne_eqb k 0 (λ e. no_key (subst (λ (q : ℕ). Contains d.key q) e h)))
      ∙ in_other h)
      (contains_cases 0 d.key k c)
    where
      in_t : entry_by i k true (i == 0) ≡ number with_t_added i (suc (place_in columns 0))
      in_t =
          ⊎_elim
          (λ (f : i ≡ 0).
          ap (λ b. entry_by i k true b) (eq-eqb i 0 f) ∙ sym t_own
          ∙ ap (λ q. number with_t_added q (suc (place_in columns 0))) (sym f))
          (λ (m : Contains d.labels i).
          ap (λ b. entry_by i k true b) (ne_eqb i 0 (λ f. room.none (subst (λ (q : ℕ). Contains d.labels q) f m)))
          ∙ t_at i m)
          (contains_cases 0 d.labels i l)

      in_other : Contains d.key k → entry_by i k false (i == 0) ≡ number with_t_added i (suc (place_in columns k))
      in_other h =
          ⊎_elim
          (λ (f : i ≡ 0).
          ap (λ b. entry_by i k false b) (eq-eqb i 0 f) ∙ t_elsewhere k h
          ∙ ap (λ q. number with_t_added q (suc (place_in columns k))) (sym f))
          (λ (m : Contains d.labels i).
          ap (λ b. entry_by i k false b) (ne_eqb i 0 (λ f. room.none (subst (λ (q : ℕ). Contains d.labels q) f m)))
          ∙ old_at i k m h)
          (contains_cases 0 d.labels i l)

  constants : (i : ℕ) → Contains (0 ∷ d.labels) i → cond (i == 0) (pos 0) (number d i 0) ≡ number with_t_added i 0
  constants i l =
      ⊎_elim
      (λ (f : i ≡ 0).
      ap (λ b. cond b (pos 0) (number d i 0)) (eq-eqb i 0 f)
      ∙ sym (other_number with_t_added 0 0 (last_there d.columns) (λ e. omega (arith, e)))
      ∙ ap (λ q. number with_t_added q 0) (sym f))
      (λ (m : Contains d.labels i).
      ap (λ b. cond b (pos 0) (number d i 0))
      (ne_eqb i 0 (λ f. room.none (subst (λ (q : ℕ). Contains d.labels q) f m)))
      ∙ sym (old_number i 0 m (omega arith)))
      (contains_cases 0 d.labels i l)

  pub adds_t : AddsT d with_t_added
  adds_t = record {
    phase = refl;
    labels = refl;
    key = refl;
    numbers = λ space same. record {
      denominator = refl;
      entries = λ i k l c. entries i k (subst (λ (ls : List ℕ). Contains (0 ∷ ls) i) (sym same) l) c;
      constants = λ points i l. constants i (subst (λ (ls : List ℕ). Contains (0 ∷ ls) i) (sym same) l);
    };
  }

-- the same of what the code has
pub made_with_t : (d : Dictionary) (whole : IsWhole d) (room : HasRoomForT d) (labels key columns rows : List ℕ)
    (denominator : ℤ) (cells : List ℤ) → labels ≡ 0 ∷ d.labels → key ≡ with_label 0 d.key →
    columns ≡ d.columns ++ 0 ∷ [] → rows ≡ d.rows → denominator ≡ d.denominator → cells ≡ cells_with_t d →
    ◌≡◌ {A = Dictionary} (record {
      phase = First;
      labels = labels;
      key = key;
      columns = columns;
      rows = rows;
      denominator = denominator;
      cells = cells;
    }) (with_t_added d whole room)
made_with_t d whole room labels key columns rows denominator cells el ek ec er ed es =
    rw (el, ek ∙ label_in_front d.key (no_key d whole room), ec, er, ed, es) refl
