-- What stays of a dictionary has its old numbers, by labels, and is whole again.
use Rattle.std.proofs.Common.{◌≡◌, ◌≢◌, ℕ, suc, ◌*◌, ◌<◌, Bool, true, false, List, length, get_or, arith, refl, sym, ap, ◌∙◌, ⊎_elim}
use Rattle.std.specs.Prelude.{not, ◌&&◌}
use Rattle.std.specs.List.{All, Contains, filter}
use Rattle.std.proofs.lemmas.Bool.{cases_eq}
use Rattle.std.proofs.lemmas.List.{length-map, get_or-map}
use Rattle.std.proofs.lemmas.List.Elements.{Contains-get_or, Contains-append_left, Contains-append_right, Contains-append_cases}
use Rattle.linear_laws.specs.Distinct.{AreDistinct}
use Rattle.linear_laws.proofs.Distinct.{distinct_append}
use Rattle.dictionary_laws.specs.Keys.{place_in}
use Rattle.dictionary_laws.proofs.Filters.{filter_only, filter_kept, distinct_filter, ascending_filter}
use Rattle.dictionary_laws.proofs.Members.{contains_or}
use Rattle.dictionary.specs.Views.{Dictionary, number, IsWhole}
use Rattle.dictionary.specs.MainPhase.{kept_rows, kept_columns, kept}
use Rattle.dictionary.proofs.ByColumns.{length_by_columns, cell_by_columns}
use Rattle.dictionary.proofs.KeptLabels.{key_filter, same_filter}
use Rattle.dictionary.proofs.Numbers.{own_number, other_number, row_number}
use Rattle.dictionary.proofs.PlaceLemmas.{place_within, at_place, one_at_place}

both_true : (a b : Bool) → (a && not b) ≡ true → (a ≡ true) × (b ≡ false)
both_true true false e = (refl, refl)
both_true true true e = absurd cc
both_true false b e = absurd cc

left_only : (a b : Bool) → a ≡ true → b ≡ false → (a && not b) ≡ true
left_only a b e f = rw (e, f) refl

pub all_of : (P : ℕ → Type 0) (ks : List ℕ) → ((k : ℕ) → Contains ks k → P k) → All P ks
all_of P ks h i z l = h (get_or ks i z) (Contains-get_or ks i z l)

-- the labels that stay are of the key
pub staying_in_key : (d : Dictionary) (stays : ℕ → Bool) → IsWhole d → All (λ k. Contains d.key k) (filter stays d.columns)
staying_in_key d stays whole =
    all_of (λ k. Contains d.key k) (filter stays d.columns)
    (λ k c. whole.same.back k (filter_only stays d.columns k c).0)

module _ (d : Dictionary) (left stays : ℕ → Bool) (whole : IsWhole d) where
  abbrev rows : List ℕ
  rows = kept_rows d left stays

  abbrev columns : List ℕ
  columns = filter stays d.columns

  abbrev leaves : ℕ → Bool
  leaves k = left k && not (stays k)

  -- ---- the labels of the rows
  -- a label of the rows is left, and is not one of the columns
  row_back : (i : ℕ) → Contains rows i → Contains (filter left d.labels) i × (Contains columns i → ⊥)
  row_back i m =
      ⊎_elim
      (λ (c : Contains (filter left d.rows) i).
      let p = filter_only left d.rows i c in
      let back = whole.row_back i p.0 in
      (filter_kept left d.labels i back.0 p.1, λ s. back.1 (filter_only stays d.columns i s).0))
      (λ (c : Contains (filter leaves d.columns) i).
      let p = filter_only leaves d.columns i c in
      let b = both_true (left i) (stays i) p.1 in (
        filter_kept left d.labels i (whole.inside i p.0) b.0,
        λ s. let e : true ≡ false = sym (filter_only stays d.columns i s).1 ∙ b.1 in absurd cc,
      ))
      (Contains-append_cases (filter left d.rows) (filter leaves d.columns) i m)

  pub rows_are_labels : All (λ l. Contains d.labels l) rows
  rows_are_labels =
      all_of (λ l. Contains d.labels l) rows (λ i m. (filter_only left d.labels i (row_back i m).0).0)

  row_there : (i : ℕ) → Contains (filter left d.labels) i → (Contains columns i → ⊥) → Contains rows i
  row_there i l n =
      let p = filter_only left d.labels i l in
      ⊎_elim
      (λ (c : Contains d.columns i).
      Contains-append_right (filter left d.rows) (filter leaves d.columns) i
      (filter_kept leaves d.columns i c (left_only (left i) (stays i) p.1 (not_staying i c n))))
      (λ (c : Contains d.columns i → ⊥).
      Contains-append_left (filter left d.rows) (filter leaves d.columns) i
      (filter_kept left d.rows i (whole.row_there i p.0 c) p.1))
      (contains_or d.columns i)
    where
      not_staying : (k : ℕ) → Contains d.columns k → (Contains columns k → ⊥) → stays k ≡ false
      not_staying k c none = by (stays k) refl
        where
          by : (b : Bool) → stays k ≡ b → stays k ≡ false
          by true e = absurd (none (filter_kept stays d.columns k c e))
          by false e = e

  distinct_rows : AreDistinct rows
  distinct_rows =
      distinct_append (filter left d.rows) (filter leaves d.columns) (distinct_filter left d.rows whole.distinct_rows)
      (distinct_filter leaves d.columns whole.distinct)
      (λ k m c. (whole.row_back k (filter_only left d.rows k m).0).1 (filter_only leaves d.columns k c).0)

  -- ---- the numbers
  column_count : length (kept_columns d.columns columns) ≡ suc (length columns)
  column_count = ap suc (length-map columns (λ k. suc (place_in d.columns k)))

  -- a row has the numbers of its label, in the old columns
  row_kept : (i b : ℕ) → Contains rows i → b < suc (length columns) →
      number (kept d left stays) i b ≡ number d i (get_or (kept_columns d.columns columns) b 0)
  row_kept i b m l =
      row_number (kept d left stays) i b (row_back i m).1
      ∙ cell_by_columns (number d) rows (kept_columns d.columns columns) (place_in rows i) b (place_within rows i m)
      (omega (arith, column_count))
      ∙ ap (λ k. number d k (get_or (kept_columns d.columns columns) b 0)) (at_place rows i 0 m)

  -- the old column of a label that stays
  old_column : (k : ℕ) → Contains columns k →
      get_or (kept_columns d.columns columns) (suc (place_in columns k)) 0 ≡ suc (place_in d.columns k)
  old_column k c =
      get_or-map (λ i. suc (place_in d.columns i)) columns (place_in columns k) 0 0 (place_within columns k c)
      ∙ ap (λ i. suc (place_in d.columns i)) (at_place columns k 0 c)

  pub constant_kept : (i : ℕ) → Contains (filter left d.labels) i → number (kept d left stays) i 0 ≡ number d i 0
  constant_kept i l =
      ⊎_elim
      (λ (c : Contains columns i).
      other_number (kept d left stays) i 0 c (λ e. omega arith)
      ∙ sym (other_number d i 0 (filter_only stays d.columns i c).0 (λ e. omega arith)))
      (λ (n : Contains columns i → ⊥). row_kept i 0 (row_there i l n) (omega arith))
      (contains_or columns i)

  pub entry_kept : (i k : ℕ) → Contains (filter left d.labels) i → Contains columns k →
      number (kept d left stays) i (suc (place_in columns k)) ≡ number d i (suc (place_in d.columns k))
  entry_kept i k l c =
      ⊎_elim
      (λ (m : Contains columns i). own_kept m)
      (λ (n : Contains columns i → ⊥).
      row_kept i (suc (place_in columns k)) (row_there i l n) (let h = place_within columns k c in omega arith)
      ∙ ap (λ j. number d i j) (old_column k c))
      (contains_or columns i)
    where
      own_kept : Contains columns i →
          number (kept d left stays) i (suc (place_in columns k)) ≡ number d i (suc (place_in d.columns k))
      own_kept m =
          let old_i = (filter_only stays d.columns i m).0 in
          let old_k = (filter_only stays d.columns k c).0 in
          ⊎_elim
          (λ (e : k ≡ i).
          own_number (kept d left stays) i (suc (place_in columns k)) m (ap (λ q. suc (place_in columns q)) e)
          ∙ sym (own_number d i (suc (place_in d.columns k)) old_i (ap (λ q. suc (place_in d.columns q)) e)))
          (λ (n : k ≢ i).
          other_number (kept d left stays) i (suc (place_in columns k)) m
          (λ e. n (one_at_place columns k i c m (omega (arith, e))))
          ∙ sym (other_number d i (suc (place_in d.columns k)) old_i
          (λ e. n (one_at_place d.columns k i old_k old_i (omega (arith, e))))))
          (cases_eq k i)

  -- a label of the key that stays is left
  module _ (both : (k : ℕ) → stays k ≡ true → left k ≡ true) where
    pub whole_kept : IsWhole (kept d left stays)
    whole_kept = record {
      size = length_by_columns (number d) rows (kept_columns d.columns columns)
          ∙ ap (λ n. n * length rows) column_count;
      positive = whole.positive;
      labels = ascending_filter left d.labels whole.labels;
      below = λ i c. whole.below i (filter_only left d.labels i c).0;
      key = key_filter stays d.key whole.key;
      same = same_filter stays d.key d.columns whole.same;
      distinct = distinct_filter stays d.columns whole.distinct;
      inside = λ k c.
          let m = filter_only stays d.columns k c in filter_kept left d.labels k (whole.inside k m.0) (both k m.1);
      distinct_rows = distinct_rows;
      row_there = row_there;
      row_back = row_back;
    }
