-- The table of the coordinates is whole, and is the dictionary of the coordinates in its spaces.
use Rattle.std.proofs.Common.{◌≡◌, ◌≢◌, ℕ, zero, suc, ◌+◌, ◌-◌, ◌*◌, ◌<◌, ◌≤◌, ◌++◌, Bool, true, false, pos, cond, List, map, length, arith, refl, sym, ap, subst, ◌∙◌, ⊎_elim}
use Rattle.std.specs.Prelude.{◌==◌, if◌then◌else◌}
use Rattle.std.specs.List.{Contains, range_with_len}
use Rattle.std.proofs.lemmas.Bool.{cases_eq, eq-eqb, ne_eqb}
use Rattle.std.proofs.lemmas.Int.{ints}
use Rattle.std.proofs.lemmas.List.FromFn.{length-map-range_with_len}
use Rattle.std.proofs.lemmas.List.Elements.{Contains-append_left, Contains-append_right, Contains-append_cases}
use Rattle.linear_laws.proofs.Members.{Contains-nil}
use Rattle.poly_model.specs.Limits.{most_columns, most_cone_rows}
use Rattle.poly_model.specs.declared.overflow.Phase.{Phase}
use Rattle.poly_model.specs.Keys.{IsKey}
use Rattle.poly_model.specs.Systems.{Row}
use Rattle.poly_model.specs.Cones.{at, coordinate}
use Rattle.poly_model.specs.Spaces.{Space}
use Rattle.poly_model.specs.Labels.{coordinate_label}
use Rattle.dictionary_laws.specs.Keys.{place_in}
use Rattle.dictionary_laws.specs.Numbers.{Agree}
use Rattle.dictionary_laws.specs.Coordinates.{coordinate_key, HasCoordinates, coordinate_table}
use Rattle.dictionary_laws.proofs.CoordinateDictionary.{coordinate_dictionary, form_at}
use Rattle.dictionary_laws.proofs.CoordinateSpaces.{coordinate_keys}
use Rattle.dictionary_laws.proofs.Filters.{range_only, ascending_range}
use Rattle.dictionary_laws.proofs.KeyExchange.{ascending_distinct}
use Rattle.dictionary_laws.proofs.Members.{contains_cases}
use Rattle.dictionary_laws.proofs.SameLabels.{agreeing_dictionary}
use Rattle.dictionary.specs.Positions.{label_count, AreBelow}
use Rattle.dictionary.specs.Views.{Dictionary, number, table_of, IsDictionaryIn, IsWhole}
use Rattle.dictionary.specs.New.{first_label, first_width, first_number}
use Rattle.dictionary.proofs.Joined.{ascending_joined}
use Rattle.dictionary.proofs.Numbers.{own_number, other_number, row_number}
use Rattle.dictionary.proofs.PlaceLemmas.{place_within}
use Rattle.dictionary.proofs.FirstNumbers.{first_cells, first_length, first_cell}

-- ---- labels
key_upper : (j m k : ℕ) → Contains (map coordinate_label (range_with_len j m)) k → k < coordinate_label (j + m)
key_upper j zero k c = absurd (Contains-nil k c)
key_upper j (suc m) k c =
    ⊎_elim
    (λ (e : k ≡ coordinate_label j). omega (arith, e))
    (λ (d : Contains (map coordinate_label (range_with_len (j + 1) m)) k).
    let l = key_upper (j + 1) m k d in omega (arith, l))
    (contains_cases (coordinate_label j) (map coordinate_label (range_with_len (j + 1) m)) k c)

-- ---- the form of a coordinate
coordinate_at : (c j : ℕ) → at j (coordinate c) ≡ (if j == c then pos 1 else pos 0)
coordinate_at zero zero = refl
coordinate_at zero (suc j) = sym (ap (λ b. cond b (pos 1) (pos 0)) (ne_eqb (suc j) zero (λ e. omega arith)))
coordinate_at (suc c) zero = sym (ap (λ b. cond b (pos 1) (pos 0)) (ne_eqb zero (suc c) (λ e. omega arith)))
coordinate_at (suc c) (suc j) =
    coordinate_at c j
    ∙ ⊎_elim
    (λ (e : j ≡ c). ap (λ b. cond b (pos 1) (pos 0)) (eq-eqb j c e ∙ sym (eq-eqb (suc j) (suc c) (ap suc e))))
    (λ (n : j ≢ c). ap (λ b. cond b (pos 1) (pos 0)) (ne_eqb j c n ∙ sym (ne_eqb (suc j) (suc c) (λ e. n (omega arith)))))
    (cases_eq j c)

-- the width of a row of cells is the number of columns with the constants
pub width_of_columns : (b : Bool) (n : ℕ) → 0 < n → suc (length (coordinate_key (first_label b) n)) ≡ first_width b n
width_of_columns true n h = let l = length-map-range_with_len coordinate_label 1 (n - 1) in omega (arith, l)
width_of_columns false n h = let l = length-map-range_with_len coordinate_label 0 (n - 0) in omega (arith, l)

room_of_key : (b : Bool) (n : ℕ) → length (coordinate_key (first_label b) n) ≤ n
room_of_key true n = let l = length-map-range_with_len coordinate_label 1 (n - 1) in omega (arith, l)
room_of_key false n = let l = length-map-range_with_len coordinate_label 0 (n - 0) in omega (arith, l)

upper_of_key : (b : Bool) (n k : ℕ) → 0 < n → Contains (coordinate_key (first_label b) n) k → k < coordinate_label n
upper_of_key true n k h c = let l = key_upper 1 (n - 1) k c in omega (arith, l)
upper_of_key false n k h c = let l = key_upper 0 (n - 0) k c in omega (arith, l)

pub coordinates_are_key : (j n : ℕ) → n ≤ most_columns → IsKey (coordinate_key j n)
coordinates_are_key j n h = record {
  room = let l = length-map-range_with_len coordinate_label j (n - j) in omega (arith, l);
  ascending = (coordinate_keys j n).ascending;
}

-- each label of rows and coordinates has its place among all that there can be
pub first_below : (b : Bool) (n m : ℕ) → 0 < n → n ≤ most_columns → m ≤ most_cone_rows →
    AreBelow (range_with_len 1 m ++ coordinate_key (first_label b) n) label_count
first_below b n m some narrow few k c =
    ⊎_elim
    (λ (h : Contains (range_with_len 1 m) k). let l = (range_only 1 m k h).1 in omega (arith, l, few))
    (λ (h : Contains (coordinate_key (first_label b) n) k).
    let l = upper_of_key b n k some h in omega (arith, l, narrow))
    (Contains-append_cases (range_with_len 1 m) (coordinate_key (first_label b) n) k c)

module _ (phase : Phase) (rows : List Row) (b : Bool) (n m : ℕ) (some : 0 < n) (narrow : n ≤ most_columns) (few : m ≤ most_cone_rows) where
  abbrev pub columns : List ℕ
  columns = coordinate_key (first_label b) n

  abbrev pub labels : List ℕ
  labels = range_with_len 1 m ++ columns

  abbrev width : ℕ
  width = suc (length columns)

  labels_apart : (k : ℕ) → Contains columns k → m < k
  labels_apart k c = let l = (coordinate_keys (first_label b) n).coordinates k c in omega (arith, l)

  no_column : (i : ℕ) → Contains (range_with_len 1 m) i → Contains columns i → ⊥
  no_column i c d = let h = (range_only 1 m i c).1 in let g = labels_apart i d in omega (arith, h, g)

  abbrev pub first : Dictionary
  first = record {
    phase = phase;
    labels = labels;
    key = columns;
    columns = columns;
    rows = range_with_len 1 m;
    denominator = pos 1;
    cells = first_cells (first_number b rows) m (first_width b n);
  }

  same_width : width ≡ first_width b n
  same_width = width_of_columns b n some

  row_there : (i : ℕ) → Contains labels i → (Contains columns i → ⊥) → Contains (range_with_len 1 m) i
  row_there i c n =
      ⊎_elim (λ (d : Contains (range_with_len 1 m) i). d) (λ (d : Contains columns i). absurd (n d))
      (Contains-append_cases (range_with_len 1 m) columns i c)

  pub first_whole : IsWhole first
  first_whole = record {
    size = first_length (first_number b rows) m (first_width b n)
        ∙ ap (λ w. w * length (range_with_len 1 m)) (sym same_width);
    positive = omega (arith, ints);
    labels = ascending_joined (range_with_len 1 m) columns (ascending_range 1 m)
        (coordinate_keys (first_label b) n).ascending
        (λ k l c d. let h = (range_only 1 m k c).1 in let g = labels_apart l d in omega (arith, h, g));
    below = λ i c. ⊎_elim
        (λ (d : Contains (range_with_len 1 m) i). let h = (range_only 1 m i d).1 in omega (arith, h))
        (λ (d : Contains columns i). let h = upper_of_key b n i some d in omega (arith, h))
        (Contains-append_cases (range_with_len 1 m) columns i c);
    key = record {
      room = let l = room_of_key b n in omega (arith, l);
      ascending = (coordinate_keys (first_label b) n).ascending;
    };
    same = record { there = λ k c. c; back = λ k c. c };
    distinct = (coordinate_keys (first_label b) n).distinct;
    inside = λ k c. Contains-append_right (range_with_len 1 m) columns k c;
    distinct_rows = ascending_distinct (range_with_len 1 m) (ascending_range 1 m);
    row_there = row_there;
    row_back = λ i c. (Contains-append_left (range_with_len 1 m) columns i c, no_column i c);
  }

  -- in a space whose coordinates have these labels, and whose rows have these cells as forms
  module _ (space : Space) (h : HasCoordinates space columns) (same : first.labels ≡ space.labels)
      (forms : (i j : ℕ) → 0 < i → i ≤ m → j < width → at j (space.form i) ≡ first_number b rows i j) where
    -- a coordinate is its own form
    coordinate_is : (i j : ℕ) → Contains columns i → at j (space.form i) ≡ number first i j
    coordinate_is i j d =
        ap (λ v. at j v) (form_at space.form columns 1 h.forms i d (suc (place_in columns i)) (omega arith))
        ∙ coordinate_at (suc (place_in columns i)) j
        ∙ ⊎_elim
        (λ (e : j ≡ suc (place_in columns i)).
        ap (λ t. cond t (pos 1) (pos 0)) (eq-eqb j (suc (place_in columns i)) e) ∙ sym (own_number first i j d e))
        (λ (n : j ≢ suc (place_in columns i)).
        ap (λ t. cond t (pos 1) (pos 0)) (ne_eqb j (suc (place_in columns i)) n) ∙ sym (other_number first i j d n))
        (cases_eq j (suc (place_in columns i)))

    number_is : (i j : ℕ) → Contains space.labels i → j < width → at j (space.form i) ≡ number first i j
    number_is i j l hj =
        ⊎_elim
        (λ (d : Contains (range_with_len 1 m) i).
        let r = range_only 1 m i d in
        let below : i ≤ m = let u = r.1 in omega (arith, u) in
        forms i j r.0 below hj
        ∙ sym (row_number first i j (no_column i d)
        ∙ first_cell (first_number b rows) m (first_width b n) i j r.0 below (subst (λ (w : ℕ). j < w) same_width hj)))
        (λ (d : Contains columns i). coordinate_is i j d)
        (Contains-append_cases (range_with_len 1 m) columns i (subst (λ (ks : List ℕ). Contains ks i) (sym same) l))

    agrees : Agree space columns (coordinate_table space columns) (table_of first)
    agrees = record {
      denominator = refl;
      entries = λ i k l c. number_is i (suc (place_in columns k)) l (let q = place_within columns k c in omega arith);
      constants = λ p i l. number_is i 0 l (omega arith);
    }

    pub first_is_dictionary : IsDictionaryIn space first
    first_is_dictionary = record {
      labels = same;
      dictionary = agreeing_dictionary space columns (coordinate_table space columns) (table_of first)
          (coordinate_dictionary space columns h (coordinate_keys (first_label b) n).distinct) agrees;
    }
