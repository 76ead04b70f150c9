-- Positions of labels: what writing them gives, and what they say of a dictionary.
use Rattle.std.proofs.Common.{◌≡◌, ◌≢◌, ℕ, ℤ, zero, suc, ◌+◌, ◌<◌, ◌≤◌, List, length, get_or, set, pos, arith, refl, sym, ap, subst, ◌∙◌, ⊎_elim}
use Rattle.std.specs.List.{Contains}
use Rattle.std.proofs.lemmas.Bool.{cases_eq}
use Rattle.std.proofs.lemmas.Nat.{mul-add-lt}
use Rattle.std.proofs.lemmas.List.{get_or-set_same, get_or-set_other}
use Rattle.std.proofs.lemmas.List.Elements.{Contains-get_or}
use Rattle.linear_laws.specs.Distinct.{AreDistinct}
use Rattle.dictionary_laws.specs.Keys.{place_in}
use Rattle.dictionary_laws.proofs.Members.{contains_or}
use Rattle.columns.specs.Cells.{place as at_row, cell_at}
use Rattle.dictionary.specs.declared.positions.Position.{Position}
use Rattle.dictionary.specs.declared.positions.Position.TheVariants.{Row, Column}
use Rattle.dictionary.specs.Views.{Dictionary, IsWhole, number}
use Rattle.dictionary.specs.Positions.{label_count, index_of, position_at, StandsInRow, StandsInColumn, IsPosition, StandOnce, AreBelow, ArePositions, AreCells}
use Rattle.dictionary.proofs.Numbers.{own_number, other_number, row_number}
use Rattle.dictionary.proofs.PlaceLemmas.{place_at, place_within, at_place, one_at_place}

-- a number as large as all their bound is none of these labels
pub not_below : (labels : List ℕ) (n l : ℕ) → AreBelow labels n → n ≤ l → Contains labels l → ⊥
not_below labels n l below le m = let lt = below l m in omega (arith, lt, le)

-- where the positions of the first labels are written, and that of one more
module _ (f : ℕ → Position) (ks : List ℕ) (i : ℕ) (now : List Position) (once : AreDistinct ks) (lt : i < length ks)
    (below : (k : ℕ) → Contains ks k → k < length now) where
  abbrev label : ℕ
  label = get_or ks i 0

  there : Contains ks label
  there = Contains-get_or ks i 0 lt

  place : place_in ks label ≡ i
  place = place_at ks i 0 once lt

  pub one_more : ((k : ℕ) → Contains ks k → place_in ks k < i → position_at now k ≡ f (place_in ks k)) →
      (k : ℕ) → Contains ks k → place_in ks k < i + 1 → position_at (set now label (f i)) k ≡ f (place_in ks k)
  one_more done k c l =
      ⊎_elim
      (λ (e : k ≡ label).
      ap (λ j. position_at (set now label (f i)) j) e
      ∙ get_or-set_same now label (f i) (Row 0) (below label there)
      ∙ ap f (sym place ∙ ap (λ j. place_in ks j) (sym e)))
      (λ (n : k ≢ label).
      let apart : place_in ks k ≢ i = λ e. n (one_at_place ks k label c there (e ∙ sym place)) in
      get_or-set_other now label k (f i) (Row 0) n ∙ done k c (omega (arith, apart)))
      (cases_eq k label)

  pub others_stay : (k : ℕ) → (Contains ks k → ⊥) → position_at (set now label (f i)) k ≡ position_at now k
  others_stay k n =
      get_or-set_other now label k (f i) (Row 0) (λ e. n (subst (λ (j : ℕ). Contains ks j) (sym e) there))

-- what the positions say of a dictionary
module _ (d : Dictionary) (whole : IsWhole d) where
  pub labels_apart : AreBelow d.labels label_count → StandOnce d.rows d.columns
  labels_apart below = record {
    rows_once = whole.distinct_rows;
    columns_once = whole.distinct;
    apart = λ l r c. (whole.row_back l r).1 c;
    rows_below = λ l r. below l (whole.row_back l r).0;
    columns_below = λ l c. below l (whole.inside l c);
  }

  module _ (label : ℕ) where
    pub position_is : (positions : List Position) → ArePositions d.rows d.columns positions → Contains d.labels label →
        IsPosition d label (position_at positions label)
    position_is positions are l =
        ⊎_elim
        (λ (c : Contains d.columns label).
        subst (λ (p : Position). IsPosition d label p) (sym (are.in_column label c)) (record {
          behind = omega arith;
          within = let l = place_within d.columns label c in omega arith;
          label_is = at_place d.columns label 0 c;
          inside = whole.same.back label c;
        }))
        (λ (n : Contains d.columns label → ⊥).
        let r = whole.row_there label l n in
        subst (λ (p : Position). IsPosition d label p) (sym (are.in_row label r)) (record {
          within = place_within d.rows label r;
          label_is = at_place d.rows label 0 r;
          outside = λ k. n (whole.same.there label k);
        }))
        (contains_or d.columns label)

    pub row_place : (i : ℕ) → StandsInRow d label i → i ≡ place_in d.rows label
    row_place i h =
        sym (place_at d.rows i 0 whole.distinct_rows h.within) ∙ ap (λ k. place_in d.rows k) h.label_is

    pub column_place : (j : ℕ) → StandsInColumn d label j → j ≡ suc (place_in d.columns label)
    column_place zero h = absurd (omega (arith, h.behind))
    column_place (suc j) h =
        ap suc
        (sym (place_at d.columns j 0 whole.distinct (omega (arith, h.within)))
        ∙ ap (λ k. place_in d.columns k) h.label_is)

    pub row_index : (p : Position) → IsPosition d label p → (Contains d.key label → ⊥) →
        index_of p ≡ place_in d.rows label
    row_index (Row i) h n = row_place i h
    row_index (Column j) h n = absurd (n h.inside)

    pub column_index : (p : Position) → IsPosition d label p → Contains d.key label →
        index_of p ≡ suc (place_in d.columns label)
    column_index (Row i) h c = absurd (h.outside c)
    column_index (Column j) h c = column_place j h

    pub number_in_row : (i j : ℕ) → StandsInRow d label i → number d label j ≡ cell_at (length d.rows) d.cells i j
    number_in_row i j h =
        row_number d label j (λ m. h.outside (whole.same.back label m))
        ∙ ap (λ a. cell_at (length d.rows) d.cells a j) (sym (row_place i h))

    pub row_in_labels : Contains d.labels label → (Contains d.key label → ⊥) → Contains d.rows label
    row_in_labels l n = whole.row_there label l (λ c. n (whole.same.back label c))

    pub number_in_own : (own j : ℕ) → StandsInColumn d label own → j ≡ own → number d label j ≡ d.denominator
    number_in_own own j h e = own_number d label j (whole.same.there label h.inside) (e ∙ column_place own h)

    pub number_in_other : (own j : ℕ) → StandsInColumn d label own → j ≢ own → number d label j ≡ pos 0
    number_in_other own j h n =
        other_number d label j (whole.same.there label h.inside) (λ e. n (e ∙ sym (column_place own h)))

  -- the cell in a row and a column is there
  pub cell_within : (i j : ℕ) → i < length d.rows → j < suc (length d.columns) →
      at_row (length d.rows) i j < length d.cells
  cell_within i j l m =
      let n = mul-add-lt j (length d.rows) i (suc (length d.columns)) m l in
      omega (arith, whole.size, n)

  -- what stands in a row is the number of the row's label
  pub cell_is_number : (i j : ℕ) → i < length d.rows →
      cell_at (length d.rows) d.cells i j ≡ number d (get_or d.rows i 0) j
  cell_is_number i j l =
      sym (number_in_row (get_or d.rows i 0) i j (record {
        within = l;
        label_is = refl;
        outside = λ k. (whole.row_back (get_or d.rows i 0) (Contains-get_or d.rows i 0 l)).1
            (whole.same.there (get_or d.rows i 0) k);
      }))

  -- the numbers of all cells
  pub are_cells : (cells : List ℤ) → cells ≡ d.cells → AreCells d cells
  are_cells cells e = record {
    within = λ i j l m. subst (λ (zs : List ℤ). at_row (length d.rows) i j < length zs) (sym e) (cell_within i j l m);
    numbers = λ i j l m. ap (λ (zs : List ℤ). cell_at (length d.rows) zs i j) e ∙ cell_is_number i j l;
  }
