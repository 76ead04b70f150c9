-- The numbers of the table of the coordinates: its rows have the first labels, its columns those of the coordinates.
use Rattle.std.proofs.Common.{◌≡◌, ◌≢◌, ℕ, zero, suc, ◌+◌, ◌*◌, ◌-◌, ◌<◌, ◌≤◌, ℤ, List, length, get_or, arith, ap, ◌∙◌, ⊎_elim}
use Rattle.std.specs.List.{range_with_len}
use Rattle.std.proofs.lemmas.Bool.{cases_eq}
use Rattle.std.proofs.lemmas.List.FromFn.{length-range_with_len}
use Rattle.dictionary_laws.specs.Keys.{place_in}
use Rattle.dictionary_laws.proofs.CoordinateDictionary.{place_first, place_later}
use Rattle.columns.specs.Cells.{cell_at}
use Rattle.dictionary.specs.Views.{by_columns}
use Rattle.dictionary.proofs.ByColumns.{length_by_columns, cell_by_columns}

place_in_range : (a n k : ℕ) → a ≤ k → k < a + n → place_in (range_with_len a n) k ≡ k - a
place_in_range a zero k l h = absurd (omega arith)
place_in_range a (suc n) k l h =
    ⊎_elim
    (λ (e : a ≡ k). rw e (place_first k (range_with_len (k + 1) n) ∙ omega arith))
    (λ (q : a ≢ k). place_later a k (range_with_len (a + 1) n) q
    ∙ ap suc (place_in_range (a + 1) n k (omega arith) (omega arith)) ∙ omega arith)
    (cases_eq a k)

get_range : (a n i z : ℕ) → i < n → get_or (range_with_len a n) i z ≡ a + i
get_range a zero i z l = absurd (omega arith)
get_range a (suc n) zero z l = omega arith
get_range a (suc n) (suc i) z l = get_range (a + 1) n i z (omega arith) ∙ omega arith

module _ (f : ℕ → ℕ → ℤ) (m width : ℕ) where
  abbrev pub first_cells : List ℤ
  first_cells = by_columns f (range_with_len 1 m) (range_with_len 0 width)

  pub first_length : length first_cells ≡ width * length (range_with_len 1 m)
  first_length =
      length_by_columns f (range_with_len 1 m) (range_with_len 0 width)
      ∙ ap (λ n. n * length (range_with_len 1 m)) (length-range_with_len 0 width)

  -- the cell of row i is the number of row i
  pub first_cell : (i j : ℕ) → 0 < i → i ≤ m → j < width →
      cell_at (length (range_with_len 1 m)) first_cells (place_in (range_with_len 1 m) i) j ≡ f i j
  first_cell i j l h k =
      let place : place_in (range_with_len 1 m) i ≡ i - 1 = place_in_range 1 m i (omega arith) (omega arith) in
      ap (λ a. cell_at (length (range_with_len 1 m)) first_cells a j) place
      ∙ cell_by_columns f (range_with_len 1 m) (range_with_len 0 width) (i - 1) j
      (omega (arith, length-range_with_len 1 m)) (omega (arith, length-range_with_len 0 width))
      ∙ ap (λ a. f a (get_or (range_with_len 0 width) j 0)) (get_range 1 m (i - 1) 0 (omega arith) ∙ omega arith)
      ∙ ap (λ b. f i b) (get_range 0 width j 0 k ∙ omega arith)
