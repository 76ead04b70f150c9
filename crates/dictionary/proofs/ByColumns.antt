-- The numbers of some rows, one column after the other: how many there are, and which stands where.
use Rattle.std.proofs.Common.{◌≡◌, ℕ, zero, suc, ◌+◌, ◌-◌, ◌*◌, ◌<◌, ℤ, pos, List, [], ◌∷◌, map, length, get_or, arith, ap, ◌∙◌, length-append}
use Rattle.std.proofs.lemmas.List.{length-map, get_or-map, get_or_append_left, get_or-append_right}
use Rattle.columns.specs.Cells.{cell_at}
use Rattle.dictionary.specs.Views.{by_columns}

module _ (f : ℕ → ℕ → ℤ) (rows : List ℕ) where
  abbrev height : ℕ
  height = length rows

  abbrev column : ℕ → List ℤ
  column j = map (λ i. f i j) rows

  column_height : (j : ℕ) → length (column j) ≡ height
  column_height j = length-map rows (λ i. f i j)

  pub length_by_columns : (columns : List ℕ) → length (by_columns f rows columns) ≡ length columns * height
  length_by_columns [] = omega arith
  length_by_columns (j ∷ columns) =
      omega (arith, length-append (column j) (by_columns f rows columns), column_height j, length_by_columns columns)

  -- the number in a row and a column, by what stands there in the two lists
  pub cell_by_columns : (columns : List ℕ) (a b : ℕ) → a < height → b < length columns →
      cell_at height (by_columns f rows columns) a b ≡ f (get_or rows a 0) (get_or columns b 0)
  cell_by_columns [] a b l m = absurd (omega arith)
  cell_by_columns (j ∷ columns) a zero l m =
      let place : 0 * height + a ≡ a = omega arith in
      rw place (get_or_append_left (column j) (by_columns f rows columns) (pos 0) a (omega (arith, column_height j)))
      ∙ get_or-map (λ i. f i j) rows a 0 (pos 0) l
  cell_by_columns (j ∷ columns) a (suc b) l m =
      let place : suc b * height + a - height ≡ b * height + a = omega arith in
      get_or-append_right (column j) (by_columns f rows columns) height (suc b * height + a) (pos 0) (column_height j)
      (omega arith)
      ∙ ap (λ n. get_or (by_columns f rows columns) n (pos 0)) place
      ∙ cell_by_columns columns a b l (omega arith)
