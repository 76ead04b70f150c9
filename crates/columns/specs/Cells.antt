-- Columns of cells that lie one after the other in one list, and the exchange of a row and a column.
use Rattle.std.specs.Prelude.{◌≡◌, ◌≢◌, ℕ, ℤ, ◌<◌, ◌+◌, ◌*◌, ◌*ℤ◌, ◌-ℤ◌, ◌<ℤ◌, neg_ℤ, pos, List, ◌∷◌, length}
use Rattle.std.specs.List.{slice_index_or}
use Rattle.poly_num.specs.Numbers.{IsNum, Crosses}
use Rattle.poly_num.specs.Vectors.{IsPrimitive}
use Rattle.columns.specs.declared.exchange.Exchange.{Exchange}
use Rattle.columns.specs.declared.exchange.Passing.{Passing}
use Rattle.columns.specs.declared.exchange.Passing.TheVariants.{Denominator, Cell}

-- the place of row i and column j
abbrev pub place : ℕ → ℕ → ℕ → ℕ
place height i j = j * height + i

-- the cell in row i and column j
abbrev pub cell_at : ℕ → List ℤ → ℕ → ℕ → ℤ
cell_at height cells i j = slice_index_or cells (place height i j) (pos 0)

-- the cell at the row and the column of the exchange
abbrev pub pivot_of : Exchange → List ℤ → ℤ
pivot_of x cells = cell_at x.height cells x.row x.column

-- the exchange can be carried out: all cells are there, its row and column are among theirs, the cell at the two is not
-- 0, and the denominator is positive
pub record AllowsExchange (x : Exchange) (cells : List ℤ) : Type 0 where
  pub size : length cells ≡ x.width * x.height
  pub row : x.row < x.height
  pub column : x.column < x.width
  pub denominator : pos 0 <ℤ x.denominator
  pub nonzero : pivot_of x cells ≢ pos 0

-- z stands in row i and column j after the exchange, over the denominator times the pivot's cell. The exchange's row has
-- then the label that leaves the cobasis, which was over the denominator that label itself
pub record IsNewCell (x : Exchange) (cells : List ℤ) (i j : ℕ) (z : ℤ) : Type 0 where
  pub column : j ≡ x.column → i ≢ x.row → z ≡ cell_at x.height cells i x.column *ℤ x.denominator
  pub corner : j ≡ x.column → i ≡ x.row → z ≡ x.denominator *ℤ x.denominator
  pub inside : j ≢ x.column → i ≢ x.row → z ≡ cell_at x.height cells i j *ℤ pivot_of x cells
      -ℤ cell_at x.height cells i x.column *ℤ cell_at x.height cells x.row j
  pub leaving : j ≢ x.column → i ≡ x.row → z ≡ neg_ℤ (x.denominator *ℤ cell_at x.height cells x.row j)

-- the cells after the exchange and the new denominator d, which is positive, without their common divisor
pub record IsTableAfter (x : Exchange) (old : List ℤ) (d : ℤ) (new : List ℤ) : Type 0 where
  pub same_length : length new ≡ length old
  pub factor : ℤ
  pub denominator : factor *ℤ d ≡ pivot_of x old *ℤ x.denominator
  pub cells : (i j : ℕ) → i < x.height → j < x.width → IsNewCell x old i j (factor *ℤ cell_at x.height new i j)
  pub positive : pos 0 <ℤ d
  pub least : IsPrimitive (d ∷ new)

-- what the exchange takes at row i and column j passes: a product with the denominator, or elsewhere a product of two
-- cells or the difference of the two products
pub record CellPasses (x : Exchange) (cells : List ℤ) (i j : ℕ) : Type 0 where
  pub row : i < x.height
  pub within : j < x.width
  pub column : j ≡ x.column → i ≢ x.row → ¬ (IsNum (cell_at x.height cells i x.column *ℤ x.denominator))
  pub corner : j ≡ x.column → i ≡ x.row → ¬ (IsNum (x.denominator *ℤ x.denominator))
  pub inside : j ≢ x.column → i ≢ x.row → ¬ (Crosses (cell_at x.height cells i j) (pivot_of x cells)
      (cell_at x.height cells i x.column) (cell_at x.height cells x.row j))
  pub leaving : j ≢ x.column → i ≡ x.row → ¬ (IsNum (x.denominator *ℤ cell_at x.height cells x.row j))

-- what the exchange takes at a passing place passes; for the new denominator that is the pivot's cell times the old one
abbrev pub ExchangePasses : Exchange → List ℤ → Passing → Type 0
ExchangePasses x cells Denominator = ¬ (IsNum (pivot_of x cells *ℤ x.denominator))
ExchangePasses x cells (Cell s) = CellPasses x cells s.row s.column
