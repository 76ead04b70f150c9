-- Rows of numbers that lie one after the other in one list.
use Rattle.std.specs.Prelude.{◌≡◌, ℕ, ◌*◌, ◌<◌, ◌≤◌, Bool, List, [], ◌∷◌, length, take, drop}
use Rattle.poly_num.specs.Vectors.{Vector}
use Rattle.poly_model.specs.declared.kind.RowKind.{RowKind}
use Rattle.poly_model.specs.declared.kind.RowKind.TheVariants.{Point, Ray}
use Rattle.std.specs.Prelude.{true, false}
use Rattle.poly_model.specs.Limits.{most_columns}
use Rattle.poly_model.specs.Systems.{FileRow, Row}

-- the rows of a file: one for each mark, of n cells each
abbrev pub file_rows_in : ℕ → Vector → List Bool → List FileRow
file_rows_in n cells [] = []
file_rows_in n cells (mark ∷ marks) = record { entries = take n cells; linear = mark } ∷ file_rows_in n (drop n cells) marks

-- whether a row of a V file is a point
abbrev pub is_point_kind : RowKind → Bool
is_point_kind Point = true
is_point_kind Ray = false

-- the rows of a cone: one for each pair of a mark and a kind, of n cells each
abbrev pub cone_rows_in : ℕ → Vector → List Bool → List RowKind → List Row
cone_rows_in n cells [] kinds = []
cone_rows_in n cells (mark ∷ marks) [] = []
cone_rows_in n cells (mark ∷ marks) (kind ∷ kinds) =
    record { entries = take n cells; linear = mark; point = is_point_kind kind } ∷ cone_rows_in n (drop n cells) marks kinds

-- m rows of n cells, n from 1 on, m at most so many
pub record IsShaped (most m n : ℕ) (cells : Vector) : Type 0 where
  pub full : length cells ≡ m * n
  pub few : m ≤ most
  pub some : 0 < n
  pub narrow : n ≤ most_columns
