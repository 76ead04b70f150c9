-- How large inputs may be.
use Rattle.std.specs.Prelude.{ℕ}
use Rattle.poly_model.specs.declared.limits.TheConstants as constants

-- columns of a row
abbrev pub most_columns : ℕ
most_columns = constants.MOST_COLUMNS

-- rows of a file
abbrev pub most_file_rows : ℕ
most_file_rows = constants.MOST_FILE_ROWS

-- rows of a cone: those of a file, and at most one that is added for each column
abbrev pub most_cone_rows : ℕ
most_cone_rows = constants.MOST_CONE_ROWS

-- labels of a key
abbrev pub most_labels : ℕ
most_labels = constants.MOST_LABELS
