-- How long a file may be.
use Rattle.std.specs.Prelude.{ℕ}
use Rattle.poly_reader.specs.declared.limits.TheConstants as constants

-- bytes of a file
abbrev pub most_file_bytes : ℕ
most_file_bytes = constants.MOST_FILE_BYTES
