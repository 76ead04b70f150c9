-- What a worker's call has written, of the texts that it may write.
use Rattle.std.specs.Prelude.{ℕ, List, Option}
use Rattle.std.specs.Io.KnownBytes.{Appends}
use Rattle.poly_io.specs.Written.{AppendsPart}

-- what is known of the output grew by one of these texts
abbrev pub WritesOneOf : (List ℕ → Type 0) → Option (List ℕ) → Option (List ℕ) → Type 0
WritesOneOf IsOne old new = (text : List ℕ) × IsOne text × Appends old new text

-- it grew by the first bytes of one of them
abbrev pub WritesPartOfOneOf : (List ℕ → Type 0) → Option (List ℕ) → Option (List ℕ) → Type 0
WritesPartOfOneOf IsOne old new = (text : List ℕ) × IsOne text × AppendsPart old new text
