-- A text that is too long, however it goes on.
use Rattle.std.proofs.Common.{◌≡◌, ◌<◌, ℕ, List, length, refl}
use Rattle.std.proofs.lemmas.Bool.{lt-ltb}
use Rattle.poly_reader.specs.declared.bad.BadKind.TheVariants.{TooLong}
use Rattle.poly_reader.specs.FirstFault.{bad}
use Rattle.poly_reader.specs.Limits.{most_file_bytes}
use Rattle.poly_reader.specs.Reading.{reading}

pub too_long : (text : List ℕ) → most_file_bytes < length text → reading text ≡ bad TooLong 0
unfolding reading
too_long text lt = rw (lt-ltb most_file_bytes (length text) lt) refl
