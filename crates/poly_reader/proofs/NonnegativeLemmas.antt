-- The first line before `begin` that begins with `nonnegative`: what the lines that are left say of it.
use Rattle.std.proofs.Common.{◌≡◌, ℕ, true, false, List, [], ◌∷◌, Some, None, refl}
use Rattle.poly_reader.specs.Lines.{Line}
use Rattle.poly_reader.specs.Head.{begins, head_of, nonnegative_line, nonnegative_line_of}

pub no_lines : (lines : List Line) → lines ≡ [] → nonnegative_line_of (head_of lines) ≡ None
unfolding head_of nonnegative_line_of
no_lines lines e = rw e refl

pub at_begin : (lines after : List Line) (line : Line) → lines ≡ line ∷ after → begins line ≡ true
    → nonnegative_line_of (head_of lines) ≡ None
unfolding head_of nonnegative_line_of
at_begin lines after line e b = rw (e, b) refl

pub found : (lines after : List Line) (line : Line) (number : ℕ) → lines ≡ line ∷ after → begins line ≡ false
    → nonnegative_line line ≡ Some number → nonnegative_line_of (head_of lines) ≡ Some number
unfolding head_of nonnegative_line_of
found lines after line number e b s = rw (e, b, s) refl

pub goes_on : (lines after : List Line) (line : Line) → lines ≡ line ∷ after → begins line ≡ false
    → nonnegative_line line ≡ None → nonnegative_line_of (head_of after) ≡ nonnegative_line_of (head_of lines)
unfolding head_of nonnegative_line_of
goes_on lines after line e b s = rw (e, b, s) refl
