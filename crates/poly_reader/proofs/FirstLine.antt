-- The first line of a text, by the place of its line feed.
use Rattle.std.proofs.Common.{◌≡◌, ◌+◌, ℕ, List, [], ◌∷◌, take, drop, ap, Some, None}
use Rattle.std.specs.Prelude.{position}
use Rattle.std.specs.List.{slice_split}
use Rattle.std.proofs.lemmas.List.Splits.{slice_split_first, slice_split_none}
use Rattle.plain_text.specs.Cuts.{is_newline}
use Rattle.poly_reader.specs.Lines.{words_on, lines_from}
use Rattle.plain_text.proofs.Positions.{position_some, none_passes}

pub first_line : (number : ℕ) (text : List ℕ) (n : ℕ) → position is_newline text ≡ Some n
    → lines_from number (slice_split is_newline text) ≡ words_on number (take n text)
    ∷ lines_from (number + 1) (slice_split is_newline (drop (n + 1) text))
unfolding lines_from
first_line number text n e =
    let f = position_some is_newline text n e in
    let cut : slice_split is_newline text ≡ take n text ∷ slice_split is_newline (drop (n + 1) text) =
    rw f.is (slice_split_first is_newline text 0 (rw (← f.is) f.within)) in
    ap (λ l. lines_from number l) cut

pub only_line : (number : ℕ) (text : List ℕ) → position is_newline text ≡ None
    → lines_from number (slice_split is_newline text) ≡ words_on number text ∷ []
unfolding lines_from
only_line number text e =
    ap (λ l. lines_from number l) (slice_split_none is_newline text (none_passes is_newline text e))
