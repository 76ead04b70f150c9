use Rattle.std.proofs.Common.{◌∙◌, ◌∷◌, ◌++◌, List, ℕ, ap, arith}
use Rattle.plain_text.proofs.ReadLemmas.{none_front_read, some_front_read, read_none, read_at, word_is}
use Rattle.poly_model.specs.LabelText.{place_text}
use Rattle.job_text.proofs.OverflowLemmas.{place_lacks}
use Rattle.job_text.proofs.overflow.next_place.Goals as goal

pub returns-in_err-word : goal.returns-in_err-word
returns-in_err-word c =
    rw c.from_residual.ensures (none_front_read (λ place more h g is. c.in_err-word.ensures (place_text place ++ more) is))

pub returns-in_err-place : goal.returns-in_err-place
returns-in_err-place c =
    let (cut, at, cuts) = c.in_ok-word.ensures in
    rw c.from_residual-in_err-place.ensures (none_front_read (λ place more h g is.
    read_none c.in_err-place.was c.read_place.ensures place h
    (word_is (place_text place) more at cuts (place_lacks 32 place (omega arith) h) g is).0))

pub returns : goal.returns
returns c =
    let (cut, at, cuts) = c.in_ok-word.ensures in
    let k = read_at c.in_ok-place.was c.read_place.ensures in
    some_front_read c.in_ok-place.place c.in_ok-word.rest k.0
    (at ∙ ap (λ (l : List ℕ). 32 ∷ l) (cuts.whole ∙ ap (λ (l : List ℕ). l ++ c.in_ok-word.rest.now) k.1)) cuts.goes_on
