use Rattle.std.proofs.Common.{◌∙◌, ◌∷◌, ◌++◌, List, ℕ, ap, inl, arith}
use Rattle.std.specs.Prelude.{decimal}
use Rattle.plain_text.proofs.ReadLemmas.{none_front_read, some_front_read, read_none, read_at, word_is}
use Rattle.plain_text.proofs.NumberLemmas.{decimal_lacks}
use Rattle.job_text.proofs.words.next_count.Goals as goal

pub returns-in_err-word : goal.returns-in_err-word
returns-in_err-word c = rw c.from_residual.ensures (none_front_read (λ n more lt g is. c.in_err-word.ensures (decimal n ++ more) is))

pub returns-in_err-count : goal.returns-in_err-count
returns-in_err-count c =
    let (cut, at, cuts) = c.in_ok-word.ensures in
    rw c.from_residual-in_err-count.ensures (none_front_read (λ n more lt g is.
    read_none c.in_err-count.was c.read_count.ensures n lt
    (word_is (decimal n) more at cuts (decimal_lacks 32 n (omega (arith, lt)) (inl (omega arith))) g is).0))

pub returns : goal.returns
returns c =
    let (cut, at, cuts) = c.in_ok-word.ensures in
    let k = read_at c.in_ok-count.was c.read_count.ensures in
    some_front_read c.in_ok-count.count c.in_ok-word.rest k.0
    (at ∙ ap (λ (l : List ℕ). 32 ∷ l) (cuts.whole ∙ ap (λ (l : List ℕ). l ++ c.in_ok-word.rest.now) k.1)) cuts.goes_on
