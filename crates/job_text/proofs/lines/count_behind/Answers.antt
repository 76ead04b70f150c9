use Rattle.std.proofs.Common.{◌≡◌, ◌<◌, ◌^◌, List, ℕ, ◌++◌, ◌∷◌, sym, ◌∙◌, arith}
use Rattle.std.specs.Prelude.{decimal}
use Rattle.plain_text.specs.Cuts.{Lacks, CutsLine}
use Rattle.plain_text.proofs.ReadLemmas.{none_line_read, line_is, no_line, read_none, read_at}
use Rattle.plain_text.proofs.NumberLemmas.{decimal_tells}
use Rattle.job_text.proofs.JobLineLemmas.{word_and_count_lack, same_behind}
use Rattle.job_text.proofs.lines.count_behind.Goals as goal

-- the line in front of the text is the number's
the_line : {text line rest : List ℕ} (word digits : List ℕ) (n : ℕ) (more : List ℕ) → CutsLine text line rest → Lacks 10 word → n < 2 ^ 64
    → line ≡ word ++ digits → text ≡ (word ++ decimal n) ++ 10 ∷ more → digits ≡ decimal n
the_line word digits n more cuts lacks lt front is =
    same_behind word digits (decimal n) (sym front ∙ (line_is (word ++ decimal n) more cuts (word_and_count_lack word n lacks lt) is).0)

pub returns-in_err-line : goal.returns-in_err-line
returns-in_err-line c =
    rw c.from_residual.ensures
    (none_line_read (λ n rest may is. no_line c.args.text.now (c.args.word.now ++ decimal n) rest c.in_err-line.ensures is))

pub returns-in_err-digits : goal.returns-in_err-digits
returns-in_err-digits c =
    rw c.from_residual-in_err-digits.ensures (none_line_read (λ n rest may is.
    c.in_err-digits.ensures (decimal n)
    (line_is (c.args.word.now ++ decimal n) rest c.in_ok-line.ensures
    (word_and_count_lack c.args.word.now n c.requires (omega (arith, may.1, c.ranges.most.fits))) is).0))

pub returns-in_err-count : goal.returns-in_err-count
returns-in_err-count c =
    rw c.from_residual-in_err-count.ensures (none_line_read (λ n rest may is.
    let lt : n < 2 ^ 64 = omega (arith, may.1, c.ranges.most.fits) in
    read_none c.in_err-count.was c.read_count.ensures n lt
    (the_line c.args.word.now c.in_ok-digits.digits.now n rest c.in_ok-line.ensures c.requires lt c.in_ok-digits.ensures is)))

pub returns-then-count-least : goal.returns-then-count-least
returns-then-count-least c =
    let k = read_at c.in_ok-count.was c.read_count.ensures in
    none_line_read (λ n rest may is.
    let lt : n < 2 ^ 64 = omega (arith, may.1, c.ranges.most.fits) in
    let same = decimal_tells c.in_ok-count.count n (omega (arith, k.0)) (omega (arith, lt))
    (sym k.1 ∙ the_line c.args.word.now c.in_ok-digits.digits.now n rest c.in_ok-line.ensures c.requires lt c.in_ok-digits.ensures is) in
    omega (arith, same, may.0, c.if-count-least.true))

pub returns-then-count-most : goal.returns-then-count-most
returns-then-count-most c =
    let k = read_at c.in_ok-count.was c.read_count.ensures in
    none_line_read (λ n rest may is.
    let lt : n < 2 ^ 64 = omega (arith, may.1, c.ranges.most.fits) in
    let same = decimal_tells c.in_ok-count.count n (omega (arith, k.0)) (omega (arith, lt))
    (sym k.1 ∙ the_line c.args.word.now c.in_ok-digits.digits.now n rest c.in_ok-line.ensures c.requires lt c.in_ok-digits.ensures is) in
    omega (arith, same, may.1, c.if-count-most.true))
