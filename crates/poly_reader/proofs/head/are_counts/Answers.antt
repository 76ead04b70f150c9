use Rattle.std.proofs.Common.{sym, ◌∙◌}
use Rattle.poly_reader.specs.Lines.{word}
use Rattle.poly_reader.proofs.NameLemmas.{counts_done, counts_missing, counts_bad, counts_next}
use Rattle.poly_reader.proofs.head.are_counts.Goals as goal

pub returns-in-None : goal.returns-in-None
returns-in-None c = counts_missing c.words.left c.words.words c.words-test.true c.in-None.ensures.word
    ∙ c.words.invariant

pub returns-then-not-is_count : goal.returns-then-not-is_count
returns-then-not-is_count c =
    counts_bad c.words.left (word c.in-Some.next.0) c.words.words c.in-Some.next.1 c.words-test.true
    c.in-Some.ensures.word
    (sym c.if-not-is_count.ensures) ∙ c.words.invariant

pub words-preserved : goal.words-preserved
words-preserved c =
    counts_next c.words.left (word c.in-Some.next.0) c.words.words c.in-Some.next.1 c.words-test.true
    c.in-Some.ensures.word
    (sym c.if-not-is_count.ensures) ∙ c.words.invariant

pub returns : goal.returns
returns c = counts_done c.words.left c.words.words c.words-test.false ∙ c.words.invariant
