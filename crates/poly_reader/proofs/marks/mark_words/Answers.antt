use Rattle.std.proofs.lemmas.Result.{err_from_is_err_and}
use Rattle.poly_reader.specs.Lines.{word}
use Rattle.poly_reader.proofs.NameLemmas.{names_next, names_missing, names_done}
use Rattle.poly_reader.proofs.MarkLemmas.{ends, fails, goes_on}
use Rattle.poly_reader.proofs.marks.mark_words.Goals as goal

pub returns-in-None : goal.returns-in-None
returns-in-None c =
    ends c.words.marks _ _ _ _ (names_missing c.args.line c.words.left c.words.words c.in-None.ensures.word)
    c.words.invariant

pub returns-in_err-mark_row : goal.returns-in_err-mark_row
returns-in_err-mark_row c =
    let p = err_from_is_err_and c.from_residual.result c.from_residual.ensures.1 in
    rw (p.1, p.2) (fails c.in_err-mark_row.field-0.0 c.words.marks _ c.mark_row.new.marks _ _ _ _
    (names_next c.args.line c.words.left (word c.in-Some.next.0) c.words.words c.in-Some.next.1 c.words-test.true
    c.in-Some.ensures.word) c.in_err-mark_row.ensures c.words.invariant)

pub words-preserved : goal.words-preserved
words-preserved c =
    goes_on _ c.words.marks _ _ _ _ _ _
    (names_next c.args.line c.words.left (word c.in-Some.next.0) c.words.words c.in-Some.next.1 c.words-test.true
    c.in-Some.ensures.word) c.in_ok-mark_row.ensures c.words.invariant

pub returns : goal.returns
returns c =
    ends c.words.marks _ _ _ _ (names_done c.args.line c.words.left c.words.words c.words-test.false) c.words.invariant
