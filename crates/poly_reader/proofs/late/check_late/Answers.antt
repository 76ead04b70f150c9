use Rattle.std.proofs.Common.{sym, ◌∙◌}
use Rattle.std.proofs.lemmas.Result.{err_from_is_err_and}
use Rattle.poly_reader.specs.Lines.{word}
use Rattle.poly_reader.specs.Matrix.{late_fault}
use Rattle.poly_reader.proofs.EachLemmas.{firsts_passed, firsts_failed, firsts_done}
use Rattle.poly_reader.proofs.late.check_late.Goals as goal

pub returns-in-None : goal.returns-in-None
returns-in-None c = sym c.words.invariant ∙ firsts_done late_fault c.words.line c.words.words c.in-None.ensures

pub returns-in_err-check_word : goal.returns-in_err-check_word
returns-in_err-check_word c =
    let p = err_from_is_err_and c.from_residual.result c.from_residual.ensures.1 in
    rw (p.1, p.2) (sym c.words.invariant ∙ firsts_failed c.in_err-check_word.field-0.0 late_fault c.words.line
    (word c.in-Some.next.0) c.words.words c.in-Some.next.1 c.in-Some.ensures c.in_err-check_word.ensures)

pub words-preserved : goal.words-preserved
words-preserved c =
    sym (firsts_passed late_fault c.words.line (word c.in-Some.next.0) c.words.words c.in-Some.next.1 _
    c.in-Some.ensures c.in_ok-check_word.ensures)
    ∙ c.words.invariant
