use Rattle.std.proofs.Common.{◌≡◌, Err, ap, sym, subst, ◌∙◌}
use Rattle.std.proofs.lemmas.Result.{err_from_is_err_and}
use Rattle.linearity.proofs.Errors.{one_error}
use Rattle.plain_enum.specs.declared.answers.FeasibleStop.TheVariants as FeasibleStop
use Rattle.dictionary.specs.Views.{Dictionary}
use Rattle.plain_enum.specs.Begin.{IsBegun}
use Rattle.plain_enum.proofs.Begun.{same_overflow}
use Rattle.plain_enum.proofs.feasible.has_point.Goals as goal

pub returns-in-Ok-clause-answer : goal.returns-in-Ok-clause-answer
returns-in-Ok-clause-answer c p file =
    let begun = c.in_ok-dict.field-0 in
    c.in-Ok.ensures.answer p begun.last.value file
    (subst (λ (d : Dictionary). IsBegun p d begun.last.value begun.free) (sym c.deref.ensures)
    (c.in_ok-dict.ensures.begun p file))

pub returns-clause-overflow : goal.returns-clause-overflow
returns-clause-overflow c o h p file =
    let begun = c.in_ok-dict.field-0 in
    c.in-Err.ensures.passes o (ap (λ x. Err x) (same_overflow c.in-Err.overflow o h)) p begun.last.value file
    (subst (λ (d : Dictionary). IsBegun p d begun.last.value begun.free) (sym c.deref.ensures)
    (c.in_ok-dict.ensures.begun p file))

pub returns-in_err-dict-clause-overflow : goal.returns-in_err-dict-clause-overflow
returns-in_err-dict-clause-overflow c o h p file =
    let q = err_from_is_err_and c.from_residual.result c.from_residual.ensures.1 in
    let same : c.in_err-dict.field-0.0 ≡ FeasibleStop.Overflow o =
    sym q.2 ∙ one_error c.from_residual.result (FeasibleStop.Overflow o) q.0 h q.1 in
    c.in_err-dict.ensures.overflow o (ap (λ v. Err v) same) p file
