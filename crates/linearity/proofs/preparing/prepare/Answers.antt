use Rattle.std.proofs.Common.{Err, refl, sym, ap, ◌∙◌}
use Rattle.std.proofs.lemmas.Result.{err_from_is_err_and}
use Rattle.linearity.specs.declared.preparing.PrepareStop.TheVariants.{Inconsistent, Overflow}
use Rattle.linearity.proofs.Consistency.{begins_elimination}
use Rattle.linearity.proofs.preparing.prepare.Goals as goal
use Rattle.linearity.proofs.Errors.{one_error}

pub returns-in_err-eliminate_rows-clause-inconsistent : goal.returns-in_err-eliminate_rows-clause-inconsistent
returns-in_err-eliminate_rows-clause-inconsistent c h p file =
    let q = err_from_is_err_and c.from_residual.result c.from_residual.ensures.1 in
    let same = sym q.2 ∙ one_error c.from_residual.result Inconsistent q.0 h q.1 in
    c.in_err-eliminate_rows.ensures.inconsistent (ap (λ v. Err v) same) p file
    (begins_elimination c.args.sys.now c.in-Ok.dict p file refl c.keeps_limits.ensures.some c.keeps_limits.ensures.narrow
    refl c.keeps_limits.ensures.few c.in-Ok.ensures)

pub returns-in_err-eliminate_rows-clause-overflow : goal.returns-in_err-eliminate_rows-clause-overflow
returns-in_err-eliminate_rows-clause-overflow c o h p file =
    let q = err_from_is_err_and c.from_residual.result c.from_residual.ensures.1 in
    let same = sym q.2 ∙ one_error c.from_residual.result (Overflow o) q.0 h q.1 in
    c.in_err-eliminate_rows.ensures.overflow o (ap (λ v. Err v) same) p file
    (begins_elimination c.args.sys.now c.in-Ok.dict p file refl c.keeps_limits.ensures.some c.keeps_limits.ensures.narrow
    refl c.keeps_limits.ensures.few c.in-Ok.ensures)

pub returns-in-Ok-enter_main-clause-prepared : goal.returns-in-Ok-enter_main-clause-prepared
returns-in-Ok-enter_main-clause-prepared c p file =
    c.in-Ok-enter_main.ensures p file
    (c.in_ok-eliminate_rows.ensures.ended p file
    (begins_elimination c.args.sys.now c.in-Ok.dict p file refl c.keeps_limits.ensures.some c.keeps_limits.ensures.narrow
    refl c.keeps_limits.ensures.few c.in-Ok.ensures))
