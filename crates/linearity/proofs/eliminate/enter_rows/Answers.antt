use Rattle.std.proofs.Common.{Err, ◌+◌, sym, ap, subst, ◌∙◌, arith}
use Rattle.std.proofs.lemmas.Result.{err_from_is_err_and}
use Rattle.std.specs.Prelude.{ℕ, IfErr}
use Rattle.linearity.specs.Turns.{StopsAt}
use Rattle.linearity.proofs.Tries.{shape_then, stops, tried_then}
use Rattle.linearity.proofs.eliminate.enter_rows.Goals as goal

pub returns-in_err-try_row-clause-stopped : goal.returns-in_err-try_row-clause-stopped
returns-in_err-try_row-clause-stopped c =
    let q = err_from_is_err_and c.from_residual.result c.from_residual.ensures.1 in
    subst
    (λ r. IfErr r (λ o. (i : ℕ) × StopsAt c.args.sys.now c.args.pass i c.args.dict.now c.try_row.new.dict o))
    (sym (q.1 ∙ ap (λ v. Err v) q.2)) (
      c.rows.i,
      stops c.args.sys.now c.args.pass c.rows.i c.args.dict.now c.rows.dict c.try_row.new.dict
          c.in_err-try_row.field-0.0
          (omega arith) (omega arith) c.in_err-try_row.ensures.kind c.rows.invariant.tried
          c.in_err-try_row.ensures.unchanged c.in_err-try_row.ensures.overflows,
    )

pub returns-in_err-try_row-clause-fewer : goal.returns-in_err-try_row-clause-fewer
returns-in_err-try_row-clause-fewer c =
    (shape_then c.args.dict.now c.rows.dict c.try_row.new.dict c.rows.invariant.shape c.in_err-try_row.ensures.shape).fewer

pub returns-in_err-try_row-clause-passes : goal.returns-in_err-try_row-clause-passes
returns-in_err-try_row-clause-passes c o e p file h =
    let q = err_from_is_err_and c.from_residual.result c.from_residual.ensures.1 in
    c.in_err-try_row.ensures.passes o (ap (λ v. Err v) (sym q.2) ∙ sym q.1 ∙ e) p file
    (c.rows.invariant.tried.dictionary p file h)

pub rows-preserved : goal.rows-preserved
rows-preserved c =
    record {
      shape = shape_then c.args.dict.now c.rows.dict c.try_row.new.dict c.rows.invariant.shape c.in_ok-try_row.ensures.shape;
      tried = tried_then c.args.sys.now c.args.pass 1 c.rows.i (c.rows.i + 1) c.args.dict.now
          c.rows.dict c.try_row.new.dict
          c.rows.invariant.tried c.in_ok-try_row.ensures.tried;
    }
