use Rattle.std.proofs.Common.{◌∙◌, sym, ap, subst, Err}
use Rattle.std.proofs.lemmas.Result.{err_from_is_err_and}
use Rattle.job_text.specs.declared.reply.Reply.{Reply}
use Rattle.run_state.specs.Payloads.{SaysEnd}
use Rattle.run_state.proofs.payloads.read_next_payload.Goals as goal

pub returns-in_err-reply-clause-bad : goal.returns-in_err-reply-clause-bad
returns-in_err-reply-clause-bad c e other whole ends =
    let q = err_from_is_err_and c.from_residual.result c.from_residual.ensures.1 in
    c.in_err-reply.ensures.bad (ap (λ v. Err v) (sym q.2) ∙ sym q.1 ∙ e) other whole

pub returns-clause-bad : goal.returns-clause-bad
returns-clause-bad c e other whole ends =
    let same = c.in_ok-reply.ensures.one other whole in
    c.says_end.ensures.no c.if-says_end.false (subst (λ (r : Reply). SaysEnd r.tail) same ends)
