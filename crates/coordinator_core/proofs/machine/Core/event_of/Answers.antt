use Rattle.std.proofs.Common.{◌≡◌, ◌∙◌, ℕ, List, Some, refl, sym, ap, subst, Result, Err}
use Rattle.poly_model.specs.Systems.{Polyhedron}
use Rattle.work_core.specs.declared.budget.Budget.{Budget}
use Rattle.job_text.specs.declared.reply.Reply.{Reply}
use Rattle.job_text.specs.declared.stops.ReplyStop.{ReplyStop}
use Rattle.job_text.specs.Replies.{IsWholeReply}
use Rattle.coordinator_core.specs.Machine.{State, job_of}
use Rattle.coordinator_core.proofs.machine.Core.event_of.Goals as goal

as_err : {a b : ReplyStop} → a ≡ b → ◌≡◌ {A = Result Reply ReplyStop} (Err a) (Err b)
as_err e = ap (λ (stop : ReplyStop). Err stop) e

pub returns-in-Err-NotWhole : goal.returns-in-Err-NotWhole
returns-in-Err-NotWhole c = (
  refl,
  λ r is.
      let job : Some c.in-Some.job ≡ Some (is.which.key, is.which.budget) = sym c.in-Some.is ∙ c.sent.ensures ∙ ap job_of is.is_sent in
      let same : ◌≡◌ {A = List ℕ × Budget} c.in-Some.job (is.which.key, is.which.budget) = cc in
      let key : c.in-Some.job.0 ≡ is.which.key = ap (λ (p : List ℕ × Budget). p.0) same in
      let n : c.n.result ≡ c.args.self.now.run.search.polyhedron.n =
      c.n.ensures.value ∙ ap (λ (p : Polyhedron). p.n) c.poly.ensures ∙ ap (λ (z : State). z.run.search.polyhedron.n) c.self.view_is in
      (c.in-Err-NotWhole.ensures.not_whole c.in-Err-NotWhole.field-0-0 (as_err c.in-Err-NotWhole.field-0-is)).not_whole r (is.key ∙ sym key)
      (subst (λ (k : ℕ). IsWholeReply k r c.args.bytes.now) (sym n) is.whole),
)
