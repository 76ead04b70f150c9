use Rattle.std.proofs.Common.{◌≡◌, ◌∙◌, sym, ap, subst, ℕ, Err, ◌++◌}
use Rattle.poly_model.specs.Systems.{Polyhedron}
use Rattle.job_text.specs.Replies.{IsWholeReply}
use Rattle.run_state.specs.Payloads.{IsNoNext}
use Rattle.job_text.specs.declared.stops.PayloadStop.TheVariants.{Bad}
use Rattle.run_state.proofs.FollowLemmas.{bad-next, no_next, run-next}
use Rattle.run_state.proofs.KeyListLemmas.{clash_not_new}
use Rattle.run_state.proofs.state.RunState.follow.Goals as goal

pub returns-in-Err-clause-bad : goal.returns-in-Err-clause-bad
returns-in-Err-clause-bad c before is e =
    let n : c.n.result ≡ c.args.self.now.search.polyhedron.n = c.n.ensures.value ∙ ap (λ (p : Polyhedron). p.n) c.poly.ensures in
    let q : c.in-Err.stop ≡ Bad = cc in
    bad-next before c.args.payload.now c.args.self.now is
    (λ r x. c.in-Err.ensures.bad (ap Err q) r (subst (λ (m : ℕ). IsWholeReply m r c.args.payload.now) (sym n) x.whole) x.ends)

pub returns-in-Err-Done-clause-bad : goal.returns-in-Err-Done-clause-bad
returns-in-Err-Done-clause-bad c before is e =
    let n : c.n.result ≡ c.args.self.now.search.polyhedron.n = c.n.ensures.value ∙ ap (λ (p : Polyhedron). p.n) c.poly.ensures in
    bad-next before c.args.payload.now c.args.self.now is
    (subst (λ (m : ℕ). IsNoNext m c.args.self.now.keys c.args.payload.now) n
    (no_next c.n.result c.args.self.now.keys c.args.payload.now c.in-Ok.reply c.in-Ok.ensures.one
    (λ f. (rw c.in-Err-Done.field-0-is at c.in-Err-Done.ensures.refused).1 f.waits)))

pub returns-in-Err-Stranger-clause-bad : goal.returns-in-Err-Stranger-clause-bad
returns-in-Err-Stranger-clause-bad c before is e =
    let n : c.n.result ≡ c.args.self.now.search.polyhedron.n = c.n.ensures.value ∙ ap (λ (p : Polyhedron). p.n) c.poly.ensures in
    bad-next before c.args.payload.now c.args.self.now is
    (subst (λ (m : ℕ). IsNoNext m c.args.self.now.keys c.args.payload.now) n
    (no_next c.n.result c.args.self.now.keys c.args.payload.now c.in-Ok.reply c.in-Ok.ensures.one
    (λ f. (rw c.in-Err-Stranger.field-0-is at c.in-Err-Stranger.ensures.refused).0 f.waits)))

pub returns-clause-bad : goal.returns-clause-bad
returns-clause-bad c before is e =
    let n : c.n.result ≡ c.args.self.now.search.polyhedron.n = c.n.ensures.value ∙ ap (λ (p : Polyhedron). p.n) c.poly.ensures in
    bad-next before c.args.payload.now c.args.self.now is
    (subst (λ (m : ℕ). IsNoNext m c.args.self.now.keys c.args.payload.now) n
    (no_next c.n.result c.args.self.now.keys c.args.payload.now c.in-Ok.reply c.in-Ok.ensures.one
    (λ f. clash_not_new (c.args.self.now.keys.waiting ++ c.args.self.now.keys.done) c.in-Ok.reply.keys c.in-Err-Clash.field-0-0
    (rw c.in-Err-Clash.field-0-is at c.in-Err-Clash.ensures.refused).1 f.new_keys)))

pub returns-in-Ok-accept-clause-ok : goal.returns-in-Ok-accept-clause-ok
returns-in-Ok-accept-clause-ok c before is =
    let n : c.n.result ≡ c.args.self.now.search.polyhedron.n = c.n.ensures.value ∙ ap (λ (p : Polyhedron). p.n) c.poly.ensures in
    run-next before c.args.payload.now c.args.self.now is c.accept.new.self c.in-Ok.reply
    (record {
      whole = subst (λ (m : ℕ). IsWholeReply m c.in-Ok.reply c.args.payload.now) n c.in-Ok.ensures.whole;
      ends = c.in-Ok.ensures.ends;
      fits = c.in-Ok-accept.ensures.fits;
    }) c.in-Ok-accept.ensures.taken
