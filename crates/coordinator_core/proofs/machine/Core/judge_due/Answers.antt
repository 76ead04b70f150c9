use Rattle.std.proofs.Common.{◌≡◌, sym, subst}
use Rattle.run_state.proofs.KeyListLemmas.{not_held}
use Rattle.coordinator_core.specs.declared.verdict.Verdict.TheVariants.{Accepted, Loss}
use Rattle.coordinator_core.specs.Machine.{State, judged}
use Rattle.coordinator_core.specs.Places.{IsDueAt, state_of}
use Rattle.coordinator_core.proofs.SoundLemmas.{accepted_due, clash_due, due_waits, sound_by_counts}
use Rattle.coordinator_core.proofs.KeptLemmas.{refused-clash, refused-done, refused-stranger}
use Rattle.coordinator_core.proofs.machine.Core.judge_due.Goals as goal

pub returns-in-Ok : goal.returns-in-Ok
returns-in-Ok c =
    let s = state_of c.self.inside.options c.self.inside.run c.self.inside.queue.items c.self.inside.sent.items c.self.inside.losses c.self.inside.strays in
    let due = subst (λ (z : State). IsDueAt z c.args.attempt c.args.reply.now) (sym c.self.view_is) c.requires in
    subst (λ (z : State). Accepted ≡ judged z c.args.attempt c.args.reply.now) c.self.view_is
    (accepted_due s c.args.attempt c.args.reply.now due c.in-Ok.ensures.fits.new_keys)

pub returns-in-Err-Clash : goal.returns-in-Err-Clash
returns-in-Err-Clash c =
    let s = state_of c.self.inside.options c.self.inside.run c.self.inside.queue.items c.self.inside.sent.items c.self.inside.losses c.self.inside.strays in
    let due = subst (λ (z : State). IsDueAt z c.args.attempt c.args.reply.now) (sym c.self.view_is) c.requires in
    subst (λ (z : State). Loss ≡ judged z c.args.attempt c.args.reply.now) c.self.view_is
    (clash_due s c.args.attempt c.args.reply.now due
    (refused-clash s.run.keys c.args.reply.now.key c.args.reply.now.keys c.in-Err-Clash.field-0 c.in-Err-Clash.field-0-0 c.in-Err-Clash.field-0-is
    c.in-Err-Clash.ensures.refused))

pub unreachable-requires : goal.unreachable-requires
unreachable-requires c =
    let s = state_of c.self.inside.options c.self.inside.run c.self.inside.queue.items c.self.inside.sent.items c.self.inside.losses c.self.inside.strays in
    let due = subst (λ (z : State). IsDueAt z c.args.attempt c.args.reply.now) (sym c.self.view_is) c.requires in
    not_held s.run.keys.done c.args.reply.now.key due.due.not_done
    (refused-done s.run.keys c.args.reply.now.key c.args.reply.now.keys c.in-Err-Done.field-0 c.in-Err-Done.field-0-is c.in-Err-Done.ensures.refused)

pub unreachable-requires-in-Err-Stranger : goal.unreachable-requires-in-Err-Stranger
unreachable-requires-in-Err-Stranger c =
    let s = state_of c.self.inside.options c.self.inside.run c.self.inside.queue.items c.self.inside.sent.items c.self.inside.losses c.self.inside.strays in
    let due = subst (λ (z : State). IsDueAt z c.args.attempt c.args.reply.now) (sym c.self.view_is) c.requires in
    refused-stranger s.run.keys c.args.reply.now.key c.args.reply.now.keys c.in-Err-Stranger.field-0 c.in-Err-Stranger.field-0-is
    c.in-Err-Stranger.ensures.refused
    (due_waits s c.args.attempt c.args.reply.now (sound_by_counts s c.self.invariant.sound) due)
