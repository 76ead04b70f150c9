use Rattle.std.proofs.Common.{arith, ◌≡◌, ◌∙◌, ◌≤◌, ◌<◌, ◌+◌, ◌-◌, ◌++◌, true, false, sym, ap, subst, Some, List, ℕ, length, vec_capacity, slice_set}
use Rattle.std.specs.List.{Contains, range_with_len}
use Rattle.std.proofs.lemmas.Option.{slice_get_within}
use Rattle.std.proofs.Math.ListN.{length-set}
use Rattle.run_state.specs.KeyLists.{are_new, key_at}
use Rattle.run_state.specs.Runs.{Run}
use Rattle.run_state.proofs.KeyListLemmas.{not_held}
use Rattle.coordinator_core.specs.Machine.{State, sent_at, recorded_at}
use Rattle.coordinator_core.specs.declared.sent.Sent.{Sent}
use Rattle.coordinator_core.specs.Places.{IsDueAt, IsKept, gone, sent_numbered, state_of}
use Rattle.coordinator_core.proofs.SoundLemmas.{due_waits, sound_by_counts}
use Rattle.coordinator_core.proofs.KeptLemmas.{SameState, due-means, due_still, kept-same, kept-taken, place-at, place-member, queue-taken, refused-clash, refused-done, refused-stranger, some-out, taken-view}
use Rattle.coordinator_core.proofs.machine.Core.record.Goals as goal
use Rattle.coordinator_core.proofs.machine.Core.record.Goals.{After-make_room, After-end_attempt}

-- ---- the attempt is one that was handed out, and the reply is due
there : (c : After-make_room) → sent_numbered c.self.inside.sent.items c.args.attempt ≡ Some c.in-Some.sent
there c =
    subst (λ (l : List Sent). sent_numbered l c.args.attempt ≡ Some c.in-Some.sent) c.deref.ensures.value (sym c.attempt_at.ensures ∙ c.in-Some.is)

due : (c : After-make_room) →
    IsDueAt (state_of c.self.inside.options c.self.inside.run c.self.inside.queue.items c.self.inside.sent.items c.self.inside.losses c.self.inside.strays)
    c.args.attempt c.args.reply.now
due c = subst (λ (z : State). IsDueAt z c.args.attempt c.args.reply.now) (sym c.self.view_is) c.requires

means : (c : After-make_room) → (c.args.reply.now.key ≡ key_at c.self.inside.run.came c.in-Some.sent.place) × (c.in-Some.sent.is_out ≡ true)
means c =
    due-means c.self.inside.options c.self.inside.run c.self.inside.queue.items c.self.inside.sent.items c.self.inside.losses c.self.inside.strays
    c.args.attempt c.args.reply.now c.in-Some.sent (there c) (due c)

-- ---- what is kept where only room was made
same : (c : After-make_room) →
    IsKept c.self.inside.options c.self.inside.run c.make_room.new.queue.items c.make_room.new.sent.items c.self.inside.out (vec_capacity c.make_room.new.sent)
same c =
    kept-same c.self.inside.options c.self.inside.run c.self.inside.queue.items c.self.inside.sent.items c.self.inside.out (vec_capacity c.self.inside.sent)
    c.make_room.new.queue.items c.make_room.new.sent.items (vec_capacity c.make_room.new.sent) c.self.invariant
    c.make_room.ensures.queue c.make_room.ensures.sent c.make_room.ensures.capacity

pub invariant_of-self : goal.invariant_of-self
invariant_of-self c = same (goal.at.invariant_of-self c).After-make_room

pub invariant_of-self-in-Err-Clash : goal.invariant_of-self-in-Err-Clash
invariant_of-self-in-Err-Clash c =
    subst (λ (z : Run). IsKept c.self.inside.options z c.make_room.new.queue.items c.make_room.new.sent.items c.self.inside.out (vec_capacity c.make_room.new.sent))
    (sym c.in-Err-Clash.ensures.unchanged) (same (goal.at.invariant_of-self-in-Err-Clash c).After-make_room)

pub invariant_of-self-in-Err-Memory : goal.invariant_of-self-in-Err-Memory
invariant_of-self-in-Err-Memory c =
    subst (λ (z : Run). IsKept c.self.inside.options z c.make_room.new.queue.items c.make_room.new.sent.items c.self.inside.out (vec_capacity c.make_room.new.sent))
    (sym c.in-Err-Memory.ensures.unchanged) (same (goal.at.invariant_of-self-in-Err-Memory c).After-make_room)

-- ---- the job of the attempt
pub key_at-key-requires : goal.key_at-key-requires
key_at-key-requires c =
    c.self.invariant.handed c.in-Some.sent
    (place-member c.self.inside.sent.items c.args.attempt c.in-Some.sent (there (goal.at.key_at-key-requires c).After-make_room))

pub accept-requires : goal.accept-requires
accept-requires c = record { job = (means (goal.at.accept-requires c).After-make_room).0 ∙ sym c.key_at-key.ensures }

pub returns-in-Err-Clash-clause-new : goal.returns-in-Err-Clash-clause-new
returns-in-Err-Clash-clause-new c =
    subst (λ (z : State). false ≡ are_new (z.run.keys.waiting ++ z.run.keys.done) c.args.reply.now.keys) c.self.view_is
    (sym (refused-clash c.self.inside.run.keys c.key_at-key.result c.args.reply.now.keys c.in-Err-Clash.field-0 c.in-Err-Clash.field-0-0
    c.in-Err-Clash.field-0-is c.in-Err-Clash.ensures.refused))

pub unreachable-requires-in-Err-Done : goal.unreachable-requires-in-Err-Done
unreachable-requires-in-Err-Done c =
    let a = (goal.at.unreachable-requires-in-Err-Done c).After-make_room in
    let job : c.args.reply.now.key ≡ c.key_at-key.result = (means a).0 ∙ sym c.key_at-key.ensures in
    not_held c.self.inside.run.keys.done c.args.reply.now.key (due a).due.not_done
    (subst (λ (k : List ℕ). Contains c.self.inside.run.keys.done k) (sym job)
    (refused-done c.self.inside.run.keys c.key_at-key.result c.args.reply.now.keys c.in-Err-Done.field-0 c.in-Err-Done.field-0-is c.in-Err-Done.ensures.refused))

pub unreachable-requires-in-Err-Stranger : goal.unreachable-requires-in-Err-Stranger
unreachable-requires-in-Err-Stranger c =
    let a = (goal.at.unreachable-requires-in-Err-Stranger c).After-make_room in
    let s = state_of c.self.inside.options c.self.inside.run c.self.inside.queue.items c.self.inside.sent.items c.self.inside.losses c.self.inside.strays in
    let job : c.args.reply.now.key ≡ c.key_at-key.result = (means a).0 ∙ sym c.key_at-key.ensures in
    refused-stranger c.self.inside.run.keys c.key_at-key.result c.args.reply.now.keys c.in-Err-Stranger.field-0 c.in-Err-Stranger.field-0-is
    c.in-Err-Stranger.ensures.refused
    (subst (λ (k : List ℕ). Contains c.self.inside.run.keys.waiting k) job
    (due_waits s c.args.attempt c.args.reply.now (sound_by_counts s c.self.invariant.sound) (due a)))

-- ---- the attempt ends
pub end_attempt-requires : goal.end_attempt-requires
end_attempt-requires c =
    subst (λ (l : List Sent). c.args.attempt - 1 < length l) (sym c.make_room.ensures.sent)
    (slice_get_within c.self.inside.sent.items (c.args.attempt - 1) c.in-Some.sent
    (place-at c.self.inside.sent.items c.args.attempt c.in-Some.sent (there (goal.at.end_attempt-requires c).After-make_room)))

pub overflow_sub-self : goal.overflow_sub-self
overflow_sub-self c =
    let a = (goal.at.overflow_sub-self c).After-make_room in
    some-out c.self.inside.options c.self.inside.run c.self.inside.queue.items c.self.inside.sent.items c.self.inside.out (vec_capacity c.self.inside.sent)
    c.args.attempt c.in-Some.sent c.self.invariant (there a) (means a).1

-- ---- the queue and the attempts then
queue : (c : After-end_attempt) →
    c.add_places.new.queue.items ≡ c.self.inside.queue.items ++ range_with_len (length c.self.inside.run.came) (length c.args.reply.now.keys)
queue c =
    queue-taken c.self.inside.run c.accept.new.self c.args.reply.now c.self.inside.queue.items c.make_room.new.queue.items c.add_places.new.queue.items
    c.len-first.result c.len-end.result c.in-Ok.ensures.taken c.len-first.ensures.len c.len-end.ensures.len c.make_room.ensures.queue c.add_places.ensures

sent : (c : After-end_attempt) → c.end_attempt.new.sent.items ≡ slice_set c.self.inside.sent.items (c.args.attempt - 1) (gone c.in-Some.sent)
sent c =
    c.end_attempt.ensures.sent ∙ ap (λ (l : List Sent). slice_set l (c.args.attempt - 1) (gone c.in-Some.sent)) c.make_room.ensures.sent

pub invariant_of-self-2 : goal.invariant_of-self-2
invariant_of-self-2 c =
    let a = (goal.at.invariant_of-self-2 c).After-make_room in
    let e = (goal.at.invariant_of-self-2 c).After-end_attempt in
    let long : length c.end_attempt.new.sent.items ≡ length c.make_room.new.sent.items =
    ap length c.end_attempt.ensures.sent ∙ length-set c.make_room.new.sent.items (c.args.attempt - 1) (gone c.in-Some.sent) in
    let room : length c.end_attempt.new.sent.items + (c.self.inside.options.workers - c.self.inside.out + 1) ≤ vec_capacity c.end_attempt.new.sent =
    omega (arith, long, c.end_attempt.ensures.capacity, c.in_ok-make_room.ensures.attempts) in
    kept-taken c.self.inside.options c.self.inside.run c.self.inside.queue.items c.self.inside.sent.items c.self.inside.out (vec_capacity c.self.inside.sent)
    c.args.attempt c.args.reply.now c.in-Some.sent
    c.accept.new.self c.add_places.new.queue.items c.end_attempt.new.sent.items (vec_capacity c.end_attempt.new.sent) c.self.invariant (there a) (means a).1
    c.in-Ok.ensures.taken (queue e) (sent e) room
    (due_still c.self.inside.options c.self.inside.run c.self.inside.queue.items c.self.inside.sent.items c.self.inside.losses c.self.inside.strays
    c.args.attempt c.args.reply.now (due a))
    c.in-Ok.ensures.fits.new_keys

pub returns-clause-state : goal.returns-clause-state
returns-clause-state c =
    let a = (goal.at.returns-clause-state c).After-make_room in
    let e = (goal.at.returns-clause-state c).After-end_attempt in
    subst (λ (z : State). SameState (state_of c.self.inside.options c.accept.new.self c.add_places.new.queue.items c.end_attempt.new.sent.items c.self.inside.losses c.self.inside.strays)
    (recorded_at z c.args.attempt c.args.reply.now (sent_at z c.args.attempt))) c.self.view_is
    (taken-view c.self.inside.options c.self.inside.run c.self.inside.queue.items c.self.inside.sent.items c.self.inside.losses c.self.inside.strays
    c.args.attempt c.self.inside.out (vec_capacity c.self.inside.sent)
    c.args.reply.now c.in-Some.sent c.accept.new.self c.add_places.new.queue.items c.end_attempt.new.sent.items c.self.invariant (there a)
    c.in-Ok.ensures.taken (queue e) (sent e))
