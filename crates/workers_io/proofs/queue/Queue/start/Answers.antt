use Rattle.std.proofs.Common.{rules, ◌≡◌, IsOk}
use Rattle.workers_io.proofs.QueueLemmas.{refused_all, sent_all}
use Rattle.workers_io.proofs.queue.Queue.start.Goals as goal

pub invariant_of-self : goal.invariant_of-self
invariant_of-self c =
    let i = c.self.inside in
    let out : c.send-sent.new.out.items ≡ i.out.items = search rules in
    let same : c.send-sent.new.coming.items ≡ i.coming.items = search rules in
    rw (out, c.spoil.ensures, same) (refused_all c.args.attempt i.coming.items i.out.items c.self.invariant)

pub invariant_of-self-else-is_err : goal.invariant_of-self-else-is_err
invariant_of-self-else-is_err c =
    let i = c.self.inside in
    let s = c.send-sent in
    let ok : IsOk s.result = search rules in
    sent_all s.result c.args.coming (λ v. v.items) c.args.attempt i.coming.items s.new.coming.items i.out.items s.new.out.items ok c.requires s.ensures.begun s.ensures.coming s.ensures.out c.self.invariant
