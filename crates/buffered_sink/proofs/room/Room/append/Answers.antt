use Rattle.buffered_sink.proofs.HeldLemmas.{held_grows}
use Rattle.std.proofs.Common.{arith, length, ◌≤◌}
use Rattle.buffered_sink.proofs.room.Room.append.Goals as goal

pub returns-clause-taken : goal.returns-clause-taken
returns-clause-taken c _ =
    let low = c.self.invariant.0 in
    let high : c.self.inside.end ≤ length c.self.inside.bytes = omega (arith, c.self.invariant.1, c.self.told) in
    rw (← c.self.view_is)
    (held_grows c.self.inside.bytes c.copy_from_slice.new.self c.args.bytes.now _ c.self.inside.end _ low high
    c.copy_from_slice.ensures.after)
