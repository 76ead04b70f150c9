use Rattle.std.proofs.Common.{rules, ◌≡◌}
use Rattle.std.proofs.lemmas.List.Edits.{map_over_more}
use Rattle.workers_io.specs.Memory.{spoiled_one}
use Rattle.workers_io.proofs.queue.spoil.Goals as goal

pub each-preserved : goal.each-preserved
each-preserved c =
    let f = spoiled_one c.args.attempt in
    let old = c.args.coming.now.items in
    let one : c.spoil_one.new.coming ≡ f c.index_mut.result.now = search rules in
    record { done = rw one (map_over_more f old c.each.coming.items c.each.k c.index_mut.result.now (search rules) c.each.invariant.done c.index_mut.ensures.value) }
