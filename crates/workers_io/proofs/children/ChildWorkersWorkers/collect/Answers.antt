use Rattle.std.proofs.Common.{arith, rules, ◌≡◌, ◌<◌, ◌∙◌, ◌++◌, ap, length, map, refl, sym, take, drop}
use Rattle.workers_io.specs.Collects.{collected_attempt, out_after}
use Rattle.workers_io.proofs.RunLemmas.{collect_runs, lent_runs, lent_within, one_runs}
use Rattle.workers_io.proofs.children.ChildWorkersWorkers.collect.Goals as goal

pub wait_for_one-place-requires : goal.wait_for_one-place-requires
wait_for_one-place-requires g c =
    let s = c.args.self.now in
    let some : 0 < length s.running.items = one_runs s.running.items (λ r. r.attempt) s.out.items s.run c.requires in
    search rules

pub remove-requires : goal.remove-requires
remove-requires g c =
    let s = c.args.self.now in
    let w = c.wait_for_one-place in
    let within = lent_within s.running.items w.new.running _ s.running.len w.result
    (sym (w.auto.running ∙ c.deref_mut.ensures.len)) refl (omega (arith, w.auto.running, w.ensures.within)) in
    search rules

pub invariant_of-self : goal.invariant_of-self
invariant_of-self g c =
    let s = c.args.self.now in
    let w = c.wait_for_one-place in
    let size = sym (w.auto.running ∙ c.deref_mut.ensures.len) in
    let all = take s.running.len (w.new.running ++ drop (length w.new.running) s.running.items) in
    let lent =
    lent_runs s.running.items w.new.running s.running.len (λ r. r.attempt) s.out.items size (w.ensures.same ∙ ap (map (λ r. r.attempt)) c.deref_mut.ensures.value)
    s.run in
    let within = lent_within s.running.items w.new.running all s.running.len w.result size refl (omega (arith, w.auto.running, w.ensures.within)) in
    let less : c.take_off.new.out.items ≡ out_after s.out.items (collected_attempt c.finish-collected.result.collected) = search rules in
    record {
      run = collect_runs all c.remove.new.self.items w.result c.remove.result (λ r. r.attempt) s.out.items
          c.take_off.new.out.items (collected_attempt c.finish-collected.result.collected) within c.remove.ensures.value c.remove.ensures.by_index.2
          (sym c.finish-collected.ensures) less lent;
    }
