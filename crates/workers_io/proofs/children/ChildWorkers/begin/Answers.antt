use Rattle.workers_io.proofs.RunLemmas.{same_runs, start_runs}
use Rattle.workers_io.proofs.children.ChildWorkers.begin.Goals as goal

pub invariant_of-self-then-is_err-2 : goal.invariant_of-self-then-is_err-2
invariant_of-self-then-is_err-2 g c =
    let s = c.args.self.now in
    record { run = same_runs s.running.items c.reserve-else-is_err.new.self.items (λ r. r.attempt) s.out.items c.reserve.new.self.items c.reserve-else-is_err.ensures.items c.reserve.ensures.items s.run }

pub invariant_of-self-in_default : goal.invariant_of-self-in_default
invariant_of-self-in_default g c =
    let s = c.args.self.now in
    record { run = same_runs s.running.items c.reserve-else-is_err.new.self.items (λ r. r.attempt) s.out.items c.reserve.new.self.items c.reserve-else-is_err.ensures.items c.reserve.ensures.items s.run }

pub invariant_of-self-2 : goal.invariant_of-self-2
invariant_of-self-2 g c =
    let s = c.args.self.now in
    record {
      run = start_runs s.running.items c.reserve-else-is_err.new.self.items c.push_reserved-2.new.self.items _ (λ r. r.attempt) s.out.items c.reserve.new.self.items c.push_reserved.new.self.items c.args.attempt
          c.reserve-else-is_err.ensures.items c.push_reserved-2.ensures.items c.reserve.ensures.items c.push_reserved.ensures.items c.in-Ok.ensures s.run;
    }
