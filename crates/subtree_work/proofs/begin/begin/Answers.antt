use Rattle.std.proofs.Common.{length, refl, ap, arith}
use Rattle.poly_model.specs.Systems.{System}
use Rattle.subtree_work.proofs.Beginnings.{root_is_consistent}
use Rattle.subtree_work.proofs.begin.begin.Goals as goal

pub returns-in-Err-Inconsistent-clause-bad_root : goal.returns-in-Err-Inconsistent-clause-bad_root
returns-in-Err-Inconsistent-clause-bad_root g c h p file r =
    let none = rw c.in-Err-Inconsistent.field-0-is at c.in-Err-Inconsistent.ensures.inconsistent in
    let few = c.keeps_limits.ensures.few in
    none refl p file
    (root_is_consistent p c.args.root.now.key (omega (arith, few, ap (λ (s : System). length s.rows) file)) r)
