use Rattle.std.proofs.Common.{rules, ◌≡◌, ◌++◌, ◌∷◌, [], subst, sym}
use Rattle.disk_core.specs.Memory.{History, next_history}
use Rattle.disk_core.specs.Real.{IsReal}
use Rattle.disk_core.proofs.FileLemmas.{real_next}
use Rattle.disk_core.proofs.mem_file.MemFile.step.Goals as goal

pub invariant_of-self-2 : goal.invariant_of-self-2
invariant_of-self-2 c =
    let ins = c.self.inside in
    let a = c.args in
    let real = real_next a.self.now a.step a.next.items a.at a.len c.requires in
    let pushed : c.push.new.self.items ≡ ins.steps.items ++ a.step ∷ [] = search rules in
    let now : c.replace.new.dest.items ≡ a.next.items = search rules in
    let before : c.replace.result.items ≡ ins.bytes.items = search rules in
    rw (pushed, now, before) (subst (λ (h : History). IsReal (next_history h a.step a.next.items a.at a.len)) (sym c.self.view_is) real)
