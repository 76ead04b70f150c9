use Rattle.std.proofs.Common.{rules, ◌≤◌, length, take, subst}
use Rattle.disk_core.specs.Contents.{Holds}
use Rattle.disk_core.specs.Real.{IsReal}
use Rattle.disk_core.proofs.FileLemmas.{step_write}
use Rattle.disk_core.proofs.mem_file.MemFile.write.Goals as goal

pub step-requires : goal.step-requires
step-requires c =
    let a = c.args in
    let real : IsReal a.self.now = subst IsReal c.self.view_is c.self.invariant in
    let holds : Holds a.self.now.bytes a.at (take a.done a.bytes.now) c.in_ok-next.next.items = search rules in
    let few : length (take a.done a.bytes.now) ≤ length a.bytes.now = search rules in
    step_write a.self.now a.at a.done a.bytes.now c.in_ok-next.next.items real c.requires.within (search rules) few holds
