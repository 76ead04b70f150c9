use Rattle.std.proofs.Common.{rules, ◌≤◌, length, take, subst, sym}
use Rattle.disk_core.specs.Contents.{TornWithin}
use Rattle.disk_core.specs.Images.{ComesFrom}
use Rattle.disk_core.specs.Moments.{Elapses}
use Rattle.disk_core.specs.Memory.{History, images_of, since_of}
use Rattle.disk_core.specs.declared.steps.Step.TheVariants.{Written}
use Rattle.disk_core.proofs.FileLemmas.{elapses_next, follows_next, held_is_torn}
use Rattle.disk_core.proofs.mem_file.MemFile.write_at.Goals as goal

pub returns-in-Ok-clause-crash : goal.returns-in-Ok-clause-crash
returns-in-Ok-clause-crash c =
    let a = c.args in
    let h = a.self.now in
    let b = a.bytes.now in
    let n = length b in
    let (next, holds, is) = c.in-Ok.ensures.ok in
    let within : a.at ≤ length h.bytes = search rules in
    let few : length (take c.in-Some.done b) ≤ n = search rules in
    subst (λ (g : History). ComesFrom (TornWithin a.at n) (images_of h) (images_of g)) (sym is)
    (follows_next (TornWithin a.at n) h (Written a.at n) next a.at n (λ old e torn. torn) (λ _. held_is_torn h.bytes (take c.in-Some.done b) next a.at n within few holds))

pub returns-in-Ok-clause-time : goal.returns-in-Ok-clause-time
returns-in-Ok-clause-time c =
    let a = c.args in
    let h = a.self.now in
    let n = length a.bytes.now in
    let (next, _, is) = c.in-Ok.ensures.ok in
    subst (λ (g : History). Elapses (length h.steps) (length g.steps) (since_of h) (since_of g) (images_of g)) (sym is)
    (elapses_next h (Written a.at n) next a.at n c.in-Ok.ensures.real)
