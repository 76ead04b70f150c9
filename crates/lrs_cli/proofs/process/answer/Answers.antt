use Rattle.std.proofs.Common.{drop, map, refl, string_bytes}
use Rattle.lrs_cli.proofs.LineLemmas.{words_memory}
use Rattle.lrs_cli.proofs.process.answer.Goals as goal

pub returns-in-Ok : goal.returns-in-Ok
returns-in-Ok g c =
    rw c.in-Ok.is
    (words_memory g.D.Disk g.W.Workers g.met.D.Disk.only_now _ _ _ _ refl refl (map string_bytes (drop 1 c.in-Ok.given.items)))
