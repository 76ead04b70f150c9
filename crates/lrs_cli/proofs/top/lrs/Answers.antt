use Rattle.std.proofs.Common.{map, List, ℕ, Bor, Err, ap, refl}
use Rattle.command_line.proofs.InRange.{in_range}
use Rattle.lrs_cli.proofs.LineLemmas.{words_line, words_memory, words_usage}
use Rattle.lrs_cli.proofs.top.lrs.Goals as goal

pub answer_line-requires : goal.answer_line-requires
answer_line-requires g c =
    record { range = in_range (map (λ (w : Bor (List ℕ)). w.now) c.args.words.now) c.in-Ok.line c.in-Ok.ensures.line }

pub returns-in-Ok : goal.returns-in-Ok
returns-in-Ok g c =
    words_line g.D.Disk g.W.Workers _ _ _ _ _ _ _ (map (λ (w : Bor (List ℕ)). w.now) c.args.words.now) c.in-Ok.line c.in-Ok.ensures.line
    c.answer_line.ensures.line c.answer_line.ensures.taken c.answer_line.ensures.answers

pub returns-in-Err-Usage : goal.returns-in-Err-Usage
returns-in-Err-Usage g c =
    let stop = c.in-Err-Usage in
    words_usage g.D.Disk g.W.Workers g.met.D.Disk.only_now _ _ _ _ refl refl (map (λ (w : Bor (List ℕ)). w.now) c.args.words.now)
    (stop.ensures.usage (ap Err stop.field-0-is))

pub returns-in-Err-Memory : goal.returns-in-Err-Memory
returns-in-Err-Memory g c =
    words_memory g.D.Disk g.W.Workers g.met.D.Disk.only_now _ _ _ _ refl refl (map (λ (w : Bor (List ℕ)). w.now) c.args.words.now)
