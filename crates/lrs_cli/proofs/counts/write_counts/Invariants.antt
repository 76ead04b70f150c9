use Rattle.std.proofs.Common.{drop}
use Rattle.poly_io.proofs.Parts.{Owes}
use Rattle.lrs_cli.specs.Counts.{counts_text}
use Rattle.lrs_cli.proofs.counts.write_counts.Given as goal

abbrev pub invariant-loop-count : goal.invariant-loop-count
invariant-loop-count g l =
    Owes g.S.Sink l.initial.out l.out (counts_text l.counts l.end) (counts_text (drop l.count-index l.counts) l.end)
