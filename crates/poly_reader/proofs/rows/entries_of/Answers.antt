use Rattle.std.proofs.Common.{ap, length, ◌∙◌}
use Rattle.poly_reader.proofs.ScalingLemmas.{length-scaled_entries}
use Rattle.poly_reader.proofs.rows.entries_of.Goals as goal

pub returns-in-Some-clause-full : goal.returns-in-Some-clause-full
returns-in-Some-clause-full c =
    let h = rw c.in-Some.is at c.in_ok-entries.ensures in
    ap length h.1 ∙ length-scaled_entries c.args.numbers.now
