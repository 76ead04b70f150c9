use Rattle.std.proofs.Common.{◌∙◌, sym, arith}
use Rattle.plain_text.proofs.ReadLemmas.{none_read, read_at}
use Rattle.plain_text.proofs.NumberLemmas.{decimal_tells}
use Rattle.job_text.proofs.labels.read_row.Goals as goal

pub returns-then-row-eq0 : goal.returns-then-row-eq0
returns-then-row-eq0 c =
    let k = read_at c.in_ok-row.was c.read_count.ensures in
    none_read (λ l may is.
    let same = decimal_tells c.in_ok-row.row l (omega (arith, k.0)) (omega (arith, may.1)) (sym k.1 ∙ is) in
    omega (arith, same, may.0, c.if-row-eq0.true))

pub returns-then-row-ge-EACH_KIND : goal.returns-then-row-ge-EACH_KIND
returns-then-row-ge-EACH_KIND c =
    let k = read_at c.in_ok-row.was c.read_count.ensures in
    none_read (λ l may is.
    let same = decimal_tells c.in_ok-row.row l (omega (arith, k.0)) (omega (arith, may.1)) (sym k.1 ∙ is) in
    omega (arith, same, may.1, c.if-row-ge-EACH_KIND.true))
