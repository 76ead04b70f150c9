use Rattle.std.proofs.Common.{◌∙◌, ◌++◌, List, ℕ, ap}
use Rattle.std.specs.Prelude.{codes}
use Rattle.job_text.proofs.fit.is_row.Goals as goal

pub returns-then-goes_on-clause-yes : goal.returns-then-goes_on-clause-yes
returns-then-goes_on-clause-yes c shown =
    let read = c.read_row.ensures.yes shown in
    (read.0, c.in-Some.ensures ∙ ap (λ (entries : List ℕ). codes "row" ++ entries) read.1)
