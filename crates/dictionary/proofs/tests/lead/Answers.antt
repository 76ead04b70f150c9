use Rattle.std.proofs.Common.{ℕ, List, subst, sym}
use Rattle.std.specs.List.{All, Contains}
use Rattle.dictionary.proofs.KeptNumbers.{all_of}
use Rattle.dictionary.proofs.tests.lead.Goals as goal

pub lead-requires-clause-labels : goal.lead-requires-clause-labels
lead-requires-clause-labels c =
    let labels = c.args.dict.now.labels in
    subst (λ (ks : List ℕ). All (λ l. Contains labels l) ks) (sym c.labels.ensures.value)
    (all_of (λ (l : ℕ). Contains labels l) labels (λ k m. m))
