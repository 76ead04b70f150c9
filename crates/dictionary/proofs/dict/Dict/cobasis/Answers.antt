use Rattle.std.proofs.Common.{ℕ, List, ap, refl, subst, ◌∙◌}
use Rattle.std.specs.List.{Contains}
use Rattle.dictionary.specs.Views.{Dictionary, IsWhole}
use Rattle.dictionary.proofs.Numbers.{own_entry, other_entry}
use Rattle.dictionary.proofs.CobasisLemmas.{key_label}
use Rattle.dictionary.proofs.dict.Dict.cobasis.Goals as goal

pub returns-clause-labels : goal.returns-clause-labels
returns-clause-labels c k m =
    key_label c.args.self.now k (subst IsWhole c.self.view_is c.self.invariant.2)
    (subst (λ (ks : List ℕ). Contains ks k) (c.labels.ensures.value ∙ ap (λ (d : Dictionary). d.key) c.self.view_is) m)

pub returns-clause-units : goal.returns-clause-units
returns-clause-units c =
    let whole = subst (λ (d : Dictionary). IsWhole d) c.self.view_is c.self.invariant.2 in
    record {
      own = λ k m. own_entry c.args.self.now whole k k m refl;
      other = λ k s m i n. other_entry c.args.self.now whole k s i m n;
    }
