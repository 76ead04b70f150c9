use Rattle.std.proofs.Common.{◌∙◌, ap, subst}
use Rattle.dictionary.specs.Views.{Dictionary, IsWhole}
use Rattle.dictionary.proofs.CobasisLemmas.{rows_outside}
use Rattle.dictionary.proofs.dict.Dict.rows.Goals as goal

pub returns-clause-outside : goal.returns-clause-outside
returns-clause-outside c =
    rows_outside c.args.self.now c.deref.result.now
    (subst (λ (d : Dictionary). IsWhole d) c.self.view_is c.self.invariant.2)
    (c.deref.ensures.value ∙ ap (λ (d : Dictionary). d.rows) c.self.view_is)
