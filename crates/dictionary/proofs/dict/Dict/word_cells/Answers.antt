use Rattle.std.proofs.Common.{◌∙◌, ap, subst}
use Rattle.std.proofs.lemmas.Option.{IfSome_then}
use Rattle.dictionary.specs.Views.{Dictionary, IsWhole}
use Rattle.dictionary.proofs.PositionLemmas.{are_cells}
use Rattle.dictionary.proofs.dict.Dict.word_cells.Goals as goal

pub returns : goal.returns
returns c =
    IfSome_then c.word_cells.result c.word_cells.ensures
    (λ cells e. are_cells c.args.self.now (subst (λ (d : Dictionary). IsWhole d) c.self.view_is c.self.invariant.2) cells
    (e ∙ ap (λ (d : Dictionary). d.cells) c.self.view_is))
