use Rattle.std.proofs.Common.{sym, ◌∙◌, subst}
use Rattle.std.proofs.lemmas.Bool.{false≢true}
use Rattle.dictionary.specs.Views.{Dictionary, IsWhole}
use Rattle.dictionary.proofs.dict.Dict.has_label.Goals as goal

pub returns-then-in_cobasis : goal.returns-then-in_cobasis
returns-then-in_cobasis c =
    let whole = subst (λ (d : Dictionary). IsWhole d) c.self.view_is c.self.invariant.2 in
    let label = c.args.label in (
      λ t. whole.inside label (whole.same.there label (c.in_cobasis.ensures.0 t)),
      λ m. c.if-in_cobasis.true,
    )

pub returns-else-in_cobasis : goal.returns-else-in_cobasis
returns-else-in_cobasis c =
    let whole = subst (λ (d : Dictionary). IsWhole d) c.self.view_is c.self.invariant.2 in
    let label = c.args.label in (
      λ t. (whole.row_back label (c.has_row.ensures.0 t)).0,
      λ m. c.has_row.ensures.1
          (whole.row_there label m
          (λ k. false≢true (sym c.if-in_cobasis.false ∙ c.in_cobasis.ensures.1 (whole.same.back label k)))),
    )
