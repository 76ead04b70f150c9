use Rattle.std.proofs.Common.{refl, subst}
use Rattle.dictionary.specs.Views.{Dictionary, IsWhole, overflow_of}
use Rattle.dictionary.proofs.OverflowLemmas.{outer}
use Rattle.dictionary.proofs.dict.Dict.outer_products.Goals as goal

pub returns : goal.returns
returns c r =
    let d = c.args.self.now in
    outer d r c.args.col (subst (λ (d : Dictionary). IsWhole d) c.self.view_is c.self.invariant.2) c.requires.column
    (overflow_of d (record { a = c.place.result; b = c.place-2.result; c = c.place-3.result; d = c.place-4.result }))
    c.args.label refl refl c.requires.label c.place.ensures c.place-2.ensures c.place-3.ensures c.place-4.ensures
    c.requires.passes
