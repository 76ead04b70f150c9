use Rattle.std.proofs.Common.{ℕ, refl, subst}
use Rattle.poly_model.specs.declared.overflow.Place.{Place}
use Rattle.poly_model.specs.Overflows.{IsPlace}
use Rattle.dictionary.specs.Views.{Dictionary, IsWhole, overflow_of}
use Rattle.dictionary.proofs.OverflowLemmas.{inner}
use Rattle.dictionary.proofs.dict.Dict.inner_products.Goals as goal

pub returns : goal.returns
returns c =
    let d = c.args.self.now in
    let other : (p : Place) (i : ℕ) → IsPlace p i c.column_label-other.result → IsPlace p i _ =
    λ p i at. subst (λ (k : ℕ). IsPlace p i k) c.column_label-other.ensures at in
    inner d c.args.row c.args.col (subst (λ (d : Dictionary). IsWhole d) c.self.view_is c.self.invariant.2)
    c.requires.inside
    (overflow_of d (record { a = c.place.result; b = c.place-2.result; c = c.place-3.result; d = c.place-4.result }))
    c.args.label c.args.column refl refl c.requires.label c.requires.other c.requires.column c.requires.apart
    c.place.ensures (other _ c.args.label c.place-2.ensures) c.place-3.ensures (other _ c.args.row c.place-4.ensures)
    c.requires.passes
