use Rattle.std.proofs.Common.{◌≡◌, ◌≢◌, ◌∙◌, ℤ, pos, arith, sym, subst, ⊎_elim}
use Rattle.std.specs.Prelude.{◌<ℤ◌}
use Rattle.std.proofs.lemmas.Bool.{eqb-true, eq-eqb, cases_eq}
use Rattle.std.proofs.lemmas.Int.{ints}
use Rattle.dictionary.specs.declared.positions.Position.{Position}
use Rattle.dictionary.specs.Views.{Dictionary, IsWhole}
use Rattle.dictionary.specs.Positions.{IsPosition}
use Rattle.dictionary.proofs.PositionLemmas.{number_in_own, number_in_other}
use Rattle.dictionary.proofs.dict.Dict.is_nonzero.Goals as goal

-- a label of the cobasis is the denominator in its own column, and 0 in the others
pub returns-in-Column : goal.returns-in-Column
returns-in-Column c =
    let now = c.args.self.now in
    let whole = subst (λ (d : Dictionary). IsWhole d) c.self.view_is c.self.invariant.2 in
    let label = c.args.label in
    let own = c.in-Column.own in
    let j = c.args.j in
    let at = subst (λ (p : Position). IsPosition now label p) c.in-Column.is c.position.ensures in (
      λ t z.
          let same = number_in_own now whole label own j at (sym (eqb-true own j t)) in
          let positive = subst (λ (n : ℤ). pos 0 <ℤ n) (sym same ∙ z) whole.positive in
          absurd (omega (arith, ints, positive)),
      λ n. ⊎_elim (λ (e : own ≡ j). eq-eqb own j e)
          (λ (m : own ≢ j). absurd (n (number_in_other now whole label own j at (λ e. m (sym e)))))
          (cases_eq own j),
    )
