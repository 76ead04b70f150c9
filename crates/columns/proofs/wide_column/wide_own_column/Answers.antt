use Rattle.std.proofs.Common.{◌≡◌, refl, rules, arith, ◌<◌, ◌+◌, ◌*◌, ◌*ℤ◌, ◌∙◌, ap, ℕ, ℤ, pos, List, length, get_or}
use Rattle.poly_num.proofs.Ring.{mul_assoc}
use Rattle.columns.specs.Steps.{AreWideParts, IsNumerator}
use Rattle.columns.proofs.ColumnLemmas.{written_more, kept_more, own_is}
use Rattle.columns.proofs.PassingLemmas.{quotient_passes}
use Rattle.columns.proofs.wide_column.wide_own_column.Goals.{After-number_at}
use Rattle.columns.proofs.wide_column.wide_own_column.Goals as goal

-- the product with the divisor
product_is : (c : After-number_at) (cells : List ℤ) → AreWideParts cells c.args.parts.now → (q : ℤ) →
    q ≡ c.number_at.result *ℤ c.args.scale.now.factor →
    IsNumerator cells c.args.parts.now c.args.parts.now.x.now.column c.cells.i (q *ℤ c.args.scale.now.divisor)
product_is c cells are q e =
    let parts = c.args.parts.now in
    let x = parts.x.now in
    let own = c.number_at.result in
    let f = c.args.scale.now.factor in
    let g = c.args.scale.now.divisor in
    own_is cells parts x.column refl c.cells.i own (q *ℤ g) (λ _. c.number_at.ensures)
    (λ r. c.number_at.ensures ∙ ap (λ (k : ℕ). get_or parts.own.now k (pos 0)) r ∙ are.own.leaving)
    (ap (λ (z : ℤ). z *ℤ g) e ∙ mul_assoc own f g ∙ ap (λ (z : ℤ). own *ℤ z) c.requires.scale.whole)

pub cells-preserved : goal.cells-preserved
cells-preserved c =
    let parts = c.args.parts.now in
    let x = parts.x.now in
    let q = c.in-Some.q in
    let lt : x.column * x.height + c.cells.i < length c.cells.new = search rules in
    record {
      written = λ cells are.
          written_more cells parts x.column c.args.scale.now.divisor c.cells.i c.cells.new q _ lt refl
          (product_is (goal.at.cells-preserved c).After-number_at cells are q c.in-Some.ensures.1)
          (c.cells.invariant.written cells are);
      kept = kept_more _ c.args.new.now c.cells.new _ q (omega arith) c.cells.invariant.kept;
    }

pub returns-in-None-clause-written : goal.returns-in-None-clause-written
returns-in-None-clause-written c cells are =
    let parts = c.args.parts.now in
    let x = parts.x.now in
    let here : c.cells.i < x.height = search rules in
    quotient_passes cells parts parts.u are x.column c.cells.i (c.number_at.result *ℤ c.args.scale.now.factor)
    c.args.scale.now.divisor here c.requires.within c.requires.scale.positive
    (product_is (goal.at.returns-in-None-clause-written c).After-number_at cells are _ refl) c.in-None.ensures
