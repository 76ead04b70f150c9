use Rattle.std.proofs.Common.{◌≡◌, ◌*◌, ℕ, sym, subst}
use Rattle.columns.specs.Steps.{IsColumnWritten, AreKept}
use Rattle.columns.proofs.ColumnLemmas.{done_same, done_kept}
use Rattle.columns.proofs.OverLemmas.{reached_kept}
use Rattle.columns.proofs.PassingLemmas.{answered_more}
use Rattle.columns.proofs.wide.wide_column.Goals as goal

pub returns-then-column-parts-clause-done : goal.returns-then-column-parts-clause-done
returns-then-column-parts-clause-done c =
    let old = c.args.old.now in
    let parts = c.args.parts.now in
    let x = parts.x.now in
    let own = c.wide_own_column in
    let g = c.args.scale.now.divisor in
    let e : x.column ≡ c.args.column = sym c.if-column-parts.true in
    answered_more own.result
    (λ _ w.
    done_same old parts c.args.column g c.args.new.now own.new.new c.requires.reached.scale.positive
    (subst (λ (j : ℕ). AreKept (j * x.height) c.args.new.now own.new.new) e own.ensures.kept)
    (subst (λ (j : ℕ). IsColumnWritten old parts j x.height g own.new.new) e (w old c.requires.reached.from_parts)))
    (λ _ p. p old c.requires.reached.from_parts) own.ensures.written

pub returns-then-stays-clause-done : goal.returns-then-stays-clause-done
returns-then-stays-clause-done c =
    done_same c.args.old.now c.args.parts.now c.args.column c.args.scale.now.divisor c.args.new.now c.same_column.new.new
    c.requires.reached.scale.positive c.same_column.ensures.kept c.same_column.ensures.written

pub returns-then-exact_column-parts-clause-done : goal.returns-then-exact_column-parts-clause-done
returns-then-exact_column-parts-clause-done c =
    let old = c.args.old.now in
    let parts = c.args.parts.now in
    let j = c.args.column in
    let g = c.args.scale.now.divisor in
    let new = c.exact_column.new.new in
    done_same old parts j g c.args.new.now new c.requires.reached.scale.positive c.exact_column.ensures.kept
    (subst (λ (n : ℕ). IsColumnWritten old parts j n g new) c.if-exact_column-parts.true c.exact_column.ensures.written)

pub column_over_left-requires-clause-reached : goal.column_over_left-requires-clause-reached
column_over_left-requires-clause-reached c =
    let scale = c.args.scale.now in
    reached_kept c.args.old.now c.args.parts.now c.args.column scale.divisor scale.factor c.args.new.now
    c.exact_column.new.new c.exact_column.ensures.kept c.requires.reached

pub returns-clause-done : goal.returns-clause-done
returns-clause-done c =
    let scale = c.column_over_left.new.scale in
    answered_more c.column_over_left.result
    (λ _ d.
    done_kept c.args.old.now c.args.parts.now c.args.column c.args.scale.now.divisor scale.divisor c.args.new.now
    c.exact_column.new.new c.column_over_left.new.new c.exact_column.ensures.kept d)
    (λ _ p. p) c.column_over_left.ensures.done
