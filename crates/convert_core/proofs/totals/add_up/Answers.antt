use Rattle.std.specs.Result.{IsErrOf}
use Rattle.std.proofs.Common.{◌≡◌, inr, Err, refl, subst}
use Rattle.poly_model.specs.declared.overflow.Overflow.{Overflow as Passed}
use Rattle.convert_core.specs.declared.begin.SearchStop.{SearchStop}
use Rattle.convert_core.specs.Listed.{IsDueInSearch}
use Rattle.convert_core.proofs.Adding.{has_point, adds_up}
use Rattle.convert_core.proofs.totals.add_up.Goals as goal

pub returns-in-Ok-list_rows-clause-totals : goal.returns-in-Ok-list_rows-clause-totals
returns-in-Ok-list_rows-clause-totals g c =
    let search = c.args.search.now in
    let rows = c.in-Ok-list_rows.ensures.rows.whole in
    adds_up search.poly.now
    (has_point search.poly.now search.cone search.rays search.walker search.vector.items c.requires.search c.requires.at_root)
    c.args.lines.now c.requires.lines rows.0 rows.1 c.none.result.tally c.in-Ok-list_rows.shown.tally
    c.none.ensures.rows c.none.ensures.sum rows.2.counts _ refl refl refl

same_overflow : {T : Type 0} (a o : Passed) →
    IsErrOf {T = T} {E = SearchStop} (Err (SearchStop.Overflow a)) (SearchStop.Overflow o) → a ≡ o
same_overflow a o h = cc

pub returns-in-Err-Overflow-clause-overflow : goal.returns-in-Err-Overflow-clause-overflow
returns-in-Err-Overflow-clause-overflow g c o h =
    let search = c.args.search.now in
    let due = rw c.in-Err-Overflow.field-0-is at c.in-Err-Overflow.ensures.overflow in
    subst (λ (x : Passed). IsDueInSearch search.poly.now x) (same_overflow c.in-Err-Overflow.overflow o h)
    (inr (inr (search.walker.root, c.requires.at_root.search_root, due c.in-Err-Overflow.overflow refl)))
