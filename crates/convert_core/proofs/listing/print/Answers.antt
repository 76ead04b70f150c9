use Rattle.std.specs.Result.{IsErrOf}
use Rattle.std.proofs.Common.{◌≡◌, List, ℕ, Err, refl, subst}
use Rattle.std.specs.Io.KnownBytes.{Appends}
use Rattle.poly_model.specs.declared.overflow.Overflow.{Overflow as Passed}
use Rattle.poly_model.specs.Due.{IsDue, IsAskedInMain}
use Rattle.poly_io.specs.Written.{AppendsPart}
use Rattle.listing_laws.proofs.Completions.{some_extremes}
use Rattle.listing_laws.proofs.ListingLemmas.{are_extreme}
use Rattle.row_printer.proofs.ListingParts.{same_before, stops_in_head, stops_in_rows, stops_in_end, ends_whole}
use Rattle.row_printer.specs.declared.stop.ListStop.{ListStop}
use Rattle.convert_core.proofs.Searching.{steps_at_start}
use Rattle.convert_core.proofs.listing.print.Goals as goal

-- ---- in the head
pub returns-in-Err-clause-listed : goal.returns-in-Err-clause-listed
returns-in-Err-clause-listed g c =
    let p = c.args.search.now.poly.now in
    let (all, l) = some_extremes p in
    stops_in_head p c.args.lines.now c.requires.lines (g.S.Sink.written c.args.out.now) (g.S.Sink.written c.begin.new.out) _
    refl all (are_extreme _ all l)
    (subst (λ (t : List ℕ). AppendsPart (g.S.Sink.written c.args.out.now) (g.S.Sink.written c.begin.new.out) t)
    (same_before p c.args.lines.now c.requires.lines c.kind.result c.n.result c.kind.ensures c.n.ensures.value)
    c.in-Err.ensures.prints.part)

pub returns-in-Err-clause-cost : goal.returns-in-Err-clause-cost
returns-in-Err-clause-cost g c =
    let search = c.args.search.now in
    steps_at_start search.poly.now search.cone search.rays search.walker search.vector.items c.args.steps.now
    c.requires.search c.requires.at_root

-- ---- in the rows
pub returns-in-Err-Overflow-clause-listed : goal.returns-in-Err-Overflow-clause-listed
returns-in-Err-Overflow-clause-listed g c =
    let p = c.args.search.now.poly.now in
    let rows = (rw c.in-Err-Overflow.field-0-is at c.in-Err-Overflow.ensures.rows).part in
    stops_in_rows p c.args.lines.now c.requires.lines (g.S.Sink.written c.args.out.now) (g.S.Sink.written c.begin.new.out)
    (g.S.Sink.written c.list_rows.new.out) _ refl
    (subst (λ (t : List ℕ). Appends (g.S.Sink.written c.args.out.now) (g.S.Sink.written c.begin.new.out) t)
    (same_before p c.args.lines.now c.requires.lines c.kind.result c.n.result c.kind.ensures c.n.ensures.value)
    c.in-Ok.ensures.prints.whole) rows.0 rows.1 rows.2 rows.3

same_overflow : {T : Type 0} (a o : Passed) → IsErrOf {T = T} {E = ListStop} (Err (ListStop.Overflow a)) (ListStop.Overflow o) →
    a ≡ o
same_overflow a o h = cc

pub returns-in-Err-Overflow-clause-overflow : goal.returns-in-Err-Overflow-clause-overflow
returns-in-Err-Overflow-clause-overflow g c o h =
    let search = c.args.search.now in
    let due = rw c.in-Err-Overflow.field-0-is at c.in-Err-Overflow.ensures.overflow in
    subst (λ (x : Passed). IsDue search.poly.now x (IsAskedInMain search.poly.now search.walker.root x))
    (same_overflow c.in-Err-Overflow.overflow o h) (due c.in-Err-Overflow.overflow refl)

pub returns-in-Err-WriteFault-clause-listed : goal.returns-in-Err-WriteFault-clause-listed
returns-in-Err-WriteFault-clause-listed g c =
    let p = c.args.search.now.poly.now in
    let rows = (rw c.in-Err-WriteFault.field-0-is at c.in-Err-WriteFault.ensures.rows).part in
    stops_in_rows p c.args.lines.now c.requires.lines (g.S.Sink.written c.args.out.now) (g.S.Sink.written c.begin.new.out)
    (g.S.Sink.written c.list_rows.new.out) _ refl
    (subst (λ (t : List ℕ). Appends (g.S.Sink.written c.args.out.now) (g.S.Sink.written c.begin.new.out) t)
    (same_before p c.args.lines.now c.requires.lines c.kind.result c.n.result c.kind.ensures c.n.ensures.value)
    c.in-Ok.ensures.prints.whole) rows.0 rows.1 rows.2 rows.3

-- ---- at the end
pub returns-in-Ok-finish-clause-listed : goal.returns-in-Ok-finish-clause-listed
returns-in-Ok-finish-clause-listed g c =
    let p = c.args.search.now.poly.now in
    let rows = c.in-Ok-list_rows.ensures.rows.whole in
    let mid = g.S.Sink.written c.begin.new.out in
    let then = g.S.Sink.written c.list_rows.new.out in
    ends_whole p c.args.lines.now c.requires.lines (g.S.Sink.written c.args.out.now) mid then
    (g.S.Sink.written c.finish.new.out) _ refl
    (subst (λ (t : List ℕ). Appends (g.S.Sink.written c.args.out.now) mid t)
    (same_before p c.args.lines.now c.requires.lines c.kind.result c.n.result c.kind.ensures c.n.ensures.value)
    c.in-Ok.ensures.prints.whole) rows.0 rows.1 c.none.result.tally c.in-Ok-list_rows.shown.tally c.none.ensures.rows refl
    rows.2 c.in-Ok-finish.ensures.whole

pub returns-in-Err-finish-clause-listed : goal.returns-in-Err-finish-clause-listed
returns-in-Err-finish-clause-listed g c =
    let p = c.args.search.now.poly.now in
    let rows = c.in-Ok-list_rows.ensures.rows.whole in
    stops_in_end p c.args.lines.now c.requires.lines (g.S.Sink.written c.args.out.now) (g.S.Sink.written c.begin.new.out)
    (g.S.Sink.written c.list_rows.new.out) (g.S.Sink.written c.finish.new.out) _ refl
    (subst (λ (t : List ℕ). Appends (g.S.Sink.written c.args.out.now) (g.S.Sink.written c.begin.new.out) t)
    (same_before p c.args.lines.now c.requires.lines c.kind.result c.n.result c.kind.ensures c.n.ensures.value)
    c.in-Ok.ensures.prints.whole) rows.0 rows.1 rows.2.bytes c.in-Err-finish.ensures.part
