use Rattle.std.proofs.Common.{◌∙◌, ap, sym, subst, refl}
use Rattle.poly_model.specs.Systems.{Polyhedron}
use Rattle.run_ledger.specs.declared.stops.PrintStop.TheVariants.{BadLedger}
use Rattle.run_ledger.specs.Recorded.{IsNoReplyAt}
use Rattle.run_ledger.proofs.Errors.{came}
use Rattle.run_ledger.proofs.RepliesInOrder.{none_is_bad}
use Rattle.run_ledger.proofs.RunListings.{ends_whole, stops_in_end, stops_in_front, stops_in_rows}
use Rattle.run_ledger.proofs.printing.print_run.Goals as goal

-- ---- in the head
pub returns-in_err-listing-clause-listed : goal.returns-in_err-listing-clause-listed
returns-in_err-listing-clause-listed g c s replies payloads at text same lines =
    stops_in_front s replies c.args.run.now.poly.now c.args.run.now.lines.now same lines _ _ c.kind.ensures
    c.n-2.ensures.value _ _ c.from_residual.result c.from_residual.ensures.0 c.in_err-listing.ensures.prints.part

-- ---- in the rows
pub returns-in_err-listing-2-clause-listed : goal.returns-in_err-listing-2-clause-listed
returns-in_err-listing-2-clause-listed g c s replies payloads at text same lines =
    let n = ap (λ (q : Polyhedron). q.n) same ∙ sym c.n.ensures.value in
    stops_in_rows s replies c.args.run.now.poly.now c.args.run.now.lines.now same lines _ _ c.kind.ensures
    c.n-2.ensures.value _ _ c.in_ok-listing.ensures.prints.whole _ c.in_ok-listing.ensures.kind _
    c.from_residual-in_err-listing-2.result c.from_residual-in_err-listing-2.ensures.0
    (c.in_err-listing-2.ensures.rows s replies payloads at text n).part

pub returns-in_err-listing-2-clause-bad : goal.returns-in_err-listing-2-clause-bad
returns-in_err-listing-2-clause-bad g c place payloads e at =
    let r = c.from_residual-in_err-listing-2 in
    subst (λ m. IsNoReplyAt m payloads place) c.n.ensures.value
    (c.in_err-listing-2.ensures.bad place payloads
    (came r.result c.in_err-listing-2.field-0.0 (BadLedger place) r.ensures.1 e) at)

pub returns-in_err-listing-2-clause-never_bad : goal.returns-in_err-listing-2-clause-never_bad
returns-in_err-listing-2-clause-never_bad g c place s replies payloads e at text same =
    none_is_bad s replies payloads text place
    (subst (λ m. IsNoReplyAt m payloads place) (sym (ap (λ (q : Polyhedron). q.n) same))
    (returns-in_err-listing-2-clause-bad g c place payloads e at))

-- ---- at the end
pub returns-in_err-finish-clause-listed : goal.returns-in_err-finish-clause-listed
returns-in_err-finish-clause-listed g c s replies payloads at text same lines =
    let n = ap (λ (q : Polyhedron). q.n) same ∙ sym c.n.ensures.value in
    stops_in_end s replies c.args.run.now.poly.now c.args.run.now.lines.now same lines _ _ c.kind.ensures
    c.n-2.ensures.value _ _ c.in_ok-listing.ensures.prints.whole _ c.in_ok-listing.ensures.kind _ _
    (c.in_ok-listing-2.ensures.rows s replies payloads at text n).whole c.from_residual-in_err-finish.result
    c.from_residual-in_err-finish.ensures.0 c.in_err-finish.ensures.part

pub returns-clause-listed : goal.returns-clause-listed
returns-clause-listed g c s replies payloads at text same lines =
    let n = ap (λ (q : Polyhedron). q.n) same ∙ sym c.n.ensures.value in
    let rows = c.in_ok-listing-2.ensures.rows s replies payloads at text n in
    ends_whole s replies c.args.run.now.poly.now c.args.run.now.lines.now same lines _ _ c.kind.ensures
    c.n-2.ensures.value _ _ c.in_ok-listing.ensures.prints.whole _ c.in_ok-listing.ensures.kind _ _ rows.whole _ refl
    rows.count c.in_ok-finish.ensures.whole
