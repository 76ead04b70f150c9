use Rattle.std.proofs.Common.{◌≡◌, true, false, Err, refl, sym, ap, ◌∙◌}
use Rattle.row_printer.specs.declared.stop.ListStop.TheVariants as ListStop
use Rattle.plain_enum.proofs.NothingListed.{nothing_listed, passes_listed}
use Rattle.plain_enum.proofs.feasible_listing.print_if_feasible.Goals as goal

pub returns-in-Ok-false-clause-listed : goal.returns-in-Ok-false-clause-listed
returns-in-Ok-false-clause-listed g c p last file b same =
    nothing_listed p (g.S.Sink.written c.args.out.now) _ refl ListStop.Infeasible
    (λ e f.
    let found = (c.in-Ok-false.ensures.answer p last file b).1 f in
    absurd (let no : true ≡ false = sym found ∙ c.in-Ok-false.field-0-test in cc))
    (λ o e. absurd (cc))

pub returns-in-Err-clause-listed : goal.returns-in-Err-clause-listed
returns-in-Err-clause-listed g c p last file b same =
    nothing_listed p (g.S.Sink.written c.args.out.now) _ refl (ListStop.Overflow c.in-Err.overflow)
    (λ e. absurd (cc))
    (λ o e.
    let is : c.in-Err.overflow ≡ o = cc in
    c.in-Err.ensures.passes o (ap (λ x. Err x) is) p last file b)

pub returns-in-Err-Overflow-clause-listed : goal.returns-in-Err-Overflow-clause-listed
returns-in-Err-Overflow-clause-listed g c p last file b same =
    let written = rw c.in-Err-Overflow.field-0-is at c.in-Err-Overflow.ensures.written in
    let passes = rw c.in-Err-Overflow.field-0-is at c.in-Err-Overflow.ensures.passes in
    passes_listed p (g.S.Sink.written c.args.out.now) (g.S.Sink.written c.print.new.out) _
    c.in-Err-Overflow.overflow _ ((c.in-Ok-true.ensures.answer p last file b).0 c.in-Ok-true.field-0-test)
    (passes c.in-Err-Overflow.overflow refl p last file b) (written p last file b same)
