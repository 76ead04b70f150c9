use Rattle.std.proofs.Common.{◌≡◌, Err, refl, sym, subst}
use Rattle.std.specs.Result.{IsErrOf}
use Rattle.poly_model.specs.declared.overflow.Overflow.{Overflow}
use Rattle.plain_enum.specs.declared.answers.PlainStop.{PlainStop}
use Rattle.dictionary.specs.Views.{Dictionary}
use Rattle.plain_enum.specs.Begin.{IsBegun}
use Rattle.plain_enum.specs.Plain.{PassesInCone}
use Rattle.plain_enum.proofs.ListingParts.{nothing_written}
use Rattle.plain_enum.proofs.plain.list_plain.Goals as goal

same_overflow : {T : Type 0} (x o : Overflow) →
    IsErrOf {T = T} {E = PlainStop} (Err (PlainStop.Overflow x)) (PlainStop.Overflow o) → x ≡ o
same_overflow x o h = cc

pub returns-in-Err-Overflow-clause-written : goal.returns-in-Err-Overflow-clause-written
returns-in-Err-Overflow-clause-written g c p file = nothing_written p (g.S.Sink.written c.args.out.now) _ refl

pub returns-in-Err-Memory-clause-written : goal.returns-in-Err-Memory-clause-written
returns-in-Err-Memory-clause-written g c p file = nothing_written p (g.S.Sink.written c.args.out.now) _ refl

pub returns-in_default-clause-written : goal.returns-in_default-clause-written
returns-in_default-clause-written g c p file = nothing_written p (g.S.Sink.written c.args.out.now) _ refl

pub returns-in-Err-Overflow-clause-overflow : goal.returns-in-Err-Overflow-clause-overflow
returns-in-Err-Overflow-clause-overflow g c o e p file =
    let found = (rw c.in-Err-Overflow.field-0-is at c.in-Err-Overflow.ensures.overflow) c.in-Err-Overflow.overflow refl
    p file in
    let same : c.in-Err-Overflow.overflow ≡ o = cc in
    subst (λ (x : Overflow). PassesInCone p x) same found

pub returns-in-Err-Overflow-print-clause-overflow : goal.returns-in-Err-Overflow-print-clause-overflow
returns-in-Err-Overflow-print-clause-overflow g c o e p file =
    let passes = rw c.in-Err-Overflow-print.field-0-is at c.in-Err-Overflow-print.ensures.passes in
    let begun = c.in-Ok.begun in
    let found = passes c.in-Err-Overflow-print.overflow refl p begun.last.value file
    (subst (λ (d : Dictionary). IsBegun p d begun.last.value begun.free) (sym c.deref-2.ensures)
    (c.in-Ok.ensures.begun p file)) in
    subst (λ (x : Overflow). PassesInCone p x) (same_overflow c.in-Err-Overflow-print.overflow o e) found
