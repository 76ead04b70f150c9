use Rattle.std.proofs.lemmas.Result.{err_from_is_err_and}
use Rattle.poly_reader.proofs.HeadLemmas.{ends, begun, fails, goes_on}
use Rattle.poly_reader.proofs.head.head_of.Goals as goal

pub returns-in-None : goal.returns-in-None
returns-in-None c = rw c.bad.ensures (ends c.args.last c.lines.kind c.lines.lines _ c.in-None.ensures c.lines.invariant)

pub returns-in_err-rest : goal.returns-in_err-rest
returns-in_err-rest c =
    let p = err_from_is_err_and c.from_residual.result c.from_residual.ensures.1 in
    rw (p.1, p.2)
    (fails c.args.last c.in_err-rest.field-0.0 c.lines.kind c.lines.lines _ c.in-Some.next.1 c.in-Some.next.0
    c.in-Some.ensures c.in_err-rest.ensures.0 c.in_err-rest.ensures.1 c.lines.invariant)

pub returns-in-Begin : goal.returns-in-Begin
returns-in-Begin c =
    let read = rw c.in-Begin.is at c.in_ok-rest.ensures in
    rw (c.new-words.ensures, read.1)
    (begun c.args.last c.lines.kind c.lines.lines _ c.in-Some.next.1 c.in-Some.next.0 c.in-Some.ensures read.0
    c.lines.invariant)

pub lines-preserved : goal.lines-preserved
lines-preserved c =
    let read = rw c.in-Other.is at c.in_ok-rest.ensures in
    rw read.2
    (goes_on c.lines.kind c.lines.lines _ c.in-Some.next.1 c.in-Some.next.0 _ c.in-Some.ensures read.0 read.1
    c.lines.invariant)
