use Rattle.std.proofs.Common.{subst}
use Rattle.poly_num.specs.Fractions.{IsReduced}
use Rattle.poly_num.proofs.Order.{positive_nonzero}
use Rattle.poly_num.proofs.FractionLemmas.{lowest_reduced, lowest_from_quotients, divisor_of_positive}
use Rattle.poly_num.proofs.frac.reduced.Goals as goal
use Rattle.std.proofs.Common.{sym}

pub quotient-requires : goal.quotient-requires
quotient-requires c = divisor_of_positive c.args.num c.args.den c.gcd-g.result c.requires c.gcd-g.ensures.value

pub quotient-requires-2 : goal.quotient-requires-2
quotient-requires-2 c = divisor_of_positive c.args.num c.args.den c.gcd-g.result c.requires c.gcd-g.ensures.value

pub returns : goal.returns
returns c =
    lowest_from_quotients c.args.num c.args.den c.quotient.result c.quotient-2.result c.gcd-g.result
    c.requires c.gcd-g.ensures.value c.quotient.ensures c.quotient-2.ensures

pub invariant_of-result : goal.invariant_of-result
invariant_of-result c =
    subst IsReduced
    (sym (lowest_from_quotients c.args.num c.args.den c.quotient.result c.quotient-2.result c.gcd-g.result
    c.requires c.gcd-g.ensures.value c.quotient.ensures c.quotient-2.ensures))
    (lowest_reduced c.args.num c.args.den (positive_nonzero c.args.den c.requires))
