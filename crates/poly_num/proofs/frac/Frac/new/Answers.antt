use Rattle.std.proofs.Common.{◌≡◌, ◌<ℤ◌, pos, neg_ℤ, refl, ◌∙◌}
use Rattle.poly_num.specs.Fractions.{lowest}
use Rattle.poly_num.proofs.FractionLemmas.{ratio_of_lowest, ratio_of_turned, lowest-neg}
use Rattle.poly_num.proofs.frac.Frac.new.Goals as goal

pub returns-then-is_positive-clause-ratio : goal.returns-then-is_positive-clause-ratio
returns-then-is_positive-clause-ratio c =
    ratio_of_lowest c.reduced.result c.args.num c.args.den (c.if-is_positive.ensures.0 refl) c.reduced.ensures

pub returns-then-is_positive-2-clause-value : goal.returns-then-is_positive-2-clause-value
returns-then-is_positive-2-clause-value c =
    let turned : pos 0 <ℤ neg_ℤ c.args.den = rw c.neg.ensures at (c.if-is_positive-2.ensures.0 refl) in
    let is : c.reduced-then-is_positive-2.result ≡ lowest (neg_ℤ c.args.num) (neg_ℤ c.args.den) = cc in
    is ∙ lowest-neg c.args.num c.args.den turned

pub returns-then-is_positive-2-clause-ratio : goal.returns-then-is_positive-2-clause-ratio
returns-then-is_positive-2-clause-ratio c =
    let turned : pos 0 <ℤ neg_ℤ c.args.den = rw c.neg.ensures at (c.if-is_positive-2.ensures.0 refl) in
    let is : c.reduced-then-is_positive-2.result ≡ lowest (neg_ℤ c.args.num) (neg_ℤ c.args.den) = cc in
    ratio_of_turned c.reduced-then-is_positive-2.result c.args.num c.args.den turned is
