use Rattle.std.proofs.Common.{ℤ, sym, subst}
use Rattle.poly_num.specs.Divisors.{IsGcdOf}
use Rattle.columns.proofs.DivisorLemmas.{positive_gcd}
use Rattle.columns.proofs.multiplier.less_divisor.Goals.{After-common_with-common}
use Rattle.columns.proofs.multiplier.less_divisor.Goals as goal

-- what is common to the divisor and the number
common : (c : After-common_with-common) → IsGcdOf c.args.divisor.now c.args.n c.common_with-common.result
common c =
    subst (λ (g : ℤ). IsGcdOf g c.args.n c.common_with-common.result) c.number.ensures.value c.common_with-common.ensures

pub new-requires : goal.new-requires
new-requires c =
    positive_gcd c.args.divisor.now c.args.n c.common_with-common.result c.number.ensures.positive
    (common (goal.at.new-requires c).After-common_with-common)

pub returns : goal.returns
returns c =
    subst (λ (g : ℤ). IsGcdOf c.args.divisor.now c.args.n g) (sym c.new.ensures)
    (common (goal.at.returns c).After-common_with-common)
