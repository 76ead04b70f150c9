use Rattle.std.proofs.Common.{◌≡◌}
use Rattle.poly_num.specs.Vectors.{Vector}
use Rattle.linear_laws.specs.FreeColumns.{IsLineOf}
use Rattle.linear_laws.proofs.LineLemmas.{some_line, one_line}
use Rattle.linear_laws.proofs.line_is_one.Goals as goal

pub returns : goal.returns
returns c n rows j f = by (some_line n rows j f)
  where
    by : (y : Vector) × IsLineOf n rows j y →
        (y : Vector) × IsLineOf n rows j y × ((z : Vector) → IsLineOf n rows j z → z ≡ y)
    by (y, l) = (y, l, λ z k. one_line n rows j y z l k)
