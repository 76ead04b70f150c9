use Rattle.std.proofs.Common.{◌*ℤ◌, ◌∙◌, ℤ, rules, arith, ap, sym, subst}
use Rattle.poly_num.specs.Numbers.{IsNum}
use Rattle.columns.proofs.wide.scale_numbers.Goals as goal

pub returns-in-None : goal.returns-in-None
returns-in-None c = record {
  within = search rules;
  passes = λ num.
      c.in-None.ensures
      (subst IsNum
      (ap (λ (z : ℤ). z *ℤ c.args.factor) (sym (c.number_at.ensures ∙ c.cells.invariant.rest c.cells.k (omega arith))))
      num);
}
