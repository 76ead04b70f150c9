use Rattle.std.proofs.Common.{◌≡◌, ◌∙◌, ℕ, Some, refl, sym, ap, arith}
use Rattle.plain_text.specs.Digits.{capped}
use Rattle.plain_text.proofs.NumberLemmas.{decimal_of_zero, decimal_of_count}
use Rattle.plain_text.proofs.numbers.read_decimal.Goals as goal

pub returns-then-leads_with_zero : goal.returns-then-leads_with_zero
returns-then-leads_with_zero c =
    rw (decimal_of_zero c.args.word.now (sym c.leads_with_zero.ensures ∙ c.if-leads_with_zero.true)) refl

pub returns-in-Some : goal.returns-in-Some
returns-in-Some c =
    let small : c.in-Some.value ≡ capped c.in-Some.value = omega arith in
    rw (decimal_of_count c.args.word.now (sym c.leads_with_zero.ensures ∙ c.if-leads_with_zero.false), c.in-Some.ensures)
    (ap (λ (n : ℕ). Some n) small)

pub returns-in-None : goal.returns-in-None
returns-in-None c =
    rw (decimal_of_count c.args.word.now (sym c.leads_with_zero.ensures ∙ c.if-leads_with_zero.false)) c.count.ensures
