use Rattle.std.proofs.Common.{◌≡◌, List, ℕ, Some, refl, sym, ap, ◌∙◌, inl, arith, Option}
use Rattle.std.specs.Prelude.{option_map, codes}
use Rattle.std.proofs.lemmas.Option.{none-some}
use Rattle.plain_text.specs.Cuts.{Lacks}
use Rattle.plain_text.specs.Digits.{capped, decimal_of}
use Rattle.plain_text.proofs.CutLemmas.{lacks_append, lacks_tested}
use Rattle.plain_text.proofs.ReadLemmas.{line_is, no_line}
use Rattle.plain_text.proofs.NumberLemmas.{digits_have_none}
use Rattle.job_text.specs.Jobs.{input_line}
use Rattle.job_text.proofs.JobLineLemmas.{same_behind}
use Rattle.job_text.proofs.lines.size_behind.Goals as goal

input_lacks : (digits : List ℕ) (size : ℕ) → decimal_of digits ≡ Some size → Lacks 10 (input_line digits)
input_lacks digits size says =
    lacks_append 10 (codes "input ") digits (lacks_tested 10 (codes "input ") refl)
    (digits_have_none 10 size digits says (inl (omega arith)))

pub returns-in_err-line-clause-none : goal.returns-in_err-line-clause-none
returns-in_err-line-clause-none c _ digits rest size says is =
    no_line c.args.text.now (input_line digits) rest c.in_err-line.ensures is

pub returns-in_err-digits-clause-none : goal.returns-in_err-digits-clause-none
returns-in_err-digits-clause-none c _ digits rest size says is =
    c.in_err-digits.ensures digits (line_is (input_line digits) rest c.in_ok-line.ensures (input_lacks digits size says) is).0

pub returns-in_err-size-clause-none : goal.returns-in_err-size-clause-none
returns-in_err-size-clause-none c _ digits rest size says is =
    let same = same_behind (codes "input ") c.in_ok-digits.digits.now digits (sym c.in_ok-digits.ensures
    ∙ (line_is (input_line digits) rest c.in_ok-line.ensures (input_lacks digits size says) is).0) in
    let read : decimal_of c.in_ok-digits.digits.now ≡ Some size = ap (λ (l : List ℕ). decimal_of l) same ∙ says in
    none-some (capped size)
    (sym c.in_err-size.was ∙ c.read_decimal.ensures ∙ ap (λ (o : Option ℕ). option_map capped o) read)
