use Rattle.std.proofs.Common.{sym, ap, Option, ℕ}
use Rattle.std.specs.Prelude.{option_map}
use Rattle.std.proofs.lemmas.List.{take_rest}
use Rattle.plain_text.specs.Digits.{capped}
use Rattle.poly_reader.proofs.CappedValues.{denominator_some, denominator_none}
use Rattle.poly_reader.proofs.number.long_parts.Goals as goal

pub returns-in-Some-clause-below : goal.returns-in-Some-clause-below
returns-in-Some-clause-below c =
    rw (c.count-in-Some.ensures, take_rest)
    (ap (λ (o : Option ℕ). option_map capped o) (denominator_some c.args.word.now c.in-Some.at (sym c.in-Some.ensures)))

pub returns-in-None-clause-below : goal.returns-in-None-clause-below
returns-in-None-clause-below c =
    ap (λ (o : Option ℕ). option_map capped o) (denominator_none c.args.word.now (sym c.in-None.ensures))
