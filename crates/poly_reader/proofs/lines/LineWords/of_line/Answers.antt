use Rattle.std.proofs.Common.{[], refl, sym, ◌∙◌}
use Rattle.std.proofs.lemmas.List.{take_rest}
use Rattle.poly_reader.proofs.WordsOn.{past_blanks_on, none_on}
use Rattle.poly_reader.proofs.lines.LineWords.of_line.Goals as goal

pub returns-in-Some : goal.returns-in-Some
returns-in-Some c = rw take_rest (past_blanks_on c.args.line c.args.bytes.now c.in-Some.start (sym c.in-Some.ensures))

pub returns-in-None : goal.returns-in-None
returns-in-None c =
    none_on c.args.line [] refl ∙ sym (none_on c.args.line c.args.bytes.now (sym c.in-None.ensures))
