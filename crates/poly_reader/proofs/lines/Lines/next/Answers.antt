use Rattle.std.proofs.Common.{sym, ◌∙◌, ap}
use Rattle.std.proofs.lemmas.List.{take_rest}
use Rattle.poly_reader.specs.Lines.{lines_left}
use Rattle.poly_reader.proofs.FirstLine.{first_line, only_line}
use Rattle.poly_reader.proofs.lines.Lines.next.Goals as goal

pub returns-in-Some : goal.returns-in-Some
returns-in-Some c =
    rw c.of_line.ensures
    (sym c.self.view_is ∙ ap (lines_left c.self.inside.line) c.in_ok-text.was ∙ rw take_rest
    (first_line c.self.inside.line c.in_ok-text.text.now c.in-Some.end (sym c.in-Some.ensures)))

pub returns-in-None : goal.returns-in-None
returns-in-None c =
    rw c.of_line-in-None.ensures
    (sym c.self.view_is ∙ ap (lines_left c.self.inside.line) c.in_ok-text.was
    ∙ only_line c.self.inside.line c.in_ok-text.text.now (sym c.in-None.ensures))
