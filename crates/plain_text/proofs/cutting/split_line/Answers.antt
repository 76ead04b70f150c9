use Rattle.std.proofs.Common.{sym}
use Rattle.std.proofs.lemmas.List.{take_rest}
use Rattle.plain_text.proofs.CutLemmas.{cuts_line, lacks_all}
use Rattle.plain_text.proofs.cutting.split_line.Goals as goal

pub returns-in-Some : goal.returns-in-Some
returns-in-Some c = rw take_rest (cuts_line c.args.text.now c.in-Some.at (sym c.in-Some.ensures))

pub returns-in-None : goal.returns-in-None
returns-in-None c = lacks_all 10 c.args.text.now (sym c.in-None.ensures)
