use Rattle.std.proofs.Common.{refl}
use Rattle.std.proofs.lemmas.List.Splits.{length-slice_split}
use Rattle.plain_text.specs.Cuts.{is_newline}
use Rattle.poly_reader.proofs.lines.last_line_of.Goals as goal

pub returns : goal.returns
returns c = rw (length-slice_split is_newline c.args.text.now, ← c.newlines.ensures.count) refl
