use Rattle.std.proofs.Common.{◌≡◌, ◌≤◌, take}
use Rattle.std.specs.Prelude.{count_by}
use Rattle.plain_text.specs.Cuts.{is_newline}
use Rattle.poly_reader.proofs.lines.newlines.Given as goal

-- the line feeds before b-index
abbrev pub invariant-text : goal.invariant-text
invariant-text l = record {
  value : l.count ≡ count_by is_newline (take l.b-index l.text);
  within : l.count ≤ l.b-index;
}
