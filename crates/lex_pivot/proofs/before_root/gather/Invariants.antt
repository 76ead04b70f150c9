use Rattle.std.proofs.Common.{◌≡◌, ◌≤◌, take, length}
use Rattle.std.specs.List.{filter}
use Rattle.lex_pivot.specs.Earlier.{is_before_root}
use Rattle.lex_pivot.proofs.before_root.gather.Given as goal

abbrev pub invariant-labels : goal.invariant-labels
invariant-labels l = record {
  gathered : take l.len l.room ≡ filter (is_before_root l.order) (take l.label-index l.labels);
  few : l.len ≤ l.label-index;
  room : length l.room ≡ length l.fn.room;
}
