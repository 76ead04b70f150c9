use Rattle.std.proofs.Common.{◌≡◌, ◌-◌, ◌≤◌, map}
use Rattle.std.specs.List.{range_with_len}
use Rattle.std.specs.Vec.{vec_len}
use Rattle.poly_model.specs.Labels.{coordinate_label}
use Rattle.dictionary.proofs.new.coordinate_labels.Given as goal

abbrev pub invariant-loop-j : goal.invariant-loop-j
invariant-loop-j l = record {
  labels : l.labels.items ≡ map coordinate_label (range_with_len l.first (l.j - l.first));
  count : vec_len l.labels ≤ l.j;
  from_first : l.first ≤ l.j;
  to_end : l.j ≤ l.n;
}
