use Rattle.std.proofs.Common.{◌≡◌, ◌≤◌, ◌-◌, length}
use Rattle.std.specs.Io.KnownBytes.{Consumes}
use Rattle.poly_io.proofs.front.read_front.Given as goal

abbrev pub invariant-pieces : goal.invariant-pieces
invariant-pieces g l = record {
  taken : Consumes (g.S.Source.left l.initial.source) (g.S.Source.left l.source) l.all.items;
  within : length l.all.items ≤ l.most;
  same : g.S.Source.faults l.source ≡ g.S.Source.faults l.initial.source;
}

abbrev pub decreases-pieces : goal.decreases-pieces
decreases-pieces g l = l.most - length l.all.items
