use Rattle.std.proofs.Common.{◌≡◌, take, true, length}
use Rattle.run_state.specs.KeyLists.{are_new}
use Rattle.run_state.specs.Known.{labels_in}
use Rattle.run_state.proofs.LeftKeys.{AreLeft, gone}
use Rattle.run_state.proofs.known.try_keys.Given as goal

abbrev pub invariant-keys : goal.invariant-keys
invariant-keys l = record {
  left : AreLeft l.keys l.left;
  keys : labels_in l.earlier.keys ≡ take (gone l.keys l.left) l.keys;
  new : are_new (labels_in l.known.keys) (take (gone l.keys l.left) l.keys) ≡ true;
}

abbrev pub decreases-keys : goal.decreases-keys
decreases-keys l = length l.left
