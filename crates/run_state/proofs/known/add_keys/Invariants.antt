use Rattle.std.proofs.Common.{◌≡◌, ◌++◌, take, length, true, List, ℕ}
use Rattle.std.specs.List.{Contains}
use Rattle.poly_model.specs.Keys.{IsKey}
use Rattle.run_state.specs.KeyLists.{are_new}
use Rattle.run_state.specs.Known.{labels_in}
use Rattle.run_state.proofs.LeftKeys.{AreLeft, gone}
use Rattle.run_state.proofs.known.add_keys.Given as goal

abbrev pub invariant-keys : goal.invariant-keys
invariant-keys l = record {
  left : AreLeft l.keys l.left;
  keys : labels_in l.known.keys ≡ labels_in l.fn.known.keys ++ take (gone l.keys l.left) l.keys;
  new : are_new (labels_in l.fn.known.keys) (take (gone l.keys l.left) l.keys) ≡ true;
  are_keys : (k : List ℕ) → Contains (take (gone l.keys l.left) l.keys) k → IsKey k;
  was : l.was ≡ length l.fn.known.keys;
}

abbrev pub decreases-keys : goal.decreases-keys
decreases-keys l = length l.left
