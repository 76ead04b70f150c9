-- A walk that begins anew at a key, and one that does not since the key is none.
use Rattle.std.proofs.Common.{ℕ, List, [], refl}
use Rattle.poly_model.specs.Spaces.{Space}
use Rattle.poly_model.specs.Dictionaries.{Table}
use Rattle.dictionary.specs.Views.{Dictionary}
use Rattle.reverse_step.specs.Walks.{Walk, IsWalkIn}
use Rattle.reverse_step.specs.Runs.{HasRun}
use Rattle.reverse_step.specs.Ways.{StandsAtKey}
use Rattle.reverse_step.specs.Starts.{unparented, IsAtKey}
use Rattle.reverse_step.proofs.WayLemmas.{reached_stands}

pub at_key : (old : Walk) (now : Dictionary) (key : List ℕ) → StandsAtKey old.root old.dict key now →
    IsAtKey old key (record { dict = now; root = old.root; job = key; at = 0; parents = [] })
at_key old now key h = record {
  root = refl;
  job = refl;
  start = record { key = h.there; at = refl };
  parents = refl;
  phase = h.way.phase;
  reached = h;
  walk = λ space home w. record {
    stands = reached_stands space home old.root old.dict now key h w.stands;
    kept = tt;
  };
}

-- it is a walk still, and has come as far: which ancestors are kept is no part of how far
pub still_a_walk : (space : Space) (home : Table) (walk : Walk) → IsWalkIn space home walk →
    IsWalkIn space home (unparented walk)
still_a_walk space home walk w = record { stands = w.stands; kept = tt }

pub still_as_far : (space : Space) (home : Table) (first walk : Walk) (visited given : List (List ℕ)) (left taken : ℕ) →
    HasRun space home first walk visited given left taken → HasRun space home first (unparented walk) visited given left taken
still_as_far space home first walk visited given left taken h = record {
  root = h.root;
  job = h.job;
  phase = h.phase;
  walk_in = still_a_walk space home walk h.walk_in;
  waiting = h.waiting;
  depth = h.depth;
  total = h.total;
  split = h.split;
  waits = h.waits;
  sum = h.sum;
  few = h.few;
  moved = h.moved;
}
