-- How a walk begins anew at a key.
use Rattle.std.specs.Prelude.{◌≡◌, ℕ, Bool, true, false, List, []}
use Rattle.poly_model.specs.Spaces.{Space}
use Rattle.poly_model.specs.Dictionaries.{Table}
use Rattle.reverse_step.specs.Walks.{Walk, IsWalkIn, IsAtStart}
use Rattle.reverse_step.specs.Moves.{moved_to}
use Rattle.reverse_step.specs.Ways.{StandsAtKey, IsNoFeasibleKey}

-- the same walk, with no ancestor kept: the same keys wait
abbrev pub unparented : Walk → Walk
unparented walk = moved_to walk walk.dict walk.at []

-- it stands at the key, the job's root, and no column is tried. Wherever the old dictionary is one, the key is that of a
-- lexicographically feasible cobasis; wherever the old one was a walk, it is one
pub record IsAtKey (old : Walk) (key : List ℕ) (new : Walk) : Type 0 where
  pub root : new.root ≡ old.root
  pub job : new.job ≡ key
  pub start : IsAtStart new
  pub parents : new.parents ≡ []
  pub phase : new.dict.phase ≡ old.dict.phase
  pub reached : StandsAtKey old.root old.dict key new.dict
  pub walk : (space : Space) (home : Table) → IsWalkIn space home old → IsWalkIn space home new

-- true: at the key; false: it is no lexicographically feasible cobasis, and the walk stands where it stood
abbrev pub Starts : Walk → List ℕ → Bool → Walk → Type 0
Starts old key true new = IsAtKey old key new
Starts old key false new = (new ≡ unparented old) × IsNoFeasibleKey old.root old.dict key
