-- The images of all moments since one: what a crash within a call, or between two, may leave. A moment is a number that
-- does not fall; `since t` are the images of the moments from t on.
use Rattle.std.specs.Prelude.{◌≡◌, ◌⊎◌, ◌≤◌, ℕ, List, Option}
use Rattle.disk_core.specs.Images.{Images, NothingNew}

-- time goes on: the images since t are those that they were, and those of now; none is forgotten
pub record Elapses (before now : ℕ) (past since : ℕ → Images) (images : Images) : Type 0 where
  pub later : before ≤ now
  pub nothing_else : (t : ℕ) (c : List ℕ) → t ≤ before → since t c → past t c ⊎ images c
  pub keeps : (t : ℕ) (c : List ℕ) → t ≤ before → past t c → since t c

-- each image of the moments since old has P; and a call that began earlier has no other new images
pub record LeavesOnly {D : Type 0} (moment : D → ℕ) (since : D → ℕ → Images) (old new : D) (P : List ℕ → Type 0) : Type 0 where
  pub later : moment old ≤ moment new
  pub each : (c : List ℕ) → since new (moment old) c → P c
  pub before : (t : ℕ) (c : List ℕ) → t ≤ moment old → since new t c → since old t c ⊎ P c

-- a call that changes nothing: what is read stays, and no image is new at any moment
pub record IsQuiet {D : Type 0} (seen : D → Option (List ℕ)) (images : D → Images) (moment : D → ℕ) (since : D → ℕ → Images) (old new : D) : Type 0 where
  pub same : seen new ≡ seen old
  pub nothing_new : NothingNew (images old) (images new)
  pub leaves : LeavesOnly moment since old new (images old)
