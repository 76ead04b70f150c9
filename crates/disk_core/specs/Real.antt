-- What is true of each file in memory: what was read before the last step, what is read now, and each torn form of the last
-- write are images that the steps allow.
use Rattle.std.specs.Prelude.{◌≤◌, ◌<◌, ◌+◌, ◌^◌, ℕ, List, length}
use Rattle.disk_core.specs.Contents.{Torn}
use Rattle.disk_core.specs.Images.{Images}
use Rattle.disk_core.specs.Memory.{History, replayed, step_images}
use Rattle.disk_core.specs.declared.steps.Step.{Step}

-- a write of this range that turned old into new, and each torn form of it, is allowed
pub record IsTornInto (images : Images) (at len : ℕ) (old new : List ℕ) : Type 0 where
  pub within : at ≤ length old
  pub small : at + len < 2 ^ 64
  pub whole : 0 < len → Torn at len old new
  pub torn : 0 < len → (c : List ℕ) → Torn at len old c → images c

pub record IsReal (h : History) : Type 0 where
  pub reads : replayed h h.bytes
  pub old : replayed h h.before
  pub last : IsTornInto (replayed h) h.at h.len h.before h.bytes

-- a step that leaves these bytes to be read, with the range that it wrote, keeps a file real
pub record KeepsReal (h : History) (step : Step) (bytes : List ℕ) (at len : ℕ) : Type 0 where
  pub reads : step_images step (replayed h) bytes
  pub old : step_images step (replayed h) h.bytes
  pub last : IsTornInto (step_images step (replayed h)) at len h.bytes bytes
