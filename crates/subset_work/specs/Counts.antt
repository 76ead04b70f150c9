-- The numbers of a run under way.
use Rattle.std.specs.Prelude.{◌≡◌, ℕ, ◌+◌, ◌*◌, ◌≤◌, ◌<◌}
use Rattle.poly_model.specs.declared.listed.Count.{Count}
use Rattle.work_core.specs.Splits.{most_bases}
use Rattle.subset_work.specs.declared.progress.Progress.{Progress}

-- a base gives back fewer keys than that: one for each label of a row at most
abbrev pub most_keys : ℕ
most_keys = 8192

-- each base shows a row at most, and gives back so many keys at most
pub record IsSum (c : Count) : Type 0 where
  pub rows : c.rows ≤ c.bases
  pub jobs : c.jobs ≤ most_keys * c.bases

-- a list of so many labels may be visited
pub record MayVisit (so_far : Progress) (len : ℕ) : Type 0 where
  pub few : so_far.most ≤ most_bases
  pub some : so_far.count.bases < so_far.most
  pub near : len < so_far.longest
  pub sum : IsSum so_far.count

-- a list of so many labels may be visited or given back
pub record MayCome (so_far : Progress) (len : ℕ) : Type 0 where
  pub few : so_far.most ≤ most_bases
  pub within : so_far.count.bases ≤ so_far.most
  pub near : len ≤ so_far.longest
  pub sum : IsSum so_far.count

-- ---- from one count to the next
-- one base was visited, and no more
pub record IsOneBase (c d : Count) : Type 0 where
  pub rows : d.rows ≡ c.rows
  pub jobs : d.jobs ≡ c.jobs
  pub bases : d.bases ≡ c.bases + 1

-- some bases were visited, at most so many in all
pub record CountsOn (most : ℕ) (c d : Count) : Type 0 where
  pub some : c.bases < d.bases
  pub within : d.bases ≤ most
  pub rows : d.rows + c.bases ≤ c.rows + d.bases
  pub jobs : d.jobs + most_keys * c.bases ≤ c.jobs + most_keys * d.bases

-- after a key, and the lists under it whose next row is from `from` on and before i
pub record HasCome (most from i : ℕ) (c d : Count) : Type 0 where
  pub some : c.bases < d.bases
  pub within : d.bases ≤ most
  pub rows : d.rows + c.bases ≤ c.rows + d.bases
  pub jobs : d.jobs + most_keys * c.bases + most_keys + from ≤ c.jobs + most_keys * d.bases + i
  pub far : from ≤ i
  pub few : i ≤ from + 4609

-- some bases were visited, or one key was given back
pub record ComesOn (most : ℕ) (c d : Count) : Type 0 where
  pub on : c.bases ≤ d.bases
  pub within : d.bases ≤ most
  pub rows : d.rows + c.bases ≤ c.rows + d.bases
  pub jobs : d.jobs + most_keys * c.bases ≤ c.jobs + most_keys * d.bases + 1
