-- The numbers of a run, from one list to the next.
use Rattle.std.proofs.Common.{◌≡◌, ◌+◌, ◌≤◌, ◌<◌, ℕ, arith}
use Rattle.poly_model.specs.declared.listed.Count.{Count}
use Rattle.subset_work.specs.declared.progress.Progress.{Progress}
use Rattle.subset_work.specs.Counts.{MayVisit, MayCome, IsOneBase, CountsOn, ComesOn, HasCome}

pub come_first : (most from : ℕ) (c d : Count) → c.bases < most → IsOneBase c d → HasCome most from from c d
come_first most from c d l h = record {
  some = omega (arith, h.bases);
  within = omega (arith, h.bases, l);
  rows = omega (arith, h.bases, h.rows);
  jobs = omega (arith, h.bases, h.jobs);
  far = omega arith;
  few = omega arith;
}

module _ (most from i : ℕ) (c d : Count) (h : HasCome most from i c d) where
  pub come_past : i + 1 ≤ from + 4609 → HasCome most from (i + 1) c d
  come_past l = record {
    some = h.some;
    within = h.within;
    rows = h.rows;
    jobs = omega (arith, h.jobs);
    far = omega (arith, h.far);
    few = l;
  }

  pub come_on : (e : Count) → ComesOn most d e → i + 1 ≤ from + 4609 → HasCome most from (i + 1) c e
  come_on e o l = record {
    some = omega (arith, h.some, o.on);
    within = o.within;
    rows = omega (arith, h.rows, o.rows);
    jobs = omega (arith, h.jobs, o.jobs);
    far = omega (arith, h.far);
    few = l;
  }

  pub come_end : CountsOn most c d
  come_end = record {
    some = h.some;
    within = h.within;
    rows = h.rows;
    jobs = omega (arith, h.jobs, h.few);
  }

-- a list with one row more may be visited or given back
pub may_come : (so_far : Progress) (len more from i : ℕ) (d : Count) → MayVisit so_far len →
    HasCome so_far.most from i so_far.count d → more ≤ len + 1 →
    MayCome (record { most = so_far.most; longest = so_far.longest; count = d }) more
may_come so_far len more from i d may h one = record {
  few = may.few;
  within = h.within;
  near = omega (arith, may.near, one);
  sum = record {
    rows = omega (arith, h.rows, may.sum.rows);
    jobs = omega (arith, h.jobs, h.few, may.sum.jobs);
  };
}

-- where the walk does not stop at a list, the list may be visited
pub may_visit : (so_far : Progress) (len : ℕ) → MayCome so_far len →
    (so_far.count.bases < so_far.most) × (len < so_far.longest) → MayVisit so_far len
may_visit so_far len may on = record {
  few = may.few;
  some = on.0;
  near = on.1;
  sum = may.sum;
}

-- what a base more promises of a count
pub visited_is_one : (c d : Count) → d.rows ≡ c.rows → d.jobs ≡ c.jobs → d.bases ≡ c.bases + 1 → IsOneBase c d
visited_is_one c d rows jobs bases = record { rows = rows; jobs = jobs; bases = bases }
