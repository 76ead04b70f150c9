use Rattle.std.proofs.Common.{length, sym, subst, arith}
use Rattle.subset_work.specs.Made.{IsBySubsets}
use Rattle.subset_work.proofs.Runs.{key_exactly}
use Rattle.subset_work.proofs.work.SubsetWorkWork.has_key.Goals as goal

pub returns-clause-ok : goal.returns-clause-ok
returns-clause-ok c s made =
    let exactly = key_exactly (record {
      sys = c.self.inside.sys.now;
      dict = c.self.inside.dict.value;
      free = c.self.inside.free;
      depth = length c.self.inside.room.deeper.items;
    }) s (subst (λ w. IsBySubsets w s) (sym c.self.view_is) made) c.args.key.now
    c.is_key.ensures.key in (
      λ t. let h = c.is_key.ensures.value.0 t in let short = h.0 in
          exactly.0 (omega (arith, short, c.len.ensures), h.1),
      λ is. let h = exactly.1 is in let short = h.0 in
          c.is_key.ensures.value.1 (omega (arith, short, c.len.ensures), h.1),
    )
