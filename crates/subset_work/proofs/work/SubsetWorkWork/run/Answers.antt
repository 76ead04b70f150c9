use Rattle.std.proofs.Common.{length, sym, subst}
use Rattle.dictionary.specs.Views.{Dictionary}
use Rattle.subset_work.specs.Made.{IsBySubsets}
use Rattle.subset_work.proofs.work.SubsetWorkWork.run.Goals as goal

pub returns-clause-overflow : goal.returns-clause-overflow
returns-clause-overflow g c o e s made =
    let r = c.run_from.ensures.overflow o e s
    (subst (λ (d : Dictionary). IsBySubsets (record {
      sys = c.self.inside.sys.now;
      dict = d;
      free = c.self.inside.free;
      depth = length c.self.inside.room.deeper.items;
    }) s) (sym c.deref.ensures) (subst (λ w. IsBySubsets w s) (sym c.self.view_is) made))
    (c.requires.key s made) in
    (record { passes = r.0.passes; asked = r.0.phase }, r.1)
