use Rattle.std.proofs.Common.{refl, subst}
use Rattle.reverse_step.specs.declared.walker.Visit.{Visit}
use Rattle.reverse_step.specs.declared.walker.Visit.TheVariants.{New}
use Rattle.reverse_step.specs.Moves.{IsVisit}
use Rattle.convert_core.proofs.Searching.{search_moves}
use Rattle.convert_core.proofs.walk.step.Goals as goal

pub show-requires : goal.show-requires
show-requires g c =
    let search = c.args.search.now in
    record {
      search = search_moves search.poly.now search.cone search.rays search.walker search.vector.items c.requires.search New
          c.next.new.self search.vector.items
          (subst (λ (v : Visit). IsVisit search.walker v c.next.new.self) c.in-Ok-New.field-0-is c.in-Ok-New.ensures.visit)
          refl;
    }
