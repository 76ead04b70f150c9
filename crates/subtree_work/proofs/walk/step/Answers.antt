use Rattle.std.proofs.Common.{refl, sym, subst}
use Rattle.reverse_step.specs.declared.walker.Visit.{Visit}
use Rattle.reverse_step.specs.declared.walker.Visit.TheVariants.{New}
use Rattle.reverse_step.specs.Walks.{Walk}
use Rattle.reverse_step.specs.Moves.{IsVisit}
use Rattle.convert_core.proofs.Searching.{search_moves}
use Rattle.subtree_work.specs.Steps.{StopsRun}
use Rattle.subtree_work.proofs.Stepping.{fails_there}
use Rattle.subtree_work.proofs.walk.step.Goals as goal

pub meet-requires-clause-search : goal.meet-requires-clause-search
meet-requires-clause-search g c =
    let s = c.args.search.now in
    record {
      file = c.requires.search.file;
      each = λ p file. search_moves p s.sys.now s.rays s.walker s.vector.items (c.requires.search.each p file) New
          c.next.new.self s.vector.items
          (subst (λ (v : Visit). IsVisit s.walker v c.next.new.self) c.in-Ok-New.field-0-is c.in-Ok-New.ensures.visit) refl;
    }

pub returns-in-Err-meet-clause-stops : goal.returns-in-Err-meet-clause-stops
returns-in-Err-meet-clause-stops g c =
    let s = c.args.search.now in
    subst (λ (w : Walk). StopsRun s.sys.now s.walker w (g.S.Sink.written c.args.out.now) (g.S.Sink.written c.meet.new.out)
    c.in-Err-meet.stop) (sym c.in-Err-meet.ensures.unmoved)
    (fails_there s.sys.now s.walker c.next.new.self (g.S.Sink.written c.args.out.now) (g.S.Sink.written c.meet.new.out)
    c.in-Err-meet.stop c.in-Err-meet.ensures.no_overflow
    (subst (λ (v : Visit). IsVisit s.walker v c.next.new.self) c.in-Ok-New.field-0-is c.in-Ok-New.ensures.visit)
    c.in-Err-meet.ensures.fails)
