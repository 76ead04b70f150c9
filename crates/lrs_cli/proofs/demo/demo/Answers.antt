use Rattle.std.proofs.Common.{◌≡◌, refl, sym, subst}
use Rattle.poly_model.specs.Extreme.{IsFeasible}
use Rattle.poly_model.specs.Systems.{Polyhedron, cone_of}
use Rattle.example_polys.specs.Examples.{example_of}
use Rattle.example_polys.proofs.Points.{has_point}
use Rattle.lrs_cli.specs.Demo.{AnswersDemo}
use Rattle.lrs_cli.proofs.DemoLemmas.{answers_memory}
use Rattle.lrs_cli.proofs.demo.demo.Goals as goal

pub print_totals-status-requires : goal.print_totals-status-requires
print_totals-status-requires g c =
    record { point = subst (λ (p : Polyhedron). IsFeasible (cone_of p)) (sym c.in-Ok.ensures) (has_point c.args.kind c.args.n) }

pub returns-in-Ok-clause-answers : goal.returns-in-Ok-clause-answers
returns-in-Ok-clause-answers g c =
    subst (λ (p : Polyhedron). AnswersDemo p (g.O.Sink.written c.args.out) (g.O.Sink.written c.print_totals-status.new.out)
    (g.O.Sink.faults c.args.out) (g.O.Sink.faults c.print_totals-status.new.out)
    (c.print_totals-status.new.out ≡ c.args.out) c.print_totals-status.result) c.in-Ok.ensures
    c.print_totals-status.ensures.answers

pub returns-in-Err-clause-answers : goal.returns-in-Err-clause-answers
returns-in-Err-clause-answers g c = answers_memory (example_of c.args.kind c.args.n) _ _ _ _ _ refl refl
