use Rattle.std.proofs.Common.{codes, sym, ◌∙◌}
use Rattle.std.proofs.lemmas.Slice.Eq.{bytes_eq-Decides}
use Rattle.clap.specs.Words.{found_of, rows_of}
use Rattle.command_line.specs.Lines.{Says}
use Rattle.command_line.proofs.NamedLines.{by_run, by_resume}
use Rattle.command_line.proofs.lines.line_named.Goals as goal

pub returns-then-eq-4-clause-none : goal.returns-then-eq-4-clause-none
returns-then-eq-4-clause-none c none line named =
    by_run (λ line. Says (rows_of (found_of c.args.given.now)) line → ⊥) (c.run_line.ensures.none none) line
    (sym ((bytes_eq-Decides c.args.name.now (codes "run")).0 (sym c.if-eq-4.ensures)) ∙ named)

pub returns-then-eq-5-clause-none : goal.returns-then-eq-5-clause-none
returns-then-eq-5-clause-none c none line named =
    by_resume (λ line. Says (rows_of (found_of c.args.given.now)) line → ⊥) (c.resume_line.ensures.none none) line
    (sym ((bytes_eq-Decides c.args.name.now (codes "resume")).0 (sym c.if-eq-5.ensures)) ∙ named)
