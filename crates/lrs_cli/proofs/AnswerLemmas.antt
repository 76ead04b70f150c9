-- The answer of `convert` to a text that describes no polyhedron.
use Rattle.std.proofs.Common.{◌≡◌, subst}
use Rattle.poly_model.specs.declared.overflow.Overflow.{Overflow as Passed}
use Rattle.convert_core.specs.Listed.{IsDueInSearch}
use Rattle.poly_reader.specs.declared.bad.BadFile.{BadFile as Fault}
use Rattle.disk_core.specs.Contents.{Told}
use Rattle.lrs_cli.specs.declared.status.Status.TheVariants.{BadFile}
use Rattle.lrs_cli.specs.Answers.{IsBadFile}
use Rattle.lrs_cli.specs.Streams.{Streams}
use Rattle.lrs_cli.specs.Convert.{AnswersConvert}
use Rattle.lrs_cli.proofs.EndLemmas.{not_bad}

same_fault : (f x : Fault) → BadFile f ≡ BadFile x → f ≡ x
same_fault f x e = cc

pub answers_bad_file : (before after : Streams) (Unwritten : Type 0) → Unwritten →
    after.write_faults ≡ before.write_faults → (f : Fault) → after.read_faults ≡ before.read_faults →
    Told before.left (IsBadFile f) → AnswersConvert before after Unwritten (BadFile f)
answers_bad_file before after Unwritten unwritten writes f reads bad = record {
  done = λ rows lines e. absurd (cc);
  infeasible = λ e. absurd (cc);
  overflow = λ o e. absurd (cc);
  stopped = λ s. absurd s;
  printed = λ s. absurd s;
  bad_file = λ x e. subst (λ (y : Fault). Told before.left (IsBadFile y)) (same_fault f x e) bad;
  comes = tt;
  read_fault = λ e. absurd (cc);
  reads = λ n. reads;
  write_fault = λ e. absurd (cc);
  writes = λ n. writes;
  unwritten = λ w. unwritten;
  complete = λ known n m. absurd (not_bad (λ p. (o : Passed) → IsDueInSearch p o → ⊥) before.left known f bad);
}
