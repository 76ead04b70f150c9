-- The answers of `demo`, one by one.
use Rattle.std.proofs.Common.{◌≡◌, ℕ, List, Option, refl, subst}
use Rattle.std.specs.Io.KnownBytes.{Appends}
use Rattle.poly_io.specs.Causes.{Rose}
use Rattle.poly_io.specs.Written.{AppendsPart}
use Rattle.poly_model.specs.declared.overflow.Overflow.{Overflow as Passed}
use Rattle.poly_model.specs.Systems.{Polyhedron}
use Rattle.convert_core.specs.declared.totals.Totals.{Totals}
use Rattle.convert_core.specs.Listed.{IsDueInSearch}
use Rattle.convert_core.specs.Totals.{AreTotals}
use Rattle.lrs_cli.specs.declared.status.Status.TheVariants.{Done, Overflow, WriteFault, OutOfMemory}
use Rattle.lrs_cli.specs.Demo.{AnswersDemo, totals_text}

same_rows : (a b c d : ℕ) → Done a b ≡ Done c d → a ≡ c
same_rows a b c d e = cc

same_lines : (a b c d : ℕ) → Done a b ≡ Done c d → b ≡ d
same_lines a b c d e = cc

module _ (p : Polyhedron) (old new : Option (List ℕ)) (before now : ℕ) (Unwritten : Type 0) where
  pub answers_done : (totals : Totals) → AreTotals p totals →
      Appends old new (totals_text totals) → now ≡ before →
      AnswersDemo p old new before now Unwritten (Done totals.rows totals.lines)
  answers_done totals are written same = record {
    done = λ rows lines e. record {
      totals = totals;
      are_totals = are;
      rows_are = same_rows totals.rows totals.lines rows lines e;
      lines_are = same_lines totals.rows totals.lines rows lines e;
      written = written;
    };
    feasible = λ e. cc;
    comes = tt;
    overflow = λ o e. absurd (cc);
    memory = λ e. absurd (cc);
    write_fault = λ e. absurd (cc);
    writes = λ n. same;
    complete = λ known n m. (totals.rows, totals.lines, refl);
  }

  pub answers_write_fault : (totals : Totals) → AreTotals p totals →
      AppendsPart old new (totals_text totals) → Rose before now →
      AnswersDemo p old new before now Unwritten WriteFault
  answers_write_fault totals are written rose = record {
    done = λ rows lines e. absurd (cc);
    feasible = λ e. cc;
    comes = tt;
    overflow = λ o e. absurd (cc);
    memory = λ e. absurd (cc);
    write_fault = λ e. (rose, record { totals = totals; are_totals = are; written = written });
    writes = λ n. absurd (n refl);
    complete = λ known n m. absurd (n rose);
  }

  -- nothing was written
  module _ (unwritten : Unwritten) (same : now ≡ before) where
    pub answers_overflow : (o : Passed) → IsDueInSearch p o → AnswersDemo p old new before now Unwritten (Overflow o)
    answers_overflow o due = record {
      done = λ rows lines e. absurd (cc);
      feasible = λ e. cc;
      comes = tt;
      overflow = λ a e. (subst (λ (x : Passed). IsDueInSearch p x) (cc) due, unwritten);
      memory = λ e. absurd (cc);
      write_fault = λ e. absurd (cc);
      writes = λ n. same;
      complete = λ known n m. absurd (known o due);
    }

    pub answers_memory : AnswersDemo p old new before now Unwritten OutOfMemory
    answers_memory = record {
      done = λ rows lines e. absurd (cc);
      feasible = λ e. cc;
      comes = tt;
      overflow = λ o e. absurd (cc);
      memory = λ e. unwritten;
      write_fault = λ e. absurd (cc);
      writes = λ n. same;
      complete = λ known n m. absurd (m refl);
    }
