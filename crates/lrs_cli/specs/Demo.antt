-- What `demo` answers, and what it has then written.
use Rattle.std.specs.Prelude.{◌≡◌, ℕ, List, ◌++◌, codes, decimal, Option}
use Rattle.std.specs.Io.KnownBytes.{Appends}
use Rattle.poly_io.specs.Causes.{Rose}
use Rattle.poly_io.specs.Written.{AppendsPart}
use Rattle.poly_model.specs.declared.overflow.Overflow.{Overflow as Passed}
use Rattle.poly_model.specs.Systems.{Polyhedron}
use Rattle.convert_core.specs.declared.totals.Totals.{Totals}
use Rattle.convert_core.specs.Listed.{IsDueInSearch}
use Rattle.convert_core.specs.Totals.{AreTotals}
use Rattle.lrs_cli.specs.declared.status.Status.{Status}
use Rattle.lrs_cli.specs.declared.status.Status.TheVariants.{Done, Infeasible, Overflow, WriteFault, OutOfMemory}
use Rattle.lrs_cli.specs.Answers.{ComesOfPolyhedron}

-- three lines: how many rows, how many lines, and the sum
abbrev pub totals_text : Totals → List ℕ
totals_text totals =
    codes "rows " ++ (decimal totals.rows ++ (codes "\nlines " ++ (decimal totals.lines ++
    (codes "\nsum " ++ (decimal totals.sum ++ codes "\n")))))

-- what is known of the output grew by the totals of p, which has so many rows and lines
pub record WritesTotals (old new : Option (List ℕ)) (rows lines : ℕ) (p : Polyhedron) : Type 0 where
  pub totals : Totals
  pub are_totals : AreTotals p totals
  pub rows_are : totals.rows ≡ rows
  pub lines_are : totals.lines ≡ lines
  pub written : Appends old new (totals_text totals)

-- what is known of the output grew by first bytes of the totals of p
pub record WritesTotalsPart (old new : Option (List ℕ)) (p : Polyhedron) : Type 0 where
  pub totals : Totals
  pub are_totals : AreTotals p totals
  pub written : AppendsPart old new (totals_text totals)

-- The answer of `demo` of the polyhedron p, which has a point: what is known of the output was `old` and is `new`, and so
-- many writes had failed before, and now. `Unwritten` says that the output is as it was.
pub record AnswersDemo (p : Polyhedron) (old new : Option (List ℕ)) (before now : ℕ) (Unwritten : Type 0)
    (answer : Status) : Type 0 where
  -- done: what a listing of p comes to was written
  pub done : (rows lines : ℕ) → answer ≡ Done rows lines → WritesTotals old new rows lines p
  -- never infeasible, and none of the answers that speak of words or of an input
  pub feasible : answer ≡ Infeasible → ⊥
  pub comes : ComesOfPolyhedron answer
  -- overflow: a product passes, of a pivot that the search cannot do without. Then nothing was written
  pub overflow : (o : Passed) → answer ≡ Overflow o → IsDueInSearch p o × Unwritten
  -- out of memory: nothing was written
  pub memory : answer ≡ OutOfMemory → Unwritten
  -- write fault: a write failed, and first bytes were written; with every other answer none has
  pub write_fault : answer ≡ WriteFault → Rose before now × WritesTotalsPart old new p
  pub writes : ¬ (answer ≡ WriteFault) → now ≡ before
  -- done, where no product passes, no write fails and the answer is no want of memory
  pub complete : ((o : Passed) → IsDueInSearch p o → ⊥) → ¬ (Rose before now) → ¬ (answer ≡ OutOfMemory) →
      (rows : ℕ) × (lines : ℕ) × (answer ≡ Done rows lines)
