-- What who writes a listing has written, and what it says of the file.
use Rattle.std.specs.Prelude.{◌≡◌, ◌⊎◌, ℕ, List, length, Option, Result, IfOk, IsOk, IsErrOf, OnErr}
use Rattle.std.specs.Io.KnownBytes.{Appends}
use Rattle.poly_model.specs.declared.listed.Listed.{Listed}
use Rattle.poly_model.specs.declared.overflow.Overflow.{Overflow as Passed}
use Rattle.poly_model.specs.Extreme.{IsFeasible}
use Rattle.poly_model.specs.Systems.{Polyhedron, cone_of}
use Rattle.poly_model.specs.Listing.{IsListing}
use Rattle.poly_io.specs.Written.{AppendsPart}
use Rattle.row_printer.specs.declared.stop.ListStop.{ListStop}
use Rattle.row_printer.specs.declared.stop.ListStop.TheVariants.{Infeasible, Overflow}
use Rattle.row_printer.specs.Rows.{counted}

-- the text is a listing with so many rows and lines
pub record IsCountedListing (p : Polyhedron) (text : List ℕ) (listed : Listed) : Type 0 where
  pub listing : IsListing p text
  pub rows : listed.rows ≡ counted 0 (length listing.shown)
  pub lines : listed.lines ≡ length listing.lines

-- known bytes grow by a listing at Ok, and by first bytes of one at Err
pub record WritesListing {E : Type 0} (p : Polyhedron) (old new : Option (List ℕ))
    (result : Result Listed E) : Type 0 where
  pub whole : IfOk result (λ listed. (text : List ℕ) × IsCountedListing p text listed × Appends old new text)
  pub part : OnErr result ((text : List ℕ) × IsListing p text × AppendsPart old new text)

-- p is feasible, and its listing was written; or it is not; or a number passes, as `Passes` says. What was written
-- otherwise is the beginning of a listing, and nothing, or p is feasible: `Unwritten` says that the sink is as it was
pub record ListsIfFeasible (p : Polyhedron) (old new : Option (List ℕ)) (Unwritten : Type 0)
    (Passes : Passed → Type 0) (result : Result Listed ListStop) : Type 0 where
  pub written : WritesListing p old new result
  pub feasible : IsOk result → IsFeasible (cone_of p)
  pub infeasible : IsErrOf result Infeasible → ¬ (IsFeasible (cone_of p))
  pub overflow : (o : Passed) → IsErrOf result (Overflow o) → Passes o
  pub printed : Unwritten ⊎ IsFeasible (cone_of p)
