-- What an answer of the program says of the text that was read, and of what was written.
use Rattle.std.specs.Prelude.{ℕ, List, Option, Some, None}
use Rattle.std.specs.Io.KnownBytes.{Appends}
use Rattle.poly_model.specs.declared.overflow.Overflow.{Overflow as Passed}
use Rattle.poly_model.specs.Systems.{Polyhedron, cone_of}
use Rattle.poly_model.specs.Extreme.{IsFeasible}
use Rattle.poly_model.specs.Overflows.{Passes}
use Rattle.poly_model.specs.Listing.{IsListing}
use Rattle.poly_io.specs.Written.{AppendsPart}
use Rattle.poly_reader.specs.declared.bad.BadFile.{BadFile as Fault}
use Rattle.poly_reader.specs.Reading.{IsFileOf, IsFirstFault}
use Rattle.row_printer.specs.Listings.{IsCountedListing}
use Rattle.convert_core.specs.Listed.{IsDueInSearch}
use Rattle.lrs_cli.specs.declared.status.Status.{Status}
use Rattle.lrs_cli.specs.declared.status.Status.TheVariants.{Done, BadFile, Infeasible, Overflow, ReadFault, WriteFault, OutOfMemory}

-- a fact about bytes, which are told
abbrev pub Knows : Option (List ℕ) → (List ℕ → Type 0) → Type 0
Knows None P = ⊥
Knows (Some bytes) P = P bytes

-- the text describes a polyhedron with P
pub record Describes (P : Polyhedron → Type 0) (text : List ℕ) : Type 0 where
  pub polyhedron : Polyhedron
  pub read : IsFileOf text polyhedron
  pub holds : P polyhedron

-- the text describes a polyhedron with a point
abbrev pub IsFeasibleFile : List ℕ → Type 0
IsFeasibleFile text = Describes (λ p. IsFeasible (cone_of p)) text

-- the text describes a polyhedron without a point
abbrev pub IsInfeasibleFile : List ℕ → Type 0
IsInfeasibleFile text = Describes (λ p. IsFeasible (cone_of p) → ⊥) text

-- a product passes, of a pivot that the search of the polyhedron that the text describes cannot do without
abbrev pub HasOverflow : Passed → List ℕ → Type 0
HasOverflow o text = Describes (λ p. IsDueInSearch p o) text

-- the text describes no polyhedron, and this is the first fault
abbrev pub IsBadFile : Fault → List ℕ → Type 0
IsBadFile fault text = IsFirstFault text fault

-- p has a point, and what is known of the output grew by a listing of it, with so many rows and lines
pub record WritesWhole (old new : Option (List ℕ)) (rows lines : ℕ) (p : Polyhedron) : Type 0 where
  pub feasible : IsFeasible (cone_of p)
  pub listing : List ℕ
  pub counted : IsCountedListing p listing (record { rows = rows; lines = lines })
  pub written : Appends old new listing

-- what is known of the output grew by the first bytes of a listing of p
pub record WritesPart (old new : Option (List ℕ)) (p : Polyhedron) : Type 0 where
  pub listing : List ℕ
  pub is_listing : IsListing p listing
  pub written : AppendsPart old new listing

-- the text describes a polyhedron, and a listing of it was written
abbrev pub IsListed : Option (List ℕ) → Option (List ℕ) → ℕ → ℕ → List ℕ → Type 0
IsListed old new rows lines text = Describes (WritesWhole old new rows lines) text

-- the text describes a polyhedron, and first bytes of a listing of it were written
abbrev pub IsPartlyListed : Option (List ℕ) → Option (List ℕ) → List ℕ → Type 0
IsPartlyListed old new text = Describes (WritesPart old new) text

-- the answers that come where nothing fails and no product passes
abbrev pub Ends : Status → Type 0
Ends (Done rows lines) = Unit {0}
Ends Infeasible = Unit {0}
Ends OutOfMemory = Unit {0}
Ends _ = ⊥

-- the text describes a polyhedron, and of no pivot that its search cannot do without a product passes
abbrev pub HasNoObstacle : List ℕ → Type 0
HasNoObstacle text = Describes (λ p. (o : Passed) → IsDueInSearch p o → ⊥) text

-- no product of the polyhedron passes
abbrev pub PassesNowhere : Polyhedron → Type 0
PassesNowhere p = (o : Passed) → Passes p o → ⊥

-- the answers that come once a polyhedron was read
abbrev pub ComesOfPolyhedron : Status → Type 0
ComesOfPolyhedron (Done rows lines) = Unit {0}
ComesOfPolyhedron Infeasible = Unit {0}
ComesOfPolyhedron (Overflow o) = Unit {0}
ComesOfPolyhedron WriteFault = Unit {0}
ComesOfPolyhedron OutOfMemory = Unit {0}
ComesOfPolyhedron _ = ⊥

-- the answers to a file that is read from the input
abbrev pub ComesOfFile : Status → Type 0
ComesOfFile (Done rows lines) = Unit {0}
ComesOfFile Infeasible = Unit {0}
ComesOfFile (Overflow o) = Unit {0}
ComesOfFile WriteFault = Unit {0}
ComesOfFile OutOfMemory = Unit {0}
ComesOfFile ReadFault = Unit {0}
ComesOfFile (BadFile f) = Unit {0}
ComesOfFile _ = ⊥

-- the answers of a listing that was given up
abbrev pub StopsListing : Status → Type 0
StopsListing (Overflow o) = Unit {0}
StopsListing WriteFault = Unit {0}
StopsListing _ = ⊥

-- the answers before which nothing is written
abbrev pub WritesNothing : Status → Type 0
WritesNothing (Done rows lines) = ⊥
WritesNothing (Overflow o) = ⊥
WritesNothing WriteFault = ⊥
WritesNothing _ = Unit {0}
