-- What the lister writes under a prefix of rows.
use Rattle.std.specs.Prelude.{◌≡◌, ◌↔◌, false, ℕ, suc, ◌+◌, ◌<◌, ◌≤◌, Bool, List, [], ◌∷◌, length, Option, Result, IfOk, OnErr, IsErrOf}
use Rattle.std.specs.List.{All, Contains, flat_map}
use Rattle.std.specs.Io.KnownBytes.{Appends}
use Rattle.poly_num.specs.Vectors.{Vector}
use Rattle.poly_model.specs.Limits.{most_columns}
use Rattle.poly_model.specs.declared.kind.Kind.{Kind}
use Rattle.poly_model.specs.declared.overflow.Phase.TheVariants.{Cone}
use Rattle.poly_model.specs.Systems.{System, Polyhedron, cone_of}
use Rattle.poly_model.specs.ListingText.{row_text}
use Rattle.poly_io.specs.Causes.{Rose}
use Rattle.poly_io.specs.Written.{AppendsPart}
use Rattle.dictionary.specs.Views.{Dictionary}
use Rattle.dictionary.specs.MainPhase.{stays_in}
use Rattle.listing_laws.specs.ListedCone.{ListedCone, IsConeOf}
use Rattle.listing_laws.specs.Lists.{Lists, Begins}
use Rattle.row_printer.specs.declared.shown.Shown.{Shown}
use Rattle.row_printer.specs.declared.tally.Tally.{Tally}
use Rattle.row_printer.specs.Rows.{Counts, HasWritten}
use Rattle.plain_enum.specs.declared.prefix.Ended.{Ended}
use Rattle.plain_enum.specs.declared.prefix.Ended.TheVariants.{Stopped}
use Rattle.plain_enum.specs.Columns.{HasRows}
use Rattle.plain_enum.specs.Standing.{StandsAt}

-- the dictionary stands, in the phase of the cone, at a prefix of the rows before `from`, with so many coordinates
-- left beside one; of its key those labels are fixed that do not stay: linear rows, and coordinates that are free
pub record IsAt (sys : System) (free : List ℕ) (d : Dictionary) (from depth : ℕ) (p : Polyhedron)
    (cone : ListedCone) (fixed left : List ℕ) (marks : List Bool) : Type 0 where
  pub file : sys ≡ cone_of p
  pub is_cone : IsConeOf sys cone
  pub phase : d.phase ≡ Cone
  pub stands : StandsAt p cone d fixed left marks
  pub fixed_are : (k : ℕ) → Contains d.key k → Contains fixed k ↔ (stays_in sys.rows free k ≡ false)
  pub next : from ≡ length marks + 1
  pub count : length left ≡ suc depth

-- the row of a vector was written, and is counted; no write has failed
pub record WritesRow {O : Type 0} (written : O → Option (List ℕ)) (faults : O → ℕ) (s : Shown) (old : O) (y : Vector)
    (t : Shown) (new : O) : Type 0 where
  pub kind : t.listing ≡ s.listing
  pub bytes : Appends (written old) (written new) (row_text s.listing y)
  pub counts : Counts s.tally t.tally (y ∷ [])
  pub same : faults new ≡ faults old

-- a write failed at the row of a vector, of which first bytes were written
pub record FailsAtRow {O : Type 0} (written : O → Option (List ℕ)) (faults : O → ℕ) (s : Shown) (old : O) (y : Vector)
    (new : O) : Type 0 where
  pub bytes : AppendsPart (written old) (written new) (row_text s.listing y)
  pub later : faults old ≤ faults new
  pub rose : Rose (faults old) (faults new)

-- a count of faults never falls, rose where the answer is that a write failed, and stands still where it is not
pub record HasStopCause {T E : Type 0} (before now : ℕ) (result : Result T (Ended E)) : Type 0 where
  pub later : before ≤ now
  pub failed : (e : E) → IsErrOf result (Stopped e) → Rose before now
  pub same : ((e : E) → ¬ (IsErrOf result (Stopped e))) → now ≡ before

-- known bytes grow by the rows of a list of the vectors with P at Ok, which are counted, and by first bytes of the rows
-- of the beginning of one at Err
pub record WritesRows {E : Type 0} (kind : Kind) (before : Tally) (old new : Option (List ℕ)) (result : Result Shown E)
    (P : Vector → Type 0) : Type 0 where
  pub whole : IfOk result (λ s. (shown : List Vector) × Lists P shown × HasWritten kind old new before s.tally shown)
  pub part : OnErr result
      ((shown : List Vector) × Begins P shown × AppendsPart old new (flat_map (row_text kind) shown))

-- the other one has as many rows and columns
pub record HasShapeOf (d other : Dictionary) : Type 0 where
  pub rows : length other.labels ≡ length d.labels
  pub columns : length other.columns ≡ length d.columns

-- d has a label for each row of the system, and there is room for what a search from it writes over: dictionaries of
-- its shape, and a vector of the system's width
pub record HasRoomFor (sys : System) (d : Dictionary) (deeper : List Dictionary) (vector : Vector) : Type 0 where
  pub rows : HasRows (length sys.rows) d
  pub shapes : All (HasShapeOf d) deeper
  pub width : length vector ≡ sys.n
  pub some : 0 < sys.n
  pub narrow : sys.n ≤ most_columns
