-- Which rows are shown at a cobasis, and what is written of them.
use Rattle.std.specs.Prelude.{◌≡◌, ◌≢◌, ◌⊎◌, ℕ, ◌≤◌, List, ◌∷◌, map, Option, Result, Ok, Err}
use Rattle.std.specs.List.{Contains, flat_map}
use Rattle.poly_num.specs.Vectors.{Vector}
use Rattle.poly_model.specs.declared.kind.Kind.TheVariants.{H, V}
use Rattle.poly_model.specs.Labels.{constant_label}
use Rattle.poly_model.specs.ListingText.{row_text}
use Rattle.poly_model.specs.Systems.{System}
use Rattle.poly_model.specs.Tree.{ShowsPoint, ShowsRay}
use Rattle.linear_laws.specs.Distinct.{AreDistinct}
use Rattle.search_laws.specs.Shares.{ListsAll}
use Rattle.dictionary.specs.Views.{Dictionary, table_of}
use Rattle.hull_lift.specs.Facets.{HasPointRows, IsShownColumn, primitive_column}
use Rattle.poly_io.specs.Causes.{Rose}
use Rattle.poly_io.specs.Written.{AppendsPart}
use Rattle.row_printer.specs.declared.shown.Shown.{Shown}
use Rattle.row_printer.specs.Rows.{HasWritten}
use Rattle.convert_core.specs.declared.rays.Rays.{Rays}
use Rattle.convert_core.specs.Rays.{HasLinearPoint, AreShown}

-- ---- what is shown
-- the point of the cobasis is. A V file has none
abbrev pub IsPointShown : System → List ℕ → Dictionary → Type 0
IsPointShown sys root d = (sys.kind ≡ H) × ShowsPoint d.labels root d.key (table_of d)

-- the ray along the column of s is: by the ray test, and, of a V file, where it touches a point
abbrev pub IsRayShown : System → List ℕ → Dictionary → ℕ → Type 0
IsRayShown sys root d s =
    ShowsRay d.labels root d.key (table_of d) s × (HasLinearPoint sys ⊎ IsShownColumn sys d s)

-- the vector of a column is: that of the constants is the point
abbrev pub IsColumnShown : System → List ℕ → Dictionary → ℕ → Type 0
IsColumnShown sys root d col =
    ((col ≡ constant_label) × IsPointShown sys root d) ⊎ ((col ≢ constant_label) × IsRayShown sys root d col)

-- the columns of a dictionary: that of the constants, and those of the labels of the cobasis
abbrev pub columns_of : Dictionary → List ℕ
columns_of d = constant_label ∷ d.key

-- where the tests can be made: no label of the cobasis is that of the constants
pub record CanTest (sys : System) (d : Dictionary) (rays : Rays) : Type 0 where
  pub labels : Contains d.key constant_label → ⊥
  pub shown : AreShown sys rays
  pub points : sys.kind ≡ V → (HasLinearPoint sys → ⊥) → HasPointRows sys d

-- the rows of these columns
abbrev pub column_rows : System → Dictionary → List ℕ → List Vector
column_rows sys d cs = map (λ c. primitive_column d c sys.n) cs

-- ---- what is written
-- the rows of those of the columns that are shown
pub record WritesShown {O : Type 0} (written : O → Option (List ℕ)) (faults : O → ℕ) (sys : System) (root : List ℕ)
    (d : Dictionary) (columns : List ℕ) (s : Shown) (old : O) (t : Shown) (new : O) : Type 0 where
  pub kind : t.listing ≡ s.listing
  pub shown : List ℕ
  pub all : ListsAll (λ c. Contains columns c × IsColumnShown sys root d c) shown
  pub rows : HasWritten s.listing (written old) (written new) s.tally t.tally (column_rows sys d shown)
  pub same : faults new ≡ faults old

-- first bytes of the rows of some of them, each once, and then a write failed
pub record FailsShown {O : Type 0} (written : O → Option (List ℕ)) (faults : O → ℕ) (sys : System) (root : List ℕ)
    (d : Dictionary) (columns : List ℕ) (s : Shown) (old new : O) : Type 0 where
  pub shown : List ℕ
  pub once : AreDistinct shown
  pub only : (c : ℕ) → Contains shown c → Contains columns c × IsColumnShown sys root d c
  pub bytes : AppendsPart (written old) (written new) (flat_map (row_text s.listing) (column_rows sys d shown))
  pub later : faults old ≤ faults new
  pub rose : Rose (faults old) (faults new)

abbrev pub ShowsColumns : {O E : Type 0} → (O → Option (List ℕ)) → (O → ℕ) → System → List ℕ → Dictionary → List ℕ →
    Shown → O → O → Result Shown E → Type 0
ShowsColumns written faults sys root d columns s old new (Ok t) =
    WritesShown written faults sys root d columns s old t new
ShowsColumns written faults sys root d columns s old new (Err e) =
    FailsShown written faults sys root d columns s old new
