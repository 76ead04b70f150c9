-- What becomes of a dictionary while rows enter its cobasis.
use Rattle.std.specs.Prelude.{◌≡◌, ◌≢◌, ◌⊎◌, ℕ, ◌<◌, ◌≤◌, length}
use Rattle.std.specs.List.{Contains}
use Rattle.poly_model.specs.Labels.{IsCoordinate}
use Rattle.poly_model.specs.declared.overflow.Overflow.{Overflow}
use Rattle.poly_model.specs.Systems.{System, Polyhedron, row_of, cone_of}
use Rattle.dictionary.specs.Views.{Dictionary, CanPivot, IsPivot, IsOverflow}
use Rattle.linearity.specs.declared.eliminate.Pass.{Pass}
use Rattle.linearity.specs.Columns.{IsLeastColumn, IsZeroAtCoordinates}
use Rattle.linearity.specs.Elimination.{IsDictionaryOf, IsEliminated, tries_others}

-- the phase, the labels and the count of columns stay, and no coordinate enters the cobasis
pub record KeepsShape (old new : Dictionary) : Type 0 where
  pub phase : new.phase ≡ old.phase
  pub labels : new.labels ≡ old.labels
  pub width : length new.columns ≡ length old.columns
  pub fewer : (k : ℕ) → Contains new.key k → IsCoordinate k → Contains old.key k

-- row i has entered the cobasis for coordinate k, the least at which it is not 0
pub record EntersFor (old : Dictionary) (i k : ℕ) (new : Dictionary) : Type 0 where
  pub column : IsLeastColumn old i k
  pub can : CanPivot old i k
  pub pivot : IsPivot old i k new

-- that pivot overflows
pub record OverflowsFor (d : Dictionary) (i k : ℕ) (o : Overflow) : Type 0 where
  pub column : IsLeastColumn d i k
  pub can : CanPivot d i k
  pub overflow : IsOverflow d i k o

-- row i has entered for such a coordinate, or there is none
abbrev pub IsEntered : Dictionary → ℕ → Dictionary → Type 0
IsEntered old i new = ((k : ℕ) × EntersFor old i k new) ⊎ (IsZeroAtCoordinates old i × (new ≡ old))

-- where the rows before `from` had been tried in a pass, those before `to` have been, at a dictionary of the same
-- polyhedron
pub record Eliminates (sys : System) (pass : Pass) (from to : ℕ) (old new : Dictionary) : Type 0 where
  pub dictionary : (p : Polyhedron) → sys ≡ cone_of p → IsDictionaryOf p old → IsDictionaryOf p new
  pub eliminated : (p : Polyhedron) → sys ≡ cone_of p → IsDictionaryOf p old →
      IsEliminated sys.rows pass from old → IsEliminated sys.rows pass to new

-- the rows before i have been tried in a pass, and the pivot of row i overflows
pub record StopsAt (sys : System) (pass : Pass) (i : ℕ) (old new : Dictionary) (o : Overflow) : Type 0 where
  pub from_one : 0 < i
  pub within : i ≤ length sys.rows
  pub tried : (row_of sys.rows i).linear ≢ tries_others pass
  pub before : Eliminates sys pass 1 i old new
  pub overflows : (k : ℕ) × OverflowsFor new i k o
