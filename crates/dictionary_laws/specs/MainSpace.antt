-- From the space of the file's rows to the main space, where the equations hold and the free
-- coordinates are 0.
use Rattle.std.specs.Prelude.{ℕ, Bool, not, if◌then◌else◌, List}
use Rattle.std.specs.List.{Contains, filter}
use Rattle.poly_model.specs.FreeColumns.{AreFreeColumns}
use Rattle.poly_model.specs.Systems.{row_of, Polyhedron, cone_of}
use Rattle.poly_model.specs.Spaces.{is_member, prepare_space, main_space, HasPoints}
use Rattle.poly_model.specs.Labels.{coordinate_label, is_row, coordinate_index}
use Rattle.poly_model.specs.Dictionaries.{Table, IsCobasis, Writes}
use Rattle.poly_model.specs.Equations.{HasPointOn, equation_labels}
use Rattle.dictionary_laws.specs.Points.{AreSettled}

-- a label of the key stays: it is neither that of an equation nor that of a free coordinate
abbrev pub stays : Polyhedron → List ℕ → ℕ → Bool
stays p free k =
    if is_row k then not (row_of (cone_of p).rows k).linear else not (is_member (coordinate_index k) free)

-- at this dictionary of the file's rows the main space can be entered: every free coordinate is in the
-- key, no equation can enter it for a label that is none, and the equations have a common point
pub record CanEnterMain (p : Polyhedron) (free key : List ℕ) (t : Table) : Type 0 where
  pub columns : AreFreeColumns (cone_of p) free
  pub free_inside : (j : ℕ) → Contains free j → Contains key (coordinate_label j)
  pub settled : AreSettled key t (equation_labels p)
  pub point : HasPointOn (prepare_space p) (equation_labels p)

-- the main space has a point, the labels that stay are a cobasis of it, and the numbers write its
-- labels in them
pub record EntersMain (p : Polyhedron) (free key : List ℕ) (t : Table) : Type 0 where
  pub points : HasPoints (main_space p free)
  pub cobasis : IsCobasis (main_space p free) (filter (stays p free) key)
  pub writes : Writes (main_space p free) (filter (stays p free) key) t
