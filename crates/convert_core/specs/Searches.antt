-- What a listing by reverse search holds, and where it begins.
use Rattle.std.specs.Prelude.{◌≡◌, ℕ, ◌<◌, ◌≤◌, List, length}
use Rattle.poly_num.specs.Vectors.{Vector}
use Rattle.poly_model.specs.declared.overflow.Phase.TheVariants.{Main}
use Rattle.poly_model.specs.Labels.{coordinates_from}
use Rattle.poly_model.specs.Limits.{most_columns}
use Rattle.poly_model.specs.Systems.{System, Polyhedron, cone_of}
use Rattle.poly_model.specs.FreeColumns.{AreFreeColumns, AreLines}
use Rattle.poly_model.specs.Spaces.{main_space}
use Rattle.poly_model.specs.Dictionaries.{Table}
use Rattle.poly_model.specs.PhaseOne.{IsSearchRoot}
use Rattle.dictionary.specs.Views.{Dictionary}
use Rattle.reverse_step.specs.Walks.{Walk, IsWalkIn, IsAtStart}
use Rattle.phase_one.specs.Found.{IsFound}
use Rattle.convert_core.specs.declared.rays.Rays.{Rays}
use Rattle.convert_core.specs.Rays.{AreShown}

-- with the cone of p, a walk through the cobases of its main space, in the order relative to some root; and room for a
-- vector
pub record IsSearch (p : Polyhedron) (cone : System) (rays : Rays) (walk : Walk) (vector : Vector) : Type 0 where
  pub is_cone : cone ≡ cone_of p
  pub are_shown : AreShown cone rays
  pub few : length (cone_of p).rows < coordinates_from
  pub narrow : p.n ≤ most_columns
  pub width : length vector ≡ p.n
  pub free : List ℕ
  pub columns : AreFreeColumns (cone_of p) free
  pub home : Table
  pub walk_in : IsWalkIn (main_space p free) home walk
  pub phase : walk.dict.phase ≡ Main

-- the walk is one under the root of the search of p, and stands at it, where no column is tried
pub record IsAtRoot (p : Polyhedron) (walk : Walk) : Type 0 where
  pub start : IsAtStart walk
  pub job : walk.job ≡ walk.root
  pub search_root : IsSearchRoot p walk.root

-- the root of the search of p, its dictionary, and the lines of p
pub record IsRootOf (p : Polyhedron) (root : List ℕ) (d : Dictionary) (lines : List Vector) : Type 0 where
  pub few : length (cone_of p).rows < coordinates_from
  pub narrow : p.n ≤ most_columns
  pub free : List ℕ
  pub columns : AreFreeColumns (cone_of p) free
  pub found : IsFound p free root d
  pub are_lines : AreLines (cone_of p) lines
  pub some : length lines ≤ most_columns
