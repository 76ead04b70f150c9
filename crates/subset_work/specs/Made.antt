-- A work by subsets that is made.
use Rattle.std.specs.Prelude.{◌≡◌, ℕ, ◌-◌, ◌≤◌, List, [], length}
use Rattle.poly_num.specs.Vectors.{Vector}
use Rattle.poly_model.specs.declared.kind.WorkKind.TheVariants.{Subsets}
use Rattle.poly_model.specs.Limits.{most_labels}
use Rattle.poly_model.specs.Systems.{System, cone_of}
use Rattle.dictionary.specs.Views.{Dictionary}
use Rattle.plain_enum.specs.Begin.{IsBegun, left_in}
use Rattle.plain_enum.specs.Listed.{HasRoomFor}
use Rattle.work_core.specs.Searches.{Search}

-- the cone, the dictionary at which the linear rows have been tried, the free columns, and how many rows a list may have
pub record BySubsets : Type 0 where
  pub sys : System
  pub dict : Dictionary
  pub free : List ℕ
  pub depth : ℕ

-- the same by the dictionaries that are there to be written over, one for each row
abbrev pub made_with : System → Dictionary → List ℕ → List Dictionary → BySubsets
made_with sys dict free deeper = record { sys = sys; dict = dict; free = free; depth = length deeper }

-- there is room for what a run writes over, and a key has room for a list
pub record IsFit (sys : System) (dict : Dictionary) (deeper : List Dictionary) (vector : Vector) : Type 0 where
  pub room : HasRoomFor sys dict deeper vector
  pub few : length deeper ≤ most_labels

-- it is the work of this search
pub record IsBySubsets (made : BySubsets) (s : Search) : Type 0 where
  pub work : s.work ≡ Subsets
  pub root : s.root ≡ []
  pub file : made.sys ≡ cone_of s.polyhedron
  pub last : Dictionary
  pub begun : IsBegun s.polyhedron made.dict last made.free
  pub depth : made.depth ≡ length (left_in made.free made.dict.key) - 1
