-- Where a listing begins: equations and free coordinates are fixed, the other coordinates are left.
use Rattle.std.specs.Prelude.{◌≡◌, ℕ, ◌+◌, ◌-◌, Bool, false, not, if◌then◌else◌, List, map, length}
use Rattle.std.specs.List.{Contains, filter}
use Rattle.poly_model.specs.declared.overflow.Phase.TheVariants.{Cone}
use Rattle.poly_model.specs.Keys.{IsAscending}
use Rattle.poly_num.specs.Vectors.{Vector}
use Rattle.poly_model.specs.Systems.{Row, System, Polyhedron, cone_of}
use Rattle.poly_model.specs.Spaces.{is_member}
use Rattle.poly_model.specs.Labels.{IsCoordinate, is_row, coordinate_index}
use Rattle.dictionary.specs.MainPhase.{stays_in}
use Rattle.dictionary.specs.Views.{Dictionary}
use Rattle.linearity.specs.declared.eliminate.Pass.TheVariants.{Linear, Others}
use Rattle.linearity.specs.Columns.{columns_in}
use Rattle.linearity.specs.Elimination.{IsDictionaryOf, IsEliminated}
use Rattle.listing_laws.specs.ListedCone.{ListedCone, cone_over}
use Rattle.plain_enum.specs.Listed.{HasRoomFor}
use Rattle.plain_enum.specs.Standing.{form_of}

-- the linear rows have been tried at `at`, and all rows at `last`, which comes after it: so its coordinates are the
-- free columns
pub record IsBegun (p : Polyhedron) (at last : Dictionary) (free : List ℕ) : Type 0 where
  pub phase : at.phase ≡ Cone
  pub at_of : IsDictionaryOf p at
  pub linear : IsEliminated (cone_of p).rows Linear (length (cone_of p).rows + 1) at
  pub last_of : IsDictionaryOf p last
  pub all : IsEliminated (cone_of p).rows Others (length (cone_of p).rows + 1) last
  pub later : (k : ℕ) → Contains last.key k → IsCoordinate k → Contains at.key k
  pub ascending : IsAscending last.key
  pub columns : free ≡ columns_in last.key

-- the labels of a key that are fixed: linear rows, and coordinates that are free
abbrev pub fixed_in : List Row → List ℕ → List ℕ → List ℕ
fixed_in rows free key = filter (λ k. not (stays_in rows free k)) key

-- the cone over their forms
abbrev pub begun_cone : Polyhedron → List ℕ → Dictionary → ListedCone
begun_cone p free d = cone_over (map (form_of p) (fixed_in (cone_of p).rows free d.key)) (cone_of p)

-- a coordinate that is not free
abbrev pub is_kept : List ℕ → ℕ → Bool
is_kept free k = if is_row k then false else not (is_member (coordinate_index k) free)

-- the labels of a key that are left
abbrev pub left_in : List ℕ → List ℕ → List ℕ
left_in free key = filter (is_kept free) key

-- there is room for a search of all vectors: a dictionary for each further label that is left
pub record HasRoomForAll (sys : System) (free : List ℕ) (d : Dictionary) (deeper : List Dictionary) (vector : Vector) :
    Type 0 where
  pub room : HasRoomFor sys d deeper vector
  pub depth : length deeper ≡ length (left_in free d.key) - 1
