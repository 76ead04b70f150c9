-- Spaces in which nothing is fixed, the key of their coordinates, and its dictionary.
use Rattle.std.specs.Prelude.{◌≡◌, ℕ, suc, ◌<◌, ◌-◌, pos, List, [], map, length}
use Rattle.std.specs.List.{All, Contains, range_with_len}
use Rattle.poly_model.specs.declared.kind.Kind.{Kind}
use Rattle.poly_model.specs.declared.kind.Kind.TheVariants.{H, V}
use Rattle.poly_model.specs.Keys.{IsAscending}
use Rattle.poly_model.specs.Systems.{Polyhedron}
use Rattle.poly_model.specs.Cones.{at, coordinate}
use Rattle.poly_model.specs.Spaces.{Space, cone_space, prepare_space}
use Rattle.poly_model.specs.Labels.{coordinate_label, IsCoordinate}
use Rattle.poly_model.specs.Dictionaries.{Table}
use Rattle.linear_laws.specs.Distinct.{AreDistinct}
use Rattle.dictionary_laws.specs.Keys.{place_in}

-- the labels of the coordinates from j up to and without n
abbrev pub coordinate_key : ℕ → ℕ → List ℕ
coordinate_key j n = map coordinate_label (range_with_len j (n - j))

-- nothing is fixed in the space, its first coordinate is that at infinity, and the others have the
-- labels of the key, in order
pub record HasCoordinates (space : Space) (key : List ℕ) : Type 0 where
  pub free : space.fixed ≡ []
  pub infinity : space.infinity ≡ coordinate 0
  pub count : space.n ≡ suc (length key)
  pub labels : All (Contains space.labels) key
  pub forms : map space.form key ≡ map coordinate (range_with_len 1 (length key))

-- each label's number: the first entry of its form is its constant, and the entry at each coordinate
-- follows
abbrev pub coordinate_table : Space → List ℕ → Table
coordinate_table space key = record {
  denominator = pos 1;
  constant = λ i. at 0 (space.form i);
  entry = λ i k. at (suc (place_in key k)) (space.form i);
}

-- the first coordinate that has a label before anything is fixed: of an H file, coordinate 0 is that
-- at infinity
abbrev pub first_coordinate : Kind → ℕ
first_coordinate H = 1
first_coordinate V = 0

-- the cone's space has all coordinates, that of the file's rows those from the first on
pub record ArePhaseCoordinates (p : Polyhedron) : Type 0 where
  pub cone : HasCoordinates (cone_space p) (coordinate_key 0 p.n)
  pub prepare : 0 < p.n → HasCoordinates (prepare_space p) (coordinate_key (first_coordinate p.kind) p.n)

-- the labels ascend, each stands once, and none is that of a row
pub record AreCoordinateLabels (key : List ℕ) : Type 0 where
  pub ascending : IsAscending key
  pub distinct : AreDistinct key
  pub coordinates : (k : ℕ) → Contains key k → IsCoordinate k
