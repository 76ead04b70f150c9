-- What the column of a dictionary says of the vectors of its space.
use Rattle.std.specs.Prelude.{◌≡◌, ◌≢◌, ◌↔◌, ℕ, ◌<◌, ℤ, pos, length}
use Rattle.std.specs.List.{Contains}
use Rattle.poly_num.specs.Vectors.{Vector, ◌·◌, scale}
use Rattle.poly_model.specs.Labels.{coordinates_from, constant_label}
use Rattle.poly_model.specs.declared.kind.Kind.TheVariants.{V}
use Rattle.poly_model.specs.declared.overflow.Phase.{Phase}
use Rattle.poly_model.specs.declared.overflow.Phase.TheVariants.{First}
use Rattle.poly_model.specs.Systems.{Polyhedron, cone_of}
use Rattle.poly_model.specs.Spaces.{Space, IsInside, IsDirection, IsSpaceOf, label_form}
use Rattle.poly_model.specs.Extreme.{IsShown}
use Rattle.dictionary.specs.Views.{Dictionary, IsDictionaryIn}
use Rattle.hull_lift.specs.Facets.{column_of, HasPointRows, IsShownColumn}

-- z is a direction at which all labels of the cobasis but col are 0
pub record IsAlong (space : Space) (d : Dictionary) (col : ℕ) (z : Vector) : Type 0 where
  pub direction : IsDirection space z
  pub others : (k : ℕ) → Contains d.key k → k ≢ col → space.form k · z ≡ pos 0

-- y is a vector of the space at which all labels of the cobasis are 0
pub record IsZeroOnCobasis (space : Space) (d : Dictionary) (y : Vector) : Type 0 where
  pub inside : IsInside space y
  pub zero : (k : ℕ) → Contains d.key k → space.form k · y ≡ pos 0

-- y is a vector over the coordinates of the cone, at which each label has the value that it has at y; and
-- over the denominator that is x times the column
pub record IsInColumn (p : Polyhedron) (space : Space) (d : Dictionary) (col : ℕ) (y : Vector) (x : ℤ) : Type 0 where
  pub vector : Vector
  pub width : length vector ≡ p.n
  pub values : (k : ℕ) → Contains space.labels k → space.form k · y ≡ label_form (cone_of p).rows k · vector
  pub column : scale d.denominator vector ≡ scale x (column_of d col p.n)

-- the column of a label has the directions along it, times the value of that label; the column of
-- constants has the vectors of the point, times their value at infinity
pub record HasColumns (p : Polyhedron) (space : Space) (d : Dictionary) : Type 0 where
  pub ray : (col : ℕ) → Contains d.key col → col ≢ constant_label → (z : Vector) → IsAlong space d col z →
      IsInColumn p space d col z (space.form col · z)
  pub point : (y : Vector) → IsZeroOnCobasis space d y → IsInColumn p space d constant_label y (space.infinity · y)

-- so it is in all phases but that which has one unknown more
abbrev pub ColumnVectors : Type 0
ColumnVectors =
    (p : Polyhedron) (phase : Phase) (space : Space) → phase ≢ First → IsSpaceOf p phase space →
    (d : Dictionary) → IsDictionaryIn space d → HasColumns p space d

-- a column is shown exactly where its vector is
abbrev pub ShownColumns : Type 0
ShownColumns =
    (p : Polyhedron) (space : Space) (d : Dictionary) → IsDictionaryIn space d →
    length (cone_of p).rows < coordinates_from → (p.kind ≡ V → HasPointRows (cone_of p) d) →
    (col : ℕ) → Contains d.key col → (z : Vector) → IsAlong space d col z → space.form col · z ≢ pos 0 →
    (c : IsInColumn p space d col z (space.form col · z)) →
    IsShownColumn (cone_of p) d col ↔ IsShown p.kind (cone_of p) c.vector
