-- Where a dictionary of the cone's space stands at a prefix of rows: which labels of its key belong to the base, which
-- to the rows taken, and which are left.
use Rattle.std.specs.Prelude.{◌≡◌, ◌↔◌, ℕ, ◌<◌, ◌≤◌, Bool, pos, List, ◌++◌, map, length}
use Rattle.std.specs.List.{Contains}
use Rattle.poly_num.specs.Vectors.{Vector, ◌·◌}
use Rattle.poly_model.specs.Labels.{coordinates_from, IsCoordinate}
use Rattle.poly_model.specs.Independence.{Vanish}
use Rattle.poly_model.specs.Systems.{Polyhedron, cone_of}
use Rattle.poly_model.specs.Spaces.{label_form, cone_space}
use Rattle.poly_model.specs.Dictionaries.{Table}
use Rattle.linear_laws.specs.Distinct.{AreDistinct}
use Rattle.dictionary_laws.specs.Keys.{HaveSameLabels}
use Rattle.dictionary.specs.Views.{Dictionary, IsDictionaryIn, table_of}
use Rattle.hull_lift.specs.Facets.{column_of}
use Rattle.listing_laws.specs.ListedCone.{ListedCone, row_at}
use Rattle.listing_laws.specs.Prefixes.{marked_labels}
use Rattle.listing_laws.specs.Directions.{LeavesOne}

-- the form of a label over the coordinates of the cone
abbrev pub form_of : Polyhedron → ℕ → Vector
form_of p k = label_form (cone_of p).rows k

-- each of these labels has the value 0 at z
abbrev pub AreZeroAt : Polyhedron → List ℕ → Vector → Type 0
AreZeroAt p labels z = (k : ℕ) → Contains labels k → form_of p k · z ≡ pos 0

-- the cone has the rows of the polyhedron's cone, with labels that are no coordinate's
pub record HasRowsOf (p : Polyhedron) (cone : ListedCone) : Type 0 where
  pub width : cone.n ≡ p.n
  pub rows : cone.rows ≡ map (λ row. row.entries) (cone_of p).rows
  pub few : length (cone_of p).rows < coordinates_from

-- the labels of the base, then those of the rows taken, then those that are left
abbrev pub parted : List ℕ → List Bool → List ℕ → List ℕ
parted fixed marks left = fixed ++ (marked_labels marks ++ left)

-- d is a dictionary of the cone's space. Its key has the fixed labels, which are 0 exactly where the base is, as many
-- as the base has rows; the labels of the rows taken; and the coordinates that are left; each once
pub record StandsAt (p : Polyhedron) (cone : ListedCone) (d : Dictionary) (fixed left : List ℕ)
    (marks : List Bool) : Type 0 where
  pub over : HasRowsOf p cone
  pub dictionary : IsDictionaryIn (cone_space p) d
  pub within : length marks ≤ length cone.rows
  pub key : HaveSameLabels d.key (parted fixed marks left)
  pub distinct : AreDistinct (parted fixed marks left)
  pub coordinates : (k : ℕ) → Contains left k → IsCoordinate k
  pub base : (z : Vector) → length z ≡ p.n → Vanish cone.base z ↔ AreZeroAt p fixed z
  pub count : length cone.base ≡ length fixed

-- the column of col is a vector of the cone's width, at which each label has its entry in that column
pub record HasColumnValues (p : Polyhedron) (d : Dictionary) (col : ℕ) : Type 0 where
  pub width : length (column_of d col p.n) ≡ p.n
  pub values : (i : ℕ) → Contains (cone_space p).labels i →
      form_of p i · column_of d col p.n ≡ Table.entry (table_of d) i col

-- the column of k is the one direction that is left, the columns of the rows taken are dual to these, and the rows
-- have their entries as values at both
pub record LeavesColumn (p : Polyhedron) (cone : ListedCone) (d : Dictionary) (marks : List Bool) (k : ℕ) : Type 0 where
  pub leaves : LeavesOne cone marks (column_of d k p.n)
  pub at_left : (i : ℕ) → 0 < i → i ≤ length cone.rows →
      row_at cone i · column_of d k p.n ≡ Table.entry (table_of d) i k
  pub duals : (j : ℕ) (c : Contains (marked_labels marks) j) → (leaves.duals j c).vector ≡ column_of d j p.n
  pub at_duals : (i : ℕ) → 0 < i → i ≤ length cone.rows → (j : ℕ) (c : Contains (marked_labels marks) j) →
      row_at cone i · (leaves.duals j c).vector ≡ Table.entry (table_of d) i j

-- the local test by entries: each row with the entry 0 in the column of k has the entry 0 in that of each later label
abbrev pub PassesByEntries : Dictionary → List Bool → ℕ → Type 0
PassesByEntries d marks k =
    (i : ℕ) → 0 < i → Table.entry (table_of d) i k ≡ pos 0 →
    (j : ℕ) → Contains (marked_labels marks) j → i < j → Table.entry (table_of d) i j ≡ pos 0
