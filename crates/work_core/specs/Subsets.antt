-- The keys of the work by prefixes of subsets of rows, and what is in the share of one: the extreme vectors whose list of
-- tight rows begins with it.
use Rattle.std.specs.Prelude.{◌≡◌, ℕ, ◌-◌, ◌≤◌, Bool, not, pos, List, [], ◌∷◌, ◌++◌, map, length}
use Rattle.std.specs.List.{All, Contains, filter, range_with_len}
use Rattle.std.specs.Ordering.{int_eq}
use Rattle.poly_num.specs.Vectors.{Vector, ◌·◌}
use Rattle.poly_model.specs.Keys.{IsKey}
use Rattle.poly_model.specs.Systems.{row_of, Polyhedron, cone_of}
use Rattle.poly_model.specs.FreeColumns.{AreFreeColumns}
use Rattle.poly_model.specs.Independence.{IsFirstBasis}
use Rattle.poly_model.specs.Extreme.{IsExtreme}
use Rattle.poly_model.specs.Spaces.{Space, without_constants, marked}
use Rattle.poly_model.specs.Dictionaries.{IsCobasis}
use Rattle.cone_laws.specs.Faces.{fixed_rows}

-- ---- keys
-- the cone's rows on the space where the free coordinates and the linear rows are 0
abbrev pub reduced_space : Polyhedron → List ℕ → Space
reduced_space p free = without_constants p.n (fixed_rows free (cone_of p)) (cone_of p).rows

-- its dimension: so many independent rows or coordinates determine a vector of it
pub record IsReducedDimension (p : Polyhedron) (dimension : ℕ) : Type 0 where
  pub free : List ℕ
  pub columns : AreFreeColumns (cone_of p) free
  pub basis : List ℕ
  pub cobasis : IsCobasis (reduced_space p free) basis
  pub count : length basis ≡ dimension

-- the labels of the rows of the cone
abbrev pub cone_labels : Polyhedron → List ℕ
cone_labels p = range_with_len 1 (length (cone_of p).rows)

-- those of the rows that are not linear
abbrev pub plain_labels : Polyhedron → List ℕ
plain_labels p = filter (λ i. not (row_of (cone_of p).rows i).linear) (cone_labels p)

-- the keys are the ascending lists of these that are shorter than the dimension; where it is 0, the empty list alone
pub record IsSubsetKey (p : Polyhedron) (key : List ℕ) : Type 0 where
  pub ascending : IsKey key
  pub rows : All (Contains (plain_labels p)) key
  pub dimension : ℕ
  pub reduced : IsReducedDimension p dimension
  pub short : length key ≤ dimension - 1

-- one list begins with another, and has so many labels more
pub record IsSubsetDepth (one key : List ℕ) (depth : ℕ) : Type 0 where
  pub more : List ℕ
  pub begins : one ≡ key ++ more
  pub count : length more ≡ depth

-- a child has one label more, behind the others
pub record IsSubsetChildAt (p : Polyhedron) (key : List ℕ) (s : ℕ) (child : List ℕ) : Type 0 where
  pub longer : child ≡ key ++ s ∷ []
  pub is_key : IsSubsetKey p child

-- ---- vectors
-- those of the rows that are tight at y, ascending
abbrev pub tight_labels : Polyhedron → Vector → List ℕ
tight_labels p y = filter (λ i. int_eq ((row_of (cone_of p).rows i).entries · y) (pos 0)) (cone_labels p)

-- the list of y: of the rows tight at y, ascending, each that is new over what is fixed and those taken before it
pub record IsListOf (p : Polyhedron) (y : Vector) (list : List ℕ) : Type 0 where
  pub free : List ℕ
  pub columns : AreFreeColumns (cone_of p) free
  pub marks : List Bool
  pub first : IsFirstBasis p.n (fixed_rows free (cone_of p)) (map (λ i. (row_of (cone_of p).rows i).entries) (tight_labels p y)) marks
  pub taken : list ≡ marked (tight_labels p y) marks

-- y is in the share of the key: it is extreme, and its list begins with the key
pub record InSubset (p : Polyhedron) (key : List ℕ) (y : Vector) : Type 0 where
  pub extreme : IsExtreme (cone_of p) y
  pub rest : List ℕ
  pub list : IsListOf p y (key ++ rest)

-- a vector is shown at its list
abbrev pub IsShownAtList : Polyhedron → List ℕ → Vector → Type 0
IsShownAtList p key y = IsExtreme (cone_of p) y × IsListOf p y key
