-- The linear rows of a file by their labels, and whether they have a common point.
use Rattle.std.specs.Prelude.{◌≡◌, ◌≢◌, ℕ, pos, List, length}
use Rattle.std.specs.List.{Contains, filter, range_with_len}
use Rattle.poly_num.specs.Vectors.{Vector, ◌·◌}
use Rattle.poly_model.specs.Systems.{row_of, Polyhedron, file_rows}
use Rattle.poly_model.specs.Spaces.{Space, IsInside, prepare_space}

-- the labels of the linear rows of a file
abbrev pub equation_labels : Polyhedron → List ℕ
equation_labels p = filter (λ k. (row_of (file_rows p) k).linear) (range_with_len 1 (length (file_rows p)))

-- some vector of the space is not 0 at infinity, and these labels are 0 there
pub record HasPointOn (space : Space) (labels : List ℕ) : Type 0 where
  pub vector : Vector
  pub inside : IsInside space vector
  pub finite : space.infinity · vector ≢ pos 0
  pub zero : (i : ℕ) → Contains labels i → space.form i · vector ≡ pos 0

-- the equations have a common point: of an H file a vector that is not 0 at infinity and meets them all. The linear rows
-- of a V file always have one
abbrev pub AreConsistent : Polyhedron → Type 0
AreConsistent p = HasPointOn (prepare_space p) (equation_labels p)
