-- What a listing of a polyhedron is, as a text.
use Rattle.std.specs.Prelude.{◌≡◌, ℕ, List, ◌++◌, length}
use Rattle.std.specs.List.{flat_map}
use Rattle.poly_num.specs.Vectors.{Vector}
use Rattle.poly_model.specs.declared.kind.Kind.{Kind}
use Rattle.poly_model.specs.Systems.{Polyhedron, cone_of}
use Rattle.poly_model.specs.FreeColumns.{AreLines}
use Rattle.poly_model.specs.Extreme.{AreExtreme}
use Rattle.poly_model.specs.ListingText.{head_text, vector_text, row_text, end_text}

-- the head, the lines, the shown rows and the end, for an input file of this kind with rows of n numbers
abbrev pub listing_text : Kind → ℕ → List Vector → List Vector → List ℕ
listing_text kind n lines shown =
    head_text kind n (length lines) ++ (flat_map vector_text lines ++ (flat_map (row_text kind) shown ++ end_text))

-- the text lists the lines by ascending free column, and then the extreme vectors, each once, in any order
pub record IsListing (p : Polyhedron) (text : List ℕ) : Type 0 where
  pub lines : List Vector
  pub shown : List Vector
  pub are_lines : AreLines (cone_of p) lines
  pub are_extreme : AreExtreme (cone_of p) shown
  pub is_text : text ≡ listing_text p.kind p.n lines shown
