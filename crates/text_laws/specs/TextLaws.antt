-- What lrs prints, lrs reads: the text of a listing is read back as the polyhedron of its rows.
use Rattle.std.specs.Prelude.{ℕ, ◌+◌, List, length}
use Rattle.poly_num.specs.Vectors.{Vector}
use Rattle.poly_model.specs.declared.kind.Kind.{Kind}
use Rattle.poly_model.specs.Extreme.{IsFeasible}
use Rattle.poly_model.specs.Listing.{listing_text, IsListing}
use Rattle.poly_model.specs.Systems.{Polyhedron, cone_of}
use Rattle.poly_reader.specs.Reading.{IsFileOf}
use Rattle.text_laws.specs.Listed.{listed_polyhedron, HasEnough, IsWithinLimits, AreRows}

-- the text of lines and shown vectors that can be the rows of a file is a file, whose polyhedron has exactly these rows
abbrev pub RowsAreReadBack : Type 0
RowsAreReadBack =
    (kind : Kind) (n : ℕ) (lines shown : List Vector) → IsWithinLimits kind n lines shown → AreRows kind n lines shown
    → IsFileOf (listing_text kind n lines shown) (listed_polyhedron kind n lines shown)

-- the lines and the shown vectors of a listing can be the rows of a file
abbrev pub ListingHasRows : Type 0
ListingHasRows =
    (p : Polyhedron) (text : List ℕ) (l : IsListing p text) → HasEnough p.kind (length l.lines + length l.shown)
    → AreRows p.kind p.n l.lines l.shown

-- each listing of a polyhedron within the limits is a file, and its polyhedron has the lines and the shown vectors as
-- its rows; where the listing is a V file it has to have a row
abbrev pub ListingIsReadBack : Type 0
ListingIsReadBack =
    (p : Polyhedron) (text : List ℕ) (l : IsListing p text) → HasEnough p.kind (length l.lines + length l.shown)
    → IsWithinLimits p.kind p.n l.lines l.shown → IsFileOf text (listed_polyhedron p.kind p.n l.lines l.shown)

-- the listing of a feasible polyhedron has a row, so it is read back
abbrev pub FeasibleIsReadBack : Type 0
FeasibleIsReadBack =
    (p : Polyhedron) (text : List ℕ) (l : IsListing p text) → IsFeasible (cone_of p)
    → IsWithinLimits p.kind p.n l.lines l.shown → IsFileOf text (listed_polyhedron p.kind p.n l.lines l.shown)
