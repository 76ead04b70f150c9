-- The lines and the extreme vectors of a polyhedron can be the rows of a file.
use Rattle.std.proofs.Common.{◌≡◌, ◌<◌, ◌+◌, ℕ, ℤ, pos, false, List, [], ◌∷◌, length, refl, sym, subst, ◌∙◌, inr, arith}
use Rattle.std.specs.Prelude.{◌≤ℤ◌}
use Rattle.std.specs.List.{AllByRecursion, Contains}
use Rattle.std.proofs.lemmas.List.Elements.{All-contains, recursion_from_All, Contains-append_right}
use Rattle.poly_num.specs.Vectors.{Vector}
use Rattle.linear_laws.proofs.Members.{Contains-first}
use Rattle.poly_model.specs.declared.kind.Kind.{Kind}
use Rattle.poly_model.specs.declared.kind.Kind.TheVariants.{H, V}
use Rattle.poly_model.specs.Cones.{Meets, IsTight, IsInCone}
use Rattle.poly_model.specs.Extreme.{IsExtreme, IsFeasible}
use Rattle.poly_model.specs.FreeColumns.{IsLine, AreLinesOf}
use Rattle.poly_model.specs.Listing.{IsListing}
use Rattle.poly_model.specs.Systems.{Row, Polyhedron, System, first_unit, file_rows, added_row, cone_of}
use Rattle.poly_reader.specs.Reading.{IsFileOf}
use Rattle.cone_laws.proofs.FeasibleLemmas.{first_unit_reads, feasible_file_by_vertex}
use Rattle.text_laws.specs.Listed.{listed_polyhedron, HasEnough, IsWithinLimits, IsSmallest, BeginsAsLine, BeginsAsRow, AreRows}
use Rattle.text_laws.proofs.WholeText.{rows_are_read_back}

-- ---- the row at infinity of an H file

infinity : ℕ → Row
infinity n = record { entries = first_unit n; linear = false; point = false }

has_infinity : (p : Polyhedron) → p.kind ≡ H → Contains (cone_of p).rows (infinity p.n)
unfolding infinity
has_infinity p e =
    Contains-append_right (file_rows p) (added_row p.kind p.n (file_rows p)) (infinity p.n)
    (subst (λ (k : Kind). Contains (added_row k p.n (file_rows p)) (infinity p.n)) (sym e)
    (Contains-first (infinity p.n) []))

line_begins : (p : Polyhedron) (kind : Kind) (j : ℕ) (y : Vector) → p.kind ≡ kind → IsLine (cone_of p) j y
    → BeginsAsLine kind y
unfolding infinity
line_begins p V j y e h = tt
line_begins p H j y e h =
    sym (first_unit_reads p.n y)
    ∙ All-contains (IsTight y) (cone_of p).rows (infinity p.n) h.vanishing (has_infinity p e)

row_begins : (p : Polyhedron) (kind : Kind) (y : Vector) → p.kind ≡ kind → IsInCone (cone_of p) y → BeginsAsRow kind y
unfolding infinity
row_begins p V y e h = tt
row_begins p H y e h =
    subst (λ (z : ℤ). pos 0 ≤ℤ z) (first_unit_reads p.n y)
    (All-contains (Meets y) (cone_of p).rows (infinity p.n) h.meets (has_infinity p e))

-- ---- the lines, and the shown vectors

line_sizes : (sys : System) (columns : List ℕ) (lines : List Vector) → AreLinesOf sys columns lines
    → AllByRecursion (IsSmallest sys.n) lines
line_sizes sys [] [] h = tt
line_sizes sys [] (y ∷ lines) h = absurd h
line_sizes sys (j ∷ columns) [] h = absurd h
line_sizes sys (j ∷ columns) (y ∷ lines) h =
    (record { width = h.0.width; smallest = inr h.0.primitive }, line_sizes sys columns lines h.1)

lines_begin : (p : Polyhedron) (columns : List ℕ) (lines : List Vector) → AreLinesOf (cone_of p) columns lines
    → AllByRecursion (BeginsAsLine p.kind) lines
lines_begin p [] [] h = tt
lines_begin p [] (y ∷ lines) h = absurd h
lines_begin p (j ∷ columns) [] h = absurd h
lines_begin p (j ∷ columns) (y ∷ lines) h = (line_begins p p.kind j y refl h.0, lines_begin p columns lines h.1)

shown_sizes : (sys : System) (shown : List Vector) → AllByRecursion (IsExtreme sys) shown
    → AllByRecursion (IsSmallest sys.n) shown
shown_sizes sys [] h = tt
shown_sizes sys (y ∷ shown) h =
    (record { width = h.0.in_cone.width; smallest = inr h.0.primitive }, shown_sizes sys shown h.1)

shown_begins : (p : Polyhedron) (shown : List Vector) → AllByRecursion (IsExtreme (cone_of p)) shown
    → AllByRecursion (BeginsAsRow p.kind) shown
shown_begins p [] h = tt
shown_begins p (y ∷ shown) h = (row_begins p p.kind y refl h.0.in_cone, shown_begins p shown h.1)

pub listing_has_rows : (p : Polyhedron) (text : List ℕ) (l : IsListing p text)
    → HasEnough p.kind (length l.lines + length l.shown) → AreRows p.kind p.n l.lines l.shown
listing_has_rows p text l enough =
    let sys = cone_of p in
    let each = recursion_from_All (IsExtreme sys) l.shown l.are_extreme.only in
    record {
      enough = enough;
      line_sizes = line_sizes sys l.are_lines.columns l.lines l.are_lines.each;
      line_begins = lines_begin p l.are_lines.columns l.lines l.are_lines.each;
      shown_sizes = shown_sizes sys l.shown each;
      shown_begins = shown_begins p l.shown each;
    }

-- ---- the listing is read back

pub listing_is_read_back : (p : Polyhedron) (text : List ℕ) (l : IsListing p text)
    → HasEnough p.kind (length l.lines + length l.shown) → IsWithinLimits p.kind p.n l.lines l.shown
    → IsFileOf text (listed_polyhedron p.kind p.n l.lines l.shown)
listing_is_read_back p text l enough within =
    rw l.is_text (rows_are_read_back p.kind p.n l.lines l.shown within (listing_has_rows p text l enough))

some_member : (xs : List Vector) (y : Vector) → Contains xs y → 0 < length xs
some_member xs y (k, lt, e) = omega arith

feasible_has_enough : (p : Polyhedron) (kind : Kind) (text : List ℕ) (l : IsListing p text) → p.kind ≡ kind
    → IsFeasible (cone_of p) → HasEnough kind (length l.lines + length l.shown)
feasible_has_enough p V text l e h = tt
feasible_has_enough p H text l e h =
    let v = (feasible_file_by_vertex p e).0 h in
    let some = some_member l.shown v.vector (l.are_extreme.every v.vector v.extreme) in
    omega arith

pub feasible_is_read_back : (p : Polyhedron) (text : List ℕ) (l : IsListing p text) → IsFeasible (cone_of p)
    → IsWithinLimits p.kind p.n l.lines l.shown → IsFileOf text (listed_polyhedron p.kind p.n l.lines l.shown)
feasible_is_read_back p text l h within =
    listing_is_read_back p text l (feasible_has_enough p p.kind text l refl h) within
