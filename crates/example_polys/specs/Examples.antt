-- The example polyhedra: of each family and n a list of rows. A place is counted from 0.
use Rattle.std.specs.Prelude.{ℕ, ◌+◌, ◌-◌, ◌*◌, ℤ, pos, neg_ℤ, false, List, [], ◌∷◌, ◌++◌, map, replicate}
use Rattle.std.specs.List.{flat_map, range_with_len}
use Rattle.poly_num.specs.Vectors.{Vector}
use Rattle.poly_model.specs.declared.kind.Kind.{Kind}
use Rattle.poly_model.specs.declared.kind.Kind.TheVariants.{H, V}
use Rattle.poly_model.specs.Systems.{FileRow, Polyhedron}
use Rattle.example_polys.specs.declared.kind.ExampleKind.{ExampleKind}
use Rattle.example_polys.specs.declared.kind.ExampleKind.TheVariants.{Cube, Cross, Product, Pyramid}

abbrev pub one : ℤ
one = pos 1

abbrev pub minus_one : ℤ
minus_one = neg_ℤ (pos 1)

-- n entries: x at place i, and 0 elsewhere
abbrev pub one_at : ℕ → ℕ → ℤ → Vector
one_at n i x = replicate i (pos 0) ++ x ∷ replicate (n - i - 1) (pos 0)

-- a row for each of n places: the constant, and x at that place
abbrev pub unit_rows : ℤ → ℕ → ℤ → List Vector
unit_rows constant n x = map (λ i. constant ∷ one_at n i x) (range_with_len 0 n)

-- x_i >= 0 for each i, then 1 - x_i >= 0 for each i
abbrev pub cube : ℕ → List Vector
cube n = unit_rows (pos 0) n one ++ unit_rows one n minus_one

-- for each i the point with 1 at i, then for each i the point with -1 at i
abbrev pub cross : ℕ → List Vector
cross n = unit_rows one n one ++ unit_rows one n minus_one

-- x_i >= 0 for each i up to 2 n, then 1 less the first n of them >= 0, and 1 less the others >= 0
abbrev pub product : ℕ → List Vector
product n =
    unit_rows (pos 0) (2 * n) one ++
    (one ∷ (replicate n minus_one ++ replicate n (pos 0))) ∷ (one ∷ (replicate n (pos 0) ++ replicate n minus_one)) ∷ []

-- 1 + x times the coordinate of place i, less the last one, >= 0
abbrev pub side : ℕ → ℕ → ℤ → Vector
side n i x = one ∷ (one_at n i x ++ minus_one ∷ [])

-- both sides of place i
abbrev pub sides : ℕ → ℕ → List Vector
sides n i = side n i minus_one ∷ side n i one ∷ []

-- the last coordinate >= 0, then both sides of each of the others
abbrev pub pyramid : ℕ → List Vector
pyramid n = (pos 0 ∷ (replicate n (pos 0) ++ one ∷ [])) ∷ flat_map (sides n) (range_with_len 0 n)

abbrev pub example_rows : ExampleKind → ℕ → List Vector
example_rows Cube n = cube n
example_rows Cross n = cross n
example_rows Product n = product n
example_rows Pyramid n = pyramid n

-- how many numbers a row has
abbrev pub example_width : ExampleKind → ℕ → ℕ
example_width Cube n = n + 1
example_width Cross n = n + 1
example_width Product n = 2 * n + 1
example_width Pyramid n = n + 2

-- the cross polytope is given by points, the others by inequalities
abbrev pub file_kind : ExampleKind → Kind
file_kind Cube = H
file_kind Cross = V
file_kind Product = H
file_kind Pyramid = H

-- a row that is not linear
abbrev pub plain_row : Vector → FileRow
plain_row v = record { entries = v; linear = false }

-- the polyhedron; it has no text
abbrev pub example_of : ExampleKind → ℕ → Polyhedron
example_of kind n =
    record {
      kind = file_kind kind;
      n = example_width kind n;
      rows = map plain_row (example_rows kind n);
      nonnegative = false;
      text = [];
    }
