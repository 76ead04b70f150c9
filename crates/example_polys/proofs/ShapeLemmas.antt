-- How many rows an example has, how wide they are, and that its cells are read as its rows.
use Rattle.std.proofs.Common.{◌≡◌, ℕ, zero, suc, ◌+◌, ◌-◌, ◌*◌, ◌<◌, ◌≤◌, ℤ, pos, false, List, [], ◌∷◌, ◌++◌, map, replicate, length, take, drop, refl, ap, subst, length-append, arith}
use Rattle.std.specs.List.{flat_map, range_with_len, AllByRecursion}
use Rattle.std.proofs.lemmas.List.{length-replicate}
use Rattle.std.proofs.lemmas.List.FromFn.{length-map-range_with_len}
use Rattle.std.proofs.Math.Nat.{suc-mul, zero-mul}
use Rattle.std.proofs.Math.Seq.{take-append_seam, drop-append_seam}
use Rattle.poly_num.specs.Vectors.{Vector}
use Rattle.poly_model.specs.Limits.{most_columns, most_file_rows}
use Rattle.poly_model.specs.Systems.{FileRow, Polyhedron}
use Rattle.poly_model.specs.Tables.{file_rows_in, IsShaped}
use Rattle.example_polys.specs.declared.kind.ExampleKind.{ExampleKind}
use Rattle.example_polys.specs.declared.kind.ExampleKind.TheVariants.{Cube, Cross, Product, Pyramid}
use Rattle.example_polys.specs.Cells.{end_to_end}
use Rattle.example_polys.specs.Examples.{one, minus_one, one_at, unit_rows, side, sides, example_rows, example_width, file_kind, plain_row, example_of}
use Rattle.example_polys.proofs.EachRow.{all_both, all_rows, all_groups}

abbrev pub HasWidth : ℕ → Vector → Type 0
HasWidth w row = length row ≡ w

-- ---- counts

pub sides_count : (n a m : ℕ) → length (flat_map (sides n) (range_with_len a m)) ≡ 2 * m
sides_count n a zero = refl
sides_count n a (suc m) = omega (arith, sides_count n (a + 1) m)

-- how many rows each kind has
abbrev pub count_of : (kind : ExampleKind) (n : ℕ) → ℕ
count_of Cube n = 2 * n
count_of Cross n = 2 * n
count_of Product n = 2 * n + 2
count_of Pyramid n = 2 * n + 1

pub unit_count : (c : ℤ) (n : ℕ) (x : ℤ) → length (unit_rows c n x) ≡ n
unit_count c n x = length-map-range_with_len (λ i. c ∷ one_at n i x) 0 n

pub rows_count : (kind : ExampleKind) (n : ℕ) → length (example_rows kind n) ≡ count_of kind n
rows_count Cube n =
    omega (
      arith,
      length-append (unit_rows (pos 0) n one) (unit_rows one n minus_one),
      unit_count (pos 0) n one,
      unit_count one n minus_one,
    )
rows_count Cross n =
    omega (
      arith,
      length-append (unit_rows one n one) (unit_rows one n minus_one),
      unit_count one n one,
      unit_count one n minus_one,
    )
rows_count Product n =
    let first : Vector = one ∷ (replicate n minus_one ++ replicate n (pos 0)) in
    let second : Vector = one ∷ (replicate n (pos 0) ++ replicate n minus_one) in
    omega (arith, length-append (unit_rows (pos 0) (2 * n) one) (first ∷ second ∷ []), unit_count (pos 0) (2 * n) one)
rows_count Pyramid n = omega (arith, sides_count n 0 n)

-- ---- widths

pub one_width : (n i : ℕ) (x : ℤ) → i < n → length (one_at n i x) ≡ n
one_width n i x within =
    omega (
      arith,
      within,
      length-append (replicate i (pos 0)) (x ∷ replicate (n - i - 1) (pos 0)),
      length-replicate i (pos 0),
      length-replicate (n - i - 1) (pos 0),
    )

pub unit_wide : (c : ℤ) (n : ℕ) (x : ℤ) → AllByRecursion (HasWidth (n + 1)) (unit_rows c n x)
unit_wide c n x =
    all_rows (HasWidth (n + 1)) (λ i. c ∷ one_at n i x) 0 n (λ i below.
    let within : i < n = omega (arith, below) in
    omega (arith, one_width n i x within))

side_wide : (n i : ℕ) (x : ℤ) → i < n → length (side n i x) ≡ n + 2
side_wide n i x within =
    omega (arith, one_width n i x within, length-append (one_at n i x) (minus_one ∷ []))

half_wide : (n : ℕ) (x y : ℤ) → length (one ∷ (replicate n x ++ replicate n y)) ≡ 2 * n + 1
half_wide n x y =
    omega (arith, length-append (replicate n x) (replicate n y), length-replicate n x, length-replicate n y)

-- each row has the width of its kind
pub wide : (kind : ExampleKind) (n : ℕ) → AllByRecursion (HasWidth (example_width kind n)) (example_rows kind n)
wide Cube n = all_both (HasWidth (n + 1)) _ _ (unit_wide (pos 0) n one) (unit_wide one n minus_one)
wide Cross n = all_both (HasWidth (n + 1)) _ _ (unit_wide one n one) (unit_wide one n minus_one)
wide Product n =
    all_both (HasWidth (2 * n + 1)) _ _ (unit_wide (pos 0) (2 * n) one)
    (half_wide n minus_one (pos 0), (half_wide n (pos 0) minus_one, tt))
wide Pyramid n =
    let first : length (pos 0 ∷ (replicate n (pos 0) ++ one ∷ [])) ≡ n + 2 =
    omega (arith, length-append (replicate n (pos 0)) (one ∷ []), length-replicate n (pos 0)) in (
      first,
      all_groups (HasWidth (n + 2)) (sides n) 0 n (λ i below.
          let within : i < n = omega (arith, below) in
          (side_wide n i minus_one within, (side_wide n i one within, tt))),
    )

-- ---- cells

suc_times : (m w : ℕ) → suc m * w ≡ w + m * w
suc_times m w = omega (arith, suc-mul m w)

pub end_to_end_length : (w : ℕ) (rows : List Vector) → AllByRecursion (HasWidth w) rows →
    length (end_to_end rows) ≡ length rows * w
end_to_end_length w [] p = omega (arith, zero-mul w)
end_to_end_length w (row ∷ rows) p =
    let next : suc (length rows) * w ≡ w + length rows * w = suc_times (length rows) w in
    omega (arith, next, end_to_end_length w rows p.1, p.0, length-append row (end_to_end rows))

pub read_back : (w : ℕ) (rows : List Vector) → AllByRecursion (HasWidth w) rows →
    file_rows_in w (end_to_end rows) (replicate (length rows) false) ≡ map plain_row rows
read_back w [] p = refl
read_back w (row ∷ rows) p =
    let rest = end_to_end rows in
    let all = row ++ end_to_end rows in
    let first : take w all ≡ row = subst (λ k. take k all ≡ row) p.0 (take-append_seam row rest) in
    let behind : drop w all ≡ rest = subst (λ k. drop k all ≡ rest) p.0 (drop-append_seam row rest) in
    rw (first, behind) (ap (λ l. plain_row row ∷ l) (read_back w rows p.1))

few_rows : (kind : ExampleKind) (n : ℕ) → n ≤ 20 → length (example_rows kind n) ≤ most_file_rows
few_rows kind n few = rw (rows_count kind n) (few_counted kind few)
  where
    few_counted : (kind : ExampleKind) {n : ℕ} → n ≤ 20 → count_of kind n ≤ most_file_rows
    few_counted Cube few = omega (arith, few)
    few_counted Cross few = omega (arith, few)
    few_counted Product few = omega (arith, few)
    few_counted Pyramid few = omega (arith, few)

some_columns : (kind : ExampleKind) (n : ℕ) → 0 < example_width kind n
some_columns Cube n = omega arith
some_columns Cross n = omega arith
some_columns Product n = omega arith
some_columns Pyramid n = omega arith

few_columns : (kind : ExampleKind) (n : ℕ) → n ≤ 20 → example_width kind n ≤ most_columns
few_columns Cube n few = omega (arith, few)
few_columns Cross n few = omega (arith, few)
few_columns Product n few = omega (arith, few)
few_columns Pyramid n few = omega (arith, few)

-- the cells of an example are rows of its width
pub shaped : (kind : ExampleKind) (n : ℕ) → n ≤ 20 →
    IsShaped most_file_rows (length (replicate (length (example_rows kind n)) false)) (example_width kind n)
    (end_to_end (example_rows kind n))
shaped kind n few =
    let rows = example_rows kind n in
    rw (length-replicate (length rows) false) (record {
      full = end_to_end_length (example_width kind n) rows (wide kind n);
      few = few_rows kind n few;
      some = some_columns kind n;
      narrow = few_columns kind n few;
    })

-- an example with these rows
abbrev pub made : ExampleKind → ℕ → List FileRow → Polyhedron
made kind n rows = record { kind = file_kind kind; n = example_width kind n; rows = rows; nonnegative = false; text = [] }

-- what is read off the cells is the example
pub is_example : (kind : ExampleKind) (n : ℕ) →
    made kind n
    (file_rows_in (example_width kind n) (end_to_end (example_rows kind n))
    (replicate (length (example_rows kind n)) false))
    ≡ example_of kind n
is_example kind n = ap (made kind n) (read_back (example_width kind n) (example_rows kind n) (wide kind n))
