-- The rows of a file from their entries and marks, and the row that is added behind them.
use Rattle.std.proofs.Common.{◌≡◌, ◌<◌, ◌+◌, ◌-◌, ◌*◌, ℕ, zero, suc, ℤ, pos, Bool, true, false, List, [], ◌∷◌, ◌++◌, length, map, take, drop, if◌then◌else◌, get_or, refl, sym, ap, subst, ◌∙◌, inl, inr, arith, append_assoc, append-nil, length-append}
use Rattle.std.proofs.Math.Nat.{suc-mul}
use Rattle.std.specs.Prelude.{replicate, ◌==◌}
use Rattle.std.proofs.lemmas.Bool.{cases_eq, eq-eqb, ne_eqb}
use Rattle.std.specs.List.{All, AllByRecursion, list_any, range_with_len}
use Rattle.std.proofs.lemmas.List.{take_more, take-append-le, drop-append-le, take_all, drop_all, length-map, length-replicate, length-set, map-append, get_or-replicate, get_or-set_same, get_or-set_other, replicate_more}
use Rattle.std.proofs.lemmas.List.Concat.{flat_map-append}
use Rattle.std.proofs.lemmas.List.Elements.{All-append, All-from_recursion, All-head, All-tail}
use Rattle.poly_num.specs.Vectors.{Vector}
use Rattle.poly_model.specs.declared.kind.Kind.{Kind}
use Rattle.poly_model.specs.declared.kind.Kind.TheVariants.{H, V}
use Rattle.poly_model.specs.declared.kind.RowKind.{RowKind}
use Rattle.poly_model.specs.declared.kind.RowKind.TheVariants.{Point, Ray}
use Rattle.poly_model.specs.Systems.{Polyhedron, System, cone_of, FileRow, Row, no_file_row, first_unit, starts_positive, cone_row, is_point_row, added_row, nonnegative_row, nonnegative_rows, with_nonnegative, all_rows}
use Rattle.poly_model.specs.Tables.{cone_rows_in, is_point_kind}
use Rattle.hull_lift.specs.Cells.{entries_of, cells_of, HasWidth, is_linear, linear_marks, row_kind, row_kinds, added_kind, nonnegative_count}

-- the cells of one row more
pub cells_of_one_more : (rows : List FileRow) (i : ℕ) → i < length rows
    → cells_of (take (i + 1) rows) ≡ cells_of (take i rows) ++ (get_or rows i no_file_row).entries
cells_of_one_more rows i lt =
    rw (
      take_more rows i no_file_row lt,
      flat_map-append entries_of (take i rows) (get_or rows i no_file_row ∷ []),
      append-nil,
    ) refl

length-cells_of : (n : ℕ) (rows : List FileRow) → All (HasWidth n) rows → length (cells_of rows) ≡ length rows * n
length-cells_of n [] wide = omega arith
length-cells_of n (row ∷ rows) wide =
    omega (
      arith,
      length-append row.entries (cells_of rows),
      All-head (HasWidth n) row rows wide,
      length-cells_of n rows (All-tail (HasWidth n) row rows wide),
      suc-mul (length rows) n,
    )

-- the kind of a row says whether it is a point
marked : (b : Bool) → b ≡ is_point_kind (if b then Point else Ray)
marked true = refl
marked false = refl

-- the row of the cone by the marks of a row of the file
row_by_marks : (kind : Kind) (row : FileRow)
    → cone_row kind row
    ≡ record { entries = row.entries; linear = row.linear; point = is_point_kind (row_kind kind row.entries) }
row_by_marks H row = refl
row_by_marks V row = ap (λ (b : Bool). record { entries = row.entries; linear = row.linear; point = b })
    (marked (starts_positive row.entries))

-- the rows that are cut out of the cells and marks of a file's rows, and of others behind them
rows_from_cells : (kind : Kind) (n : ℕ) (rows : List FileRow) (cells : Vector) (marks : List Bool)
    (kinds : List RowKind) → All (HasWidth n) rows
    → cone_rows_in n (cells_of rows ++ cells) (linear_marks rows ++ marks) (row_kinds kind rows ++ kinds)
    ≡ map (cone_row kind) rows ++ cone_rows_in n cells marks kinds
rows_from_cells kind n [] cells marks kinds wide = refl
rows_from_cells kind n (row ∷ rows) cells marks kinds wide =
    let width : length row.entries ≡ n = All-head (HasWidth n) row rows wide in
    let h = rows_from_cells kind n rows cells marks kinds (All-tail (HasWidth n) row rows wide) in
    let front : take n (row.entries ++ (cells_of rows ++ cells)) ≡ row.entries =
    take-append-le n row.entries (cells_of rows ++ cells) (omega arith) ∙ take_all n row.entries (omega arith) in
    let rest : drop n (row.entries ++ (cells_of rows ++ cells)) ≡ cells_of rows ++ cells =
    drop-append-le n row.entries (cells_of rows ++ cells) (omega arith)
    ∙ ap (λ (v : Vector). v ++ (cells_of rows ++ cells)) (drop_all n row.entries (omega arith)) in
    rw (append_assoc row.entries (cells_of rows) cells, front, rest, h, row_by_marks kind row) refl

-- ---- the row that is added

-- some row of the cone is a point exactly where some row is marked as one
point_by_marks : (kind : Kind) (rows : List FileRow) →
    list_any is_point_row (map (cone_row kind) rows) ≡ list_any is_point_kind (row_kinds kind rows)
point_by_marks kind [] = refl
point_by_marks kind (row ∷ rows) =
    rw (ap (λ (r : Row). r.point) (row_by_marks kind row), point_by_marks kind rows) refl

no_point_of_inequalities : (rows : List FileRow) → list_any is_point_kind (row_kinds H rows) ≡ false
no_point_of_inequalities [] = refl
no_point_of_inequalities (row ∷ rows) = no_point_of_inequalities rows

-- nothing is added where a point stands
nothing_added : (kind : Kind) (n : ℕ) (rows : List FileRow) → list_any is_point_kind (row_kinds kind rows) ≡ true →
    added_row kind n (map (cone_row kind) rows) ≡ []
nothing_added H n rows point = absurd (let e = no_point_of_inequalities rows in cc)
nothing_added V n rows point = rw (point_by_marks V rows, point) refl

-- elsewhere one row is
one_added : (kind : Kind) (n : ℕ) (rows : List FileRow) → list_any is_point_kind (row_kinds kind rows) ≡ false
    → added_row kind n (map (cone_row kind) rows)
    ≡ record { entries = first_unit n; linear = false; point = is_point_kind (added_kind kind) } ∷ []
one_added H n rows none = refl
one_added V n rows none = rw (point_by_marks V rows, none) refl

-- these rows are all rows of the cone of p
abbrev pub IsCone : Polyhedron → List Row → Type 0
IsCone p rows = ◌≡◌ {A = System} (record { kind = p.kind; n = p.n; rows = rows }) (cone_of p)

same_cone : (p : Polyhedron) (rows : List Row) → rows ≡ (cone_of p).rows → IsCone p rows
same_cone p rows e = ap (λ (l : List Row). record { kind = p.kind; n = p.n; rows = l }) e

-- one more zero
pub first_unit_more : (n : ℕ) → 0 < n → first_unit n ++ pos 0 ∷ [] ≡ first_unit (n + 1)
first_unit_more n some =
    let e : n - 1 + 1 ≡ n + 1 - 1 = omega arith in
    ap (λ (v : Vector). pos 1 ∷ v) (replicate_more (n - 1) (pos 0) ∙ ap (λ (k : ℕ). replicate k (pos 0)) e)

length-first_unit : (n : ℕ) → 0 < n → length (first_unit n) ≡ n
length-first_unit n some = omega (arith, length-replicate (n - 1) (pos 0))

-- the cone from cells and marks, where a point stands
pub cone_with_point : (p : Polyhedron) → All (HasWidth p.n) (all_rows p) →
    list_any is_point_kind (row_kinds p.kind (all_rows p)) ≡ true
    → IsCone p (cone_rows_in p.n (cells_of (all_rows p)) (linear_marks (all_rows p)) (row_kinds p.kind (all_rows p)))
cone_with_point p wide point =
    let behind = rows_from_cells p.kind p.n (all_rows p) [] [] [] wide in
    let rows : cone_rows_in p.n (cells_of (all_rows p)) (linear_marks (all_rows p)) (row_kinds p.kind (all_rows p))
    ≡ map (cone_row p.kind) (all_rows p) ++ [] =
    rw (append-nil (cells_of (all_rows p)), append-nil (linear_marks (all_rows p)), append-nil (row_kinds p.kind (all_rows p)))
    at behind in
    same_cone p _ (rows ∙ rw (nothing_added p.kind p.n (all_rows p) point) refl)

-- and where none does
pub cone_without_point : (p : Polyhedron) → 0 < p.n → All (HasWidth p.n) (all_rows p) →
    list_any is_point_kind (row_kinds p.kind (all_rows p)) ≡ false
    → IsCone p (cone_rows_in p.n (cells_of (all_rows p) ++ first_unit p.n) (linear_marks (all_rows p) ++ false ∷ [])
    (row_kinds p.kind (all_rows p) ++ added_kind p.kind ∷ []))
cone_without_point p some wide none =
    let whole : take p.n (first_unit p.n) ≡ first_unit p.n =
    take_all p.n (first_unit p.n) (omega (arith, length-first_unit p.n some)) in
    same_cone p _ (rows_from_cells p.kind p.n (all_rows p) (first_unit p.n) (false ∷ []) (added_kind p.kind ∷ []) wide
    ∙ rw (whole, one_added p.kind p.n (all_rows p) none) refl)

-- ---- how many cells there are

length-linear_marks : (rows : List FileRow) → length (linear_marks rows) ≡ length rows
length-linear_marks rows = length-map rows is_linear

pub full_cells : (n : ℕ) (rows : List FileRow) → All (HasWidth n) rows →
    length (cells_of rows) ≡ length (linear_marks rows) * n
full_cells n rows wide = rw (length-linear_marks rows) (length-cells_of n rows wide)

pub full_with_added : (n : ℕ) (rows : List FileRow) → 0 < n → All (HasWidth n) rows →
    length (cells_of rows ++ first_unit n) ≡ length (linear_marks rows ++ false ∷ []) * n
full_with_added n rows some wide =
    let more : length (linear_marks rows ++ false ∷ []) ≡ suc (length rows) =
    omega (arith, length-append (linear_marks rows) (false ∷ []), length-linear_marks rows) in
    rw more (omega (
      arith,
      length-append (cells_of rows) (first_unit n),
      length-cells_of n rows wide,
      length-first_unit n some,
      suc-mul (length rows) n,
    ))

-- ---- the rows that `nonnegative` adds

length-nonnegative_row : (n j : ℕ) → length (nonnegative_row n j).entries ≡ n
length-nonnegative_row n j = length-set (replicate n (pos 0)) j (pos 1) ∙ length-replicate n (pos 0)

nonnegative_entry : (n j i : ℕ) → i < n → get_or (nonnegative_row n j).entries i (pos 0) ≡ (if i == j then pos 1 else pos 0)
nonnegative_entry n j i lt = elim (cases_eq i j) [
  | inl e ↦ rw (e, eq-eqb j j refl) (get_or-set_same (replicate n (pos 0)) j (pos 1) (pos 0)
      (omega (arith, e, lt, length-replicate n (pos 0))))
  | inr d ↦ rw (ne_eqb i j d) (get_or-set_other (replicate n (pos 0)) j i (pos 1) (pos 0) d
      ∙ get_or-replicate n i (pos 0) (pos 0) lt)
]

-- one entry more
pub row_more : (n j i : ℕ) → i < n → take i (nonnegative_row n j).entries ++ (if i == j then pos 1 else pos 0) ∷ []
    ≡ take (i + 1) (nonnegative_row n j).entries
row_more n j i lt =
    ap (λ (x : ℤ). take i (nonnegative_row n j).entries ++ x ∷ []) (sym (nonnegative_entry n j i lt))
    ∙ sym (take_more (nonnegative_row n j).entries i (pos 0) (omega (arith, lt, length-nonnegative_row n j)))

pub row_whole : (n j : ℕ) → take n (nonnegative_row n j).entries ≡ (nonnegative_row n j).entries
row_whole n j = take_all n (nonnegative_row n j).entries (omega (arith, length-nonnegative_row n j))

-- one row more
pub rows_more : (n a i : ℕ) → cells_of (map (nonnegative_row n) (range_with_len a i)) ++ (nonnegative_row n (i + a)).entries
    ≡ cells_of (map (nonnegative_row n) (range_with_len a (i + 1)))
rows_more n a zero = let e : 0 + a ≡ a = omega arith in rw e (sym (append-nil (nonnegative_row n a).entries))
rows_more n a (suc i) =
    let e : suc i + a ≡ i + (a + 1) = omega arith in
    let f : suc i + 1 ≡ suc (i + 1) = omega arith in
    rw (e, f) (append_assoc (nonnegative_row n a).entries (cells_of (map (nonnegative_row n) (range_with_len (a + 1) i)))
    (nonnegative_row n (i + (a + 1))).entries
    ∙ ap (λ (v : Vector). (nonnegative_row n a).entries ++ v) (rows_more n (a + 1) i))

nonnegative_wide : (n a m : ℕ) → AllByRecursion (HasWidth n) (map (nonnegative_row n) (range_with_len a m))
nonnegative_wide n a zero = tt
nonnegative_wide n a (suc m) = (length-nonnegative_row n a, nonnegative_wide n (a + 1) m)

nonnegative_unmarked : (n a m : ℕ) → linear_marks (map (nonnegative_row n) (range_with_len a m)) ≡ replicate m false
nonnegative_unmarked n a zero = refl
nonnegative_unmarked n a (suc m) = ap (λ (l : List Bool). false ∷ l) (nonnegative_unmarked n (a + 1) m)

nonnegative_rays : (n a m : ℕ) → row_kinds H (map (nonnegative_row n) (range_with_len a m)) ≡ replicate m Ray
nonnegative_rays n a zero = refl
nonnegative_rays n a (suc m) = ap (λ (l : List RowKind). Ray ∷ l) (nonnegative_rays n (a + 1) m)

-- how many rows are added by a polyhedron
abbrev pub added_count : Polyhedron → ℕ
added_count p = nonnegative_count p.kind p.nonnegative p.n

abbrev added_rows : Polyhedron → List FileRow
added_rows p = map (nonnegative_row p.n) (range_with_len 1 (added_count p))

rows_in_all : (p : Polyhedron) → all_rows p ≡ p.rows ++ added_rows p
rows_in_all p = by p.kind p.nonnegative
  where
    by : (kind : Kind) (b : Bool) → with_nonnegative kind b p.n p.rows
        ≡ p.rows ++ map (nonnegative_row p.n) (range_with_len 1 (nonnegative_count kind b p.n))
    by H true = refl
    by H false = sym (append-nil p.rows)
    by V b = sym (append-nil p.rows)

pub all_cells : (p : Polyhedron) → cells_of (all_rows p) ≡ cells_of p.rows ++ cells_of (added_rows p)
all_cells p = ap cells_of (rows_in_all p) ∙ flat_map-append entries_of p.rows (added_rows p)

pub all_wide : (p : Polyhedron) → All (HasWidth p.n) p.rows → All (HasWidth p.n) (all_rows p)
all_wide p h =
    subst (λ (rows : List FileRow). All (HasWidth p.n) rows) (sym (rows_in_all p))
    (All-append (HasWidth p.n) p.rows (added_rows p) h
    (All-from_recursion (HasWidth p.n) (added_rows p) (nonnegative_wide p.n 1 (added_count p))))

pub all_marks : (p : Polyhedron) → linear_marks (all_rows p) ≡ linear_marks p.rows ++ replicate (added_count p) false
all_marks p =
    ap linear_marks (rows_in_all p) ∙ map-append is_linear p.rows (added_rows p)
    ∙ ap (λ (l : List Bool). linear_marks p.rows ++ l) (nonnegative_unmarked p.n 1 (added_count p))

pub all_kinds : (p : Polyhedron) → row_kinds p.kind (all_rows p) ≡ row_kinds p.kind p.rows ++ replicate (added_count p) Ray
all_kinds p = by p.kind p.nonnegative
  where
    by : (kind : Kind) (b : Bool) → row_kinds kind (with_nonnegative kind b p.n p.rows)
        ≡ row_kinds kind p.rows ++ replicate (nonnegative_count kind b p.n) Ray
    by H true =
        map-append (λ (row : FileRow). row_kind H row.entries) p.rows (nonnegative_rows p.n)
        ∙ ap (λ (l : List RowKind). row_kinds H p.rows ++ l) (nonnegative_rays p.n 1 (p.n - 1))
    by H false = sym (append-nil (row_kinds H p.rows))
    by V b = sym (append-nil (row_kinds V p.rows))
