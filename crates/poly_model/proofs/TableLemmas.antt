-- The rows that cells are cut into: how many there are, and where each stands.
use Rattle.std.proofs.Common.{◌≡◌, ◌<◌, ◌≤◌, ◌+◌, ◌*◌, ℕ, zero, suc, Bool, false, List, [], ◌∷◌, length, take, drop, get_or, refl, ap, arith, ℤ, ◌-◌}
use Rattle.std.proofs.Math.Nat.{mul-le-mul_right, suc-mul, zero-mul}
use Rattle.std.proofs.lemmas.List.{drop-drop, length-take-le, length-drop}
use Rattle.poly_model.specs.Systems.{no_file_row, no_row, Polyhedron, System}
use Rattle.poly_model.specs.Tables.{file_rows_in, cone_rows_in, is_point_kind, IsShaped}
use Rattle.poly_model.specs.declared.kind.RowKind.{RowKind}

pub length-file_rows_in : (n : ℕ) (cells : List ℤ) (marks : List Bool) → length (file_rows_in n cells marks) ≡ length marks
length-file_rows_in n cells [] = refl
length-file_rows_in n cells (m ∷ marks) = ap suc (length-file_rows_in n (drop n cells) marks)

-- the entries of row i
pub entries_at : (n i : ℕ) (cells : List ℤ) (marks : List Bool) → i < length marks →
    (get_or (file_rows_in n cells marks) i no_file_row).entries ≡ take n (drop (i * n) cells)
entries_at n i cells [] lt = absurd (omega arith)
entries_at n zero cells (m ∷ marks) lt = rw (zero-mul n) refl
entries_at n (suc i) cells (m ∷ marks) lt =
    let next : n + i * n ≡ suc i * n = omega (arith, suc-mul i n) in
    rw (entries_at n i (drop n cells) marks (omega arith), drop-drop (i * n) n cells, next) refl

-- the mark of row i
pub linear_at : (n i : ℕ) (cells : List ℤ) (marks : List Bool) → i < length marks →
    (get_or (file_rows_in n cells marks) i no_file_row).linear ≡ get_or marks i false
linear_at n i cells [] lt = absurd (omega arith)
linear_at n zero cells (m ∷ marks) lt = refl
linear_at n (suc i) cells (m ∷ marks) lt = linear_at n i (drop n cells) marks (omega arith)

-- row i ends within the cells
pub row_within : (most m n i : ℕ) (cells : List ℤ) → IsShaped most m n cells → i < m → (i + 1) * n ≤ length cells
row_within most m n i cells h lt = let all : (i + 1) * n ≤ m * n = mul-le-mul_right n (omega arith) in omega (arith, h.full)

-- row i, counted from 1, of a polyhedron with these rows, lies among the marks
pub row_index : (n i : ℕ) (cells : List ℤ) (marks : List Bool) (p : Polyhedron) → file_rows_in n cells marks ≡ p.rows → 0 < i → i ≤ length p.rows → i - 1 < length marks
row_index n i cells marks p view some within = omega (arith, ap length view, length-file_rows_in n cells marks)

pub row_width : (n i : ℕ) (cells : List ℤ) → (i + 1) * n ≤ length cells → length (take n (drop (i * n) cells)) ≡ n
row_width n i cells h = length-take-le n (drop (i * n) cells) (let e : (i + 1) * n ≡ i * n + n = omega arith in omega (arith, length-drop (i * n) cells))

-- ---- the rows of a cone

pub length-cone_rows_in : (n : ℕ) (cells : List ℤ) (marks : List Bool) (kinds : List RowKind) → length kinds ≡ length marks → length (cone_rows_in n cells marks kinds) ≡ length marks
length-cone_rows_in n cells [] kinds e = refl
length-cone_rows_in n cells (m ∷ marks) [] e = absurd (omega arith)
length-cone_rows_in n cells (m ∷ marks) (k ∷ kinds) e = ap suc (length-cone_rows_in n (drop n cells) marks kinds (omega arith))

-- the entries of row i
pub cone_entries_at : (n i : ℕ) (cells : List ℤ) (marks : List Bool) (kinds : List RowKind) → length kinds ≡ length marks → i < length marks →
    (get_or (cone_rows_in n cells marks kinds) i no_row).entries ≡ take n (drop (i * n) cells)
cone_entries_at n i cells [] kinds e lt = absurd (omega arith)
cone_entries_at n i cells (m ∷ marks) [] e lt = absurd (omega arith)
cone_entries_at n zero cells (m ∷ marks) (k ∷ kinds) e lt = rw (zero-mul n) refl
cone_entries_at n (suc i) cells (m ∷ marks) (k ∷ kinds) e lt =
    let next : n + i * n ≡ suc i * n = omega (arith, suc-mul i n) in
    rw (cone_entries_at n i (drop n cells) marks kinds (omega arith) (omega arith), drop-drop (i * n) n cells, next) refl

-- whether row i is linear
pub cone_linear_at : (n i : ℕ) (cells : List ℤ) (marks : List Bool) (kinds : List RowKind) → length kinds ≡ length marks → i < length marks →
    (get_or (cone_rows_in n cells marks kinds) i no_row).linear ≡ get_or marks i false
cone_linear_at n i cells [] kinds e lt = absurd (omega arith)
cone_linear_at n i cells (m ∷ marks) [] e lt = absurd (omega arith)
cone_linear_at n zero cells (m ∷ marks) (k ∷ kinds) e lt = refl
cone_linear_at n (suc i) cells (m ∷ marks) (k ∷ kinds) e lt = cone_linear_at n i (drop n cells) marks kinds (omega arith) (omega arith)

-- whether row i is a point
pub cone_point_at : (n i : ℕ) (cells : List ℤ) (marks : List Bool) (kinds : List RowKind) (d : RowKind) → length kinds ≡ length marks → i < length marks →
    (get_or (cone_rows_in n cells marks kinds) i no_row).point ≡ is_point_kind (get_or kinds i d)
cone_point_at n i cells [] kinds d e lt = absurd (omega arith)
cone_point_at n i cells (m ∷ marks) [] d e lt = absurd (omega arith)
cone_point_at n zero cells (m ∷ marks) (k ∷ kinds) d e lt = refl
cone_point_at n (suc i) cells (m ∷ marks) (k ∷ kinds) d e lt = cone_point_at n i (drop n cells) marks kinds d (omega arith) (omega arith)

-- row i, counted from 1, of a cone with these rows, lies among the marks
pub cone_row_index : (n i : ℕ) (cells : List ℤ) (marks : List Bool) (kinds : List RowKind) (s : System) → length kinds ≡ length marks → cone_rows_in n cells marks kinds ≡ s.rows → 0 < i → i ≤ length s.rows → i - 1 < length marks
cone_row_index n i cells marks kinds s e view some within = omega (arith, ap length view, length-cone_rows_in n cells marks kinds e)
