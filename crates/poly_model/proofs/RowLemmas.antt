-- Rows counted from 1, as members of their list.
use Rattle.std.proofs.Common.{◌≡◌, ℕ, zero, suc, ◌-◌, ◌<◌, List, ◌∷◌, get_or, arith, refl, ap}
use Rattle.poly_model.specs.Systems.{Row, Polyhedron, no_file_row, no_row, file_row, row_of}

behind_first : {A : Type 0} (x d : A) (xs : List A) (i : ℕ) → 0 < i → get_or (x ∷ xs) i d ≡ get_or xs (i - 1) d
behind_first x d xs zero some = absurd (omega arith)
behind_first x d xs (suc i) some = let same : i ≡ suc i - 1 = omega arith in ap (λ k. get_or xs k d) same

pub row_from_one : (rows : List Row) (i : ℕ) → 0 < i → row_of rows i ≡ get_or rows (i - 1) no_row
row_from_one rows i some = behind_first no_row no_row rows i some

pub file_row_from_one : (p : Polyhedron) (i : ℕ) → 0 < i → file_row p i ≡ get_or p.rows (i - 1) no_file_row
file_row_from_one p i some = behind_first no_file_row no_file_row p.rows i some

-- the number 0 is that of no row
none_at_zero : (rows : List Row) → row_of rows 0 ≡ no_row
none_at_zero rows = refl

no_file_row_at_zero : (p : Polyhedron) → file_row p 0 ≡ no_file_row
no_file_row_at_zero p = refl
