-- A fact of all numbers by their labels is one of all cells.
use Rattle.std.proofs.Common.{◌≡◌, ℕ, zero, suc, ◌+◌, ◌*◌, ◌/◌, ◌%◌, ◌<◌, ℤ, pos, length, get_or, arith, ap, subst, ◌∙◌, mul_comm}
use Rattle.std.specs.List.{AllByRecursion, Contains}
use Rattle.std.proofs.lemmas.List.Elements.{All-from_get_or, Contains-get_or, recursion_from_All}
use Rattle.std.proofs.Math.Nat.{div-add-mod, div-lt_iff_lt-mul, mod-lt}
use Rattle.dictionary_laws.specs.Keys.{place_in}
use Rattle.columns.specs.Cells.{cell_at}
use Rattle.dictionary.specs.Views.{Dictionary, number, IsWhole}
use Rattle.dictionary.proofs.Numbers.{row_number}
use Rattle.dictionary.proofs.PlaceLemmas.{place_at}

-- where there is a place there is a row
some_rows : (h w n : ℕ) → n < w * h → 0 < h
some_rows zero w n l = absurd (omega arith)
some_rows (suc h) w n l = omega arith

pub each_number : (P : ℤ → Type 0) (d : Dictionary) → IsWhole d →
    ((i : ℕ) → Contains d.labels i → P (number d i 0)) →
    ((i k : ℕ) → Contains d.labels i → Contains d.columns k → P (number d i (suc (place_in d.columns k)))) →
    AllByRecursion P d.cells
each_number P d whole constants entries = recursion_from_All P d.cells (All-from_get_or P d.cells (pos 0) at)
  where
    -- the number of a row's label is the cell of that row
    is_cell : (i j : ℕ) → i < length d.rows → number d (get_or d.rows i 0) j ≡ cell_at (length d.rows) d.cells i j
    is_cell i j l =
        row_number d (get_or d.rows i 0) j (whole.row_back (get_or d.rows i 0) (Contains-get_or d.rows i 0 l)).1
        ∙ ap (λ a. cell_at (length d.rows) d.cells a j) (place_at d.rows i 0 whole.distinct_rows l)

    in_row : (i j : ℕ) → i < length d.rows → j < suc (length d.columns) → P (cell_at (length d.rows) d.cells i j)
    in_row i zero l m =
        subst P (is_cell i 0 l)
        (constants (get_or d.rows i 0) (whole.row_back (get_or d.rows i 0) (Contains-get_or d.rows i 0 l)).0)
    in_row i (suc j) l m =
        let lt : j < length d.columns = omega arith in
        subst P
        (ap (λ b. number d (get_or d.rows i 0) (suc b)) (place_at d.columns j 0 whole.distinct lt) ∙ is_cell i (suc j) l)
        (entries (get_or d.rows i 0) (get_or d.columns j 0)
        (whole.row_back (get_or d.rows i 0) (Contains-get_or d.rows i 0 l)).0 (Contains-get_or d.columns j 0 lt))

    at : (n : ℕ) → n < length d.cells → P (get_or d.cells n (pos 0))
    at n l =
        let h = length d.rows in
        let some : 0 < h = some_rows h (suc (length d.columns)) n (omega (arith, whole.size)) in
        let place : n / h * h + n % h ≡ n =
        ap (λ (m : ℕ). m + n % h) (mul_comm (n / h) h) ∙ div-add-mod n h in
        subst (λ (m : ℕ). P (get_or d.cells m (pos 0))) place
        (in_row (n % h) (n / h) (mod-lt n some)
        ((div-lt_iff_lt-mul some).1 (omega (arith, whole.size))))
