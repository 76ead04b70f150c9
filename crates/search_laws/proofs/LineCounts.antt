-- There is a line for each free column, so no more lines than columns.
use Rattle.std.proofs.Common.{arith, ◌≡◌, ℕ, ◌≤◌, List, [], ◌∷◌, length, refl}
use Rattle.std.specs.List.{range_with_len}
use Rattle.std.proofs.lemmas.List.FromFn.{length-range_with_len}
use Rattle.poly_num.specs.Vectors.{Vector}
use Rattle.poly_model.specs.FreeColumns.{AreFreeColumns, AreLines, AreLinesOf}
use Rattle.poly_model.specs.Limits.{most_columns}
use Rattle.poly_model.specs.Systems.{System}
use Rattle.dictionary_laws.proofs.Filters.{range_has}
use Rattle.dictionary_laws.proofs.KeyExchange.{ascending_distinct}
use Rattle.search_laws.proofs.OnceLists.{no_longer}

pub line_for_each : (sys : System) (free : List ℕ) (lines : List Vector) → AreLinesOf sys free lines → length lines ≡ length free
line_for_each sys [] [] h = refl
line_for_each sys (j ∷ free) (y ∷ lines) h = let e = line_for_each sys free lines h.1 in omega (arith, e)
line_for_each sys [] (y ∷ lines) h = absurd h
line_for_each sys (j ∷ free) [] h = absurd h

pub few_columns : (sys : System) (free : List ℕ) → AreFreeColumns sys free → length free ≤ sys.n
few_columns sys free f =
    let l = no_longer free (range_with_len 0 sys.n) (ascending_distinct free f.ascending)
    (λ j c. let w = ((f.exactly j).1 c).within in range_has 0 sys.n j (omega arith) (omega (arith, w))) in
    omega (arith, l, length-range_with_len 0 sys.n)

pub few_lines : (sys : System) (lines : List Vector) → AreLines sys lines → sys.n ≤ most_columns → length lines ≤ most_columns
few_lines sys lines l narrow =
    let a = line_for_each sys l.columns lines l.each in
    let b = few_columns sys l.columns l.free in
    omega (arith, a, b, narrow)
