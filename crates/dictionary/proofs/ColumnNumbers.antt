-- A column of cells has the constants, or the entries at its label.
use Rattle.std.proofs.Common.{◌≡◌, ℕ, zero, suc, ◌<◌, length, arith, refl, sym, ap}
use Rattle.poly_model.specs.Dictionaries.{Table}
use Rattle.linear_laws.specs.Distinct.{AreDistinct}
use Rattle.dictionary.specs.Views.{Dictionary, number, table_of, column_label}
use Rattle.dictionary.proofs.PlaceLemmas.{place_at}

pub constant_in_column : (d : Dictionary) (i : ℕ) → number d i 0 ≡ Table.constant (table_of d) i
constant_in_column d i = refl

pub entry_in_column : (d : Dictionary) (i j : ℕ) → AreDistinct d.columns → 0 < j → j < suc (length d.columns) →
    number d i j ≡ Table.entry (table_of d) i (column_label d j)
entry_in_column d i zero once some within = absurd (omega (arith, some))
entry_in_column d i (suc j) once some within =
    let at = place_at d.columns j 0 once (omega (arith, within)) in
    ap (λ n. number d i (suc n)) (sym at)
