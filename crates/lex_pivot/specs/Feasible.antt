-- The lists of the rows outside a cobasis.
use Rattle.std.specs.Prelude.{ℕ, List}
use Rattle.poly_model.specs.LexOrder.{IsPositive, list_of}
use Rattle.poly_model.specs.Tree.{IsRowOutside}
use Rattle.dictionary.specs.Views.{Dictionary, table_of}

-- the list of row i is positive, where it is outside the cobasis
abbrev pub IsListPositive : Dictionary → List ℕ → ℕ → Type 0
IsListPositive d root i =
    IsRowOutside d.labels d.key i → IsPositive (list_of d.labels root d.key (table_of d) i)

-- so it is of each row: what lexicographically feasible cobases have beside their dictionary
abbrev pub AreListsPositive : Dictionary → List ℕ → Type 0
AreListsPositive d root = (i : ℕ) → IsListPositive d root i
