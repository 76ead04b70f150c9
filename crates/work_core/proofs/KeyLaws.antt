-- Shares hold extreme vectors alone, and the labels of keys are those of rows, for both works.
use Rattle.std.proofs.Common.{ℕ, List, not, length, arith}
use Rattle.std.specs.List.{Contains, range_with_len}
use Rattle.std.proofs.lemmas.Bool.{ltb-true}
use Rattle.std.proofs.lemmas.List.Elements.{All-contains}
use Rattle.poly_num.specs.Vectors.{Vector}
use Rattle.poly_model.specs.declared.kind.WorkKind.{WorkKind}
use Rattle.poly_model.specs.declared.kind.WorkKind.TheVariants.{Subsets, Subtrees}
use Rattle.poly_model.specs.Extreme.{IsExtreme}
use Rattle.poly_model.specs.Labels.{coordinates_from, is_row, IsRow}
use Rattle.poly_model.specs.LexOrder.{rows_in}
use Rattle.poly_model.specs.Spaces.{main_space}
use Rattle.poly_model.specs.Systems.{row_of, Polyhedron, cone_of}
use Rattle.tree_laws.proofs.ListedVectors.{searches_listing}
use Rattle.dictionary_laws.proofs.Filters.{filter_only, range_only}
use Rattle.work_core.specs.Laws.{SharesAreExtreme, KeysAreOfRows}
use Rattle.work_core.specs.Searches.{meaning_by, IsRootBy}
use Rattle.work_core.specs.Subsets.{plain_labels}

extreme_by : (kind : WorkKind) (p : Polyhedron) (root : List ℕ) → IsRow (length (cone_of p).rows) → IsRootBy kind p root →
    (key : List ℕ) (y : Vector) → (meaning_by kind p root).in_share key y → IsExtreme (cone_of p) y
extreme_by Subsets p root few h key y m = m.extreme
extreme_by Subtrees p root few h key y m = (searches_listing p root few h).only_extreme m.one m.place y m.shown

pub shares_are_extreme : SharesAreExtreme
shares_are_extreme s few h key y m = extreme_by s.work s.polyhedron s.root few h key y m

rows_by : (kind : WorkKind) (p : Polyhedron) (root : List ℕ) → IsRow (length (cone_of p).rows) → (key : List ℕ) →
    (meaning_by kind p root).is_key key → (k : ℕ) → Contains key k → IsRow k
rows_by Subsets p root few key is k c =
    let plain = All-contains (Contains (plain_labels p)) key k is.rows c in
    let among = (filter_only (λ i. not (row_of (cone_of p).rows i).linear)
    (range_with_len 1 (length (cone_of p).rows)) k plain).0 in
    let within = (range_only 1 (length (cone_of p).rows) k among).1 in
    omega (arith, within, few)
rows_by Subtrees p root few key is k c =
    let row = All-contains (Contains (rows_in (main_space p is.free).labels)) key k is.feasible.dictionary.rows c in
    ltb-true k coordinates_from (filter_only is_row (main_space p is.free).labels k row).1

pub keys_are_of_rows : KeysAreOfRows
keys_are_of_rows s few key is k c = rows_by s.work s.polyhedron s.root few key is k c
