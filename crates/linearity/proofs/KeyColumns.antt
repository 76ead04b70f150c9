-- The coordinates in a key, and their columns.
use Rattle.std.proofs.Common.{◌≡◌, ℕ, ◌<◌, true, false, List, [], ◌∷◌, map, ap, subst, arith}
use Rattle.std.specs.Prelude.{not}
use Rattle.std.specs.List.{Contains}
use Rattle.std.proofs.lemmas.Bool.{ltb-false, le-ltb, not-true, not_from_false}
use Rattle.poly_model.specs.Keys.{IsAscending}
use Rattle.poly_model.specs.Labels.{coordinates_from, IsCoordinate, is_row, is_coordinate, coordinate_label, coordinate_index}
use Rattle.linear_laws.proofs.Members.{Contains-first, Contains-later, all_at}
use Rattle.dictionary_laws.proofs.Members.{all_from}
use Rattle.dictionary_laws.proofs.Filters.{filter_only, filter_kept, map_only, map_has, ascending_filter}
use Rattle.linearity.specs.Columns.{coordinates_in, columns_in}

-- a label is that of a coordinate exactly from 8192 on
coordinate_from : (k : ℕ) → IsCoordinate k → is_coordinate k ≡ true
coordinate_from k l = ap not (le-ltb k coordinates_from l)

pub coordinate_only : (k : ℕ) → is_coordinate k ≡ true → IsCoordinate k
coordinate_only k e = ltb-false k coordinates_from (not-true (is_row k) e)

-- a coordinate of the key, and its column
pub column_has : (key : List ℕ) (j : ℕ) → Contains key (coordinate_label j) → Contains (columns_in key) j
column_has key j c =
    subst (Contains (columns_in key)) (omega arith)
    (map_has (λ k. coordinate_index k) (coordinates_in key) (coordinate_label j)
    (filter_kept is_coordinate key (coordinate_label j) c (coordinate_from (coordinate_label j) (omega arith))))

pub column_of_label : (key : List ℕ) (k : ℕ) → Contains key k → is_row k ≡ false → Contains (columns_in key) (coordinate_index k)
column_of_label key k c e =
    map_has (λ i. coordinate_index i) (coordinates_in key) k (filter_kept is_coordinate key k c (not_from_false (is_row k) e))

pub column_only : (key : List ℕ) (j : ℕ) → Contains (columns_in key) j → Contains key (coordinate_label j)
column_only key j c =
    let h = map_only (λ k. coordinate_index k) (coordinates_in key) j c in
    let k = filter_only is_coordinate key h.0 h.1 in
    let l = coordinate_only h.0 k.1 in
    let e : j ≡ coordinate_index h.0 = h.2 in
    subst (Contains key) (omega arith) k.0

-- they ascend as the key does
ascending_less : (ks : List ℕ) → ((k : ℕ) → Contains ks k → IsCoordinate k) → IsAscending ks →
    IsAscending (map (λ k. coordinate_index k) ks)
ascending_less [] h a = tt
ascending_less (x ∷ ks) h a = (
  all_from (λ y. coordinate_index x < y) (map (λ k. coordinate_index k) ks) (λ y c.
      let w = map_only (λ k. coordinate_index k) ks y c in
      let l : x < w.0 = all_at (λ z. x < z) ks a.0 w.0 w.1 in
      let low = h x (Contains-first x ks) in
      let e : y ≡ coordinate_index w.0 = w.2 in
      omega arith),
  ascending_less ks (λ k c. h k (Contains-later k x ks c)) a.1,
)

pub columns_ascend : (key : List ℕ) → IsAscending key → IsAscending (columns_in key)
columns_ascend key a =
    ascending_less (coordinates_in key) (λ k c. coordinate_only k (filter_only is_coordinate key k c).1)
    (ascending_filter is_coordinate key a)
