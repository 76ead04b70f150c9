-- The rows of the spaces of the phases main and first ascend.
use Rattle.std.proofs.Common.{◌≡◌, ℕ, Bool, true, false, cond, ◌<◌, List, [], ◌∷◌, ◌++◌, length, refl, sym, ap, subst, ◌∙◌, arith}
use Rattle.std.specs.List.{Contains, filter, range_with_len}
use Rattle.std.proofs.lemmas.Bool.{le-ltb, cond-false}
use Rattle.std.proofs.lemmas.List.{length-append}
use Rattle.poly_model.specs.declared.kind.Kind.{Kind}
use Rattle.poly_model.specs.declared.kind.Kind.TheVariants.{H, V}
use Rattle.poly_model.specs.Keys.{IsAscending}
use Rattle.poly_model.specs.Systems.{Polyhedron, file_rows, cone_of, added_row}
use Rattle.poly_model.specs.Spaces.{Space, is_left, labels_of, lifted, main_space}
use Rattle.poly_model.specs.Labels.{is_row, IsRow}
use Rattle.poly_model.specs.LexOrder.{rows_in}
use Rattle.linear_laws.proofs.Members.{Contains-first, Contains-later, all_at}
use Rattle.linear_laws.proofs.AllLemmas.{all_both}
use Rattle.dictionary_laws.specs.Coordinates.{coordinate_key}
use Rattle.dictionary_laws.proofs.Members.{all_from}
use Rattle.dictionary_laws.proofs.Filters.{filter_only, range_only, ascending_filter, ascending_range}
use Rattle.dictionary_laws.proofs.KeyExchange.{ascending_distinct}
use Rattle.dictionary_laws.proofs.CoordinateSpaces.{coordinate_keys}
use Rattle.tree_laws.specs.Extremes.{HasAscendingRows}
use Rattle.tree_laws.proofs.MainLabels.{main_in}

-- ---- the labels of coordinates are none of rows
filter-append : (test : ℕ → Bool) (ks ls : List ℕ) → filter test (ks ++ ls) ≡ filter test ks ++ filter test ls
filter-append test [] ls = refl
filter-append test (k ∷ ks) ls = by (test k) (filter-append test ks ls)
  where
    by : (b : Bool) → filter test (ks ++ ls) ≡ filter test ks ++ filter test ls →
        cond b (k ∷ filter test (ks ++ ls)) (filter test (ks ++ ls))
        ≡ cond b (k ∷ filter test ks) (filter test ks) ++ filter test ls
    by true e = ap (λ l. k ∷ l) e
    by false e = e

filter_none : (test : ℕ → Bool) (ls : List ℕ) → ((k : ℕ) → Contains ls k → test k ≡ false) → filter test ls ≡ []
filter_none test [] h = refl
filter_none test (k ∷ ls) h =
    cond-false (test k) (k ∷ filter test ls) (filter test ls) (h k (Contains-first k ls))
    ∙ filter_none test ls (λ j c. h j (Contains-later j k ls c))

append_nil : (ks : List ℕ) → ks ++ [] ≡ ks
append_nil [] = refl
append_nil (k ∷ ks) = ap (λ l. k ∷ l) (append_nil ks)

rows_left : (left : ℕ → Bool) (m j n : ℕ) →
    filter is_row (filter left (labels_of m j n)) ≡ filter is_row (filter left (range_with_len 1 m))
rows_left left m j n =
    ap (λ l. filter is_row l) (filter-append left (range_with_len 1 m) (coordinate_key j n))
    ∙ filter-append is_row (filter left (range_with_len 1 m)) (filter left (coordinate_key j n))
    ∙ ap (λ l. filter is_row (filter left (range_with_len 1 m)) ++ l)
    (filter_none is_row (filter left (coordinate_key j n)) (λ k c.
    le-ltb k _ ((coordinate_keys j n).coordinates k (filter_only left (coordinate_key j n) k c).0)))
    ∙ append_nil (filter is_row (filter left (range_with_len 1 m)))

pub positive_labels : (m j n k : ℕ) → Contains (labels_of m j n) k → 0 < k
positive_labels m j n k c =
    all_at (λ i. 0 < i) (labels_of m j n)
    (all_both (λ i. 0 < i) (range_with_len 1 m) (coordinate_key j n)
    (all_from (λ i. 0 < i) (range_with_len 1 m) (λ i d. let h = (range_only 1 m i d).0 in omega arith))
    (all_from (λ i. 0 < i) (coordinate_key j n)
    (λ i d. let h = (coordinate_keys j n).coordinates i d in omega arith))) k c

-- ---- the spaces
from_ascending : (space : Space) → IsAscending (rows_in space.labels) → HasAscendingRows space
from_ascending space a = record { ascending = a; distinct = ascending_distinct (rows_in space.labels) a }

-- some of such labels, and row 0 in front of them
module _ (left : ℕ → Bool) (m j n : ℕ) where
  left_ascend : IsAscending (filter is_row (filter left (labels_of m j n)))
  left_ascend =
      subst IsAscending (sym (rows_left left m j n))
      (ascending_filter is_row (filter left (range_with_len 1 m))
      (ascending_filter left (range_with_len 1 m) (ascending_range 1 m)))

  zero_ascends : IsAscending (0 ∷ filter is_row (filter left (labels_of m j n)))
  zero_ascends = (
    all_from (λ k. 0 < k) (filter is_row (filter left (labels_of m j n)))
        (λ k c. positive_labels m j n k
        (filter_only left (labels_of m j n) k (filter_only is_row (filter left (labels_of m j n)) k c).0).0),
    left_ascend,
  )

pub fewer : (p : Polyhedron) → IsRow (length (cone_of p).rows) → IsRow (length (file_rows p))
fewer p l = omega (arith, l, length-append (file_rows p) (added_row p.kind p.n (file_rows p)))

main_ascends : (kind : Kind) (p : Polyhedron) (free : List ℕ) →
    HasAscendingRows (main_in kind p free)
main_ascends H p free =
    from_ascending (main_in H p free) (left_ascend (is_left (cone_of p).rows) (length (file_rows p)) 1 p.n)
main_ascends V p free =
    from_ascending (main_in V p free) (left_ascend (is_left (cone_of p).rows) (length (cone_of p).rows) 0 p.n)

first_ascends : (kind : Kind) (p : Polyhedron) (free start : List ℕ) →
    HasAscendingRows (lifted (main_in kind p free) start)
first_ascends H p free start =
    from_ascending (lifted (main_in H p free) start)
    (zero_ascends (is_left (cone_of p).rows) (length (file_rows p)) 1 p.n)
first_ascends V p free start =
    from_ascending (lifted (main_in V p free) start)
    (zero_ascends (is_left (cone_of p).rows) (length (cone_of p).rows) 0 p.n)

pub main_rows_ascend : (p : Polyhedron) (free : List ℕ) →
    HasAscendingRows (main_space p free)
main_rows_ascend p free = main_ascends p.kind p free

pub first_rows_ascend : (p : Polyhedron) (free start : List ℕ) →
    HasAscendingRows (lifted (main_space p free) start)
first_rows_ascend p free start = first_ascends p.kind p free start
