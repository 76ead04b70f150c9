-- The first two phases have the spaces of coordinates; the keys of coordinates ascend.
use Rattle.std.proofs.Common.{◌≡◌, ℕ, zero, suc, ◌+◌, ◌-◌, ◌<◌, List, [], map, length, refl, sym, ap, ◌∙◌, add-one, arith}
use Rattle.std.specs.List.{All, AllByRecursion, Contains, range_with_len}
use Rattle.std.proofs.lemmas.Bool.{le-ltb, cond-false}
use Rattle.std.proofs.lemmas.List.FromFn.{length-map-range_with_len}
use Rattle.std.proofs.lemmas.List.Elements.{All-from_recursion, Contains-append_right}
use Rattle.poly_num.specs.Vectors.{Vector}
use Rattle.poly_model.specs.declared.kind.Kind.{Kind}
use Rattle.poly_model.specs.declared.kind.Kind.TheVariants.{H, V}
use Rattle.poly_model.specs.Keys.{IsAscending}
use Rattle.poly_model.specs.Systems.{Row, row_of, Polyhedron}
use Rattle.poly_model.specs.Cones.{coordinate}
use Rattle.poly_model.specs.Spaces.{label_form, labels_of, in_front, with_constants, without_constants, cut_space}
use Rattle.poly_model.specs.Labels.{coordinate_label, is_row, coordinate_index}
use Rattle.dictionary_laws.specs.Coordinates.{HasCoordinates, coordinate_key, first_coordinate, ArePhaseCoordinates, AreCoordinateLabels}
use Rattle.dictionary_laws.proofs.Members.{all_from}
use Rattle.dictionary_laws.proofs.KeyExchange.{ascending_distinct}
use Rattle.dictionary_laws.proofs.Filters.{map_only}

pub coordinate_form : (rows : List Row) (j : ℕ) → label_form rows (coordinate_label j) ≡ coordinate j
coordinate_form rows j =
    cond-false (is_row (coordinate_label j)) (row_of rows (coordinate_label j)).entries
    (coordinate (coordinate_index (coordinate_label j))) (le-ltb (coordinate_label j) _ (omega arith))
    ∙ ap coordinate (omega arith)

length_of_key : (j n : ℕ) → length (coordinate_key j n) ≡ n - j
length_of_key j n = length-map-range_with_len coordinate_label j (n - j)

-- where the label of each coordinate has a form of a coordinate s further on
forms_of_key : (f : ℕ → Vector) (s : ℕ) →
    ((j : ℕ) → f (coordinate_label j) ≡ coordinate (j + s)) → (j m : ℕ) →
    map f (map coordinate_label (range_with_len j m)) ≡ map coordinate (range_with_len (j + s) m)
forms_of_key f s h j zero = refl
forms_of_key f s h j (suc m) =
    let e : j + 1 + s ≡ j + s + 1 = omega arith in
    let head = h j in
    let rest = forms_of_key f s h (j + 1) m ∙ ap (λ i. map coordinate (range_with_len i m)) e in
    cc

labels_inside : (m j n : ℕ) → All (Contains (labels_of m j n)) (coordinate_key j n)
labels_inside m j n =
    All-from_recursion (Contains (labels_of m j n)) (coordinate_key j n)
    (all_from (Contains (labels_of m j n)) (coordinate_key j n)
    (λ k c. Contains-append_right (range_with_len 1 m) (coordinate_key j n) k c))

of_vectors : (n : ℕ) (rows : List Row) → 0 < n →
    HasCoordinates (with_constants n [] rows) (coordinate_key 1 n)
of_vectors n rows l = record {
  free = refl;
  infinity = refl;
  count = let e = length_of_key 1 n in omega arith;
  labels = labels_inside (length rows) 1 n;
  forms = forms_of_key (label_form rows) 0 (λ j. coordinate_form rows j ∙ ap coordinate (omega arith)) 1 (n - 1)
      ∙ ap (λ m. map coordinate (range_with_len 1 m)) (sym (length_of_key 1 n));
}

of_directions : (n : ℕ) (rows : List Row) → HasCoordinates (without_constants n [] rows) (coordinate_key 0 n)
of_directions n rows = record {
  free = refl;
  infinity = refl;
  count = let e = length_of_key 0 n in omega arith;
  labels = labels_inside (length rows) 0 n;
  forms = forms_of_key (λ k. in_front (label_form rows k)) 1
      (λ j. ap in_front (coordinate_form rows j) ∙ ap coordinate (sym (add-one j))) 0 (n - 0)
      ∙ ap (λ m. map coordinate (range_with_len 1 m)) (sym (length_of_key 0 n));
}

of_rows : (kind : Kind) (p : Polyhedron) → 0 < p.n →
    HasCoordinates (cut_space kind p []) (coordinate_key (first_coordinate kind) p.n)
of_rows H p l = of_vectors p.n _ l
of_rows V p l = of_directions p.n _

pub phase_coordinates : (p : Polyhedron) → ArePhaseCoordinates p
phase_coordinates p = record { cone = of_directions p.n _; prepare = of_rows p.kind p }

-- ---- the labels of a key
above : (a j m : ℕ) → a < coordinate_label j → AllByRecursion (λ k. a < k) (map coordinate_label (range_with_len j m))
above a j zero l = tt
above a j (suc m) l = (l, above a (j + 1) m (omega arith))

ascends : (j m : ℕ) → IsAscending (map coordinate_label (range_with_len j m))
ascends j zero = tt
ascends j (suc m) = (above (coordinate_label j) (j + 1) m (omega arith), ascends (j + 1) m)

pub coordinate_keys : (j n : ℕ) → AreCoordinateLabels (coordinate_key j n)
coordinate_keys j n = record {
  ascending = ascends j (n - j);
  distinct = ascending_distinct (coordinate_key j n) (ascends j (n - j));
  coordinates = λ k c.
      let h = map_only coordinate_label (range_with_len j (n - j)) k c in
      let e : k ≡ coordinate_label h.0 = h.2 in omega arith;
}
