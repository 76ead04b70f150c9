-- The columns of a dictionary of the main space, and the vectors of the cone along them.
use Rattle.std.proofs.Common.{◌≡◌, ◌≢◌, ℕ, zero, suc, ◌+◌, ◌≤◌, ◌<◌, false, List, [], ◌∷◌, ◌++◌, ℤ, pos, ◌*ℤ◌, length, map, refl, sym, ap, subst, ◌∙◌, arith}
use Rattle.std.specs.Prelude.{not}
use Rattle.std.specs.List.{Contains, filter}
use Rattle.std.proofs.lemmas.Bool.{le-ltb, cond-false, cond_both}
use Rattle.poly_num.specs.Vectors.{Vector, ◌·◌, scale}
use Rattle.poly_num.proofs.Ring.{mul_comm}
use Rattle.poly_model.specs.declared.kind.Kind.{Kind}
use Rattle.poly_model.specs.declared.kind.Kind.TheVariants.{H, V}
use Rattle.poly_model.specs.Systems.{Row, row_of, Polyhedron, file_rows, cone_of}
use Rattle.poly_model.specs.Cones.{at, coordinate}
use Rattle.poly_model.specs.Spaces.{Space, IsInside, is_left, is_member, label_form, labels_of, in_front, in_main, main_space, linear_rows, cut_space}
use Rattle.poly_model.specs.Labels.{coordinates_from, constant_label, is_row, coordinate_label}
use Rattle.linear_laws.proofs.Entries.{coordinate_reads}
use Rattle.dictionary_laws.proofs.Filters.{filter_kept, member_has, coordinate_is_label}
use Rattle.dictionary_laws.proofs.CoordinateSpaces.{coordinate_form}
use Rattle.dictionary_laws.proofs.InFront.{with_front}
use Rattle.dictionary.specs.Views.{Dictionary, IsDictionaryIn}
use Rattle.hull_lift.specs.Facets.{coordinate_in, column_of}
use Rattle.hull_lift.specs.Laws.{IsAlong, IsZeroOnCobasis}
use Rattle.hull_lift.proofs.ColumnNumbers.{form_of_coordinate, Has, along, at_point}
use Rattle.hull_lift.proofs.ColumnVectors.{scaled}
use Rattle.hull_lift.proofs.SpaceVectors.{coordinate_is_left}

-- ---- entries
module _ (p : Polyhedron) (free : List ℕ) where
  abbrev rows : List Row
  rows = (cone_of p).rows

  -- the main space, with the kind apart
  abbrev space_of : Kind → Space
  space_of kind =
      let space = cut_space kind p (map coordinate free ++ linear_rows (file_rows p)) in
      record space { labels = filter (is_left rows) space.labels }

  is_label : (m first j : ℕ) → first ≤ j → j < p.n →
      Contains (filter (is_left rows) (labels_of m first p.n)) (coordinate_label j)
  is_label m first j l h =
      filter_kept (is_left rows) (labels_of m first p.n) (coordinate_label j) (coordinate_is_label m first p.n j l h)
      (coordinate_is_left rows j)

  not_there : (P : Type 0) (ks : List ℕ) (j : ℕ) → Contains ks (coordinate_label j) →
      is_member (coordinate_label j) ks ≡ false → P
  not_there P ks j c e = absurd (let h = member_has (coordinate_label j) ks c in cc)

  -- entry j of a vector of the cone is the value of coordinate j in the main space
  entry_of_kind : (kind : Kind) (v : Vector) (j : ℕ) → j < p.n →
      form_of_coordinate (space_of kind) j · in_main kind v ≡ at j v
  entry_of_kind H v zero l =
      cond_both (is_member (coordinate_label 0) (space_of H).labels) (label_form (file_rows p) (coordinate_label 0))
      (coordinate 0) (λ g. g · v ≡ at 0 v)
      (λ e. ap (λ (g : Vector). g · v) (coordinate_form (file_rows p) 0) ∙ coordinate_reads 0 v)
      (λ e. coordinate_reads 0 v)
  entry_of_kind H v (suc j) l =
      cond_both (is_member (coordinate_label (suc j)) (space_of H).labels)
      (label_form (file_rows p) (coordinate_label (suc j))) (coordinate 0) (λ g. g · v ≡ at (suc j) v)
      (λ e. ap (λ (g : Vector). g · v) (coordinate_form (file_rows p) (suc j)) ∙ coordinate_reads (suc j) v)
      (not_there _ (space_of H).labels (suc j) (is_label (length (file_rows p)) 1 (suc j) (omega arith) l))
  entry_of_kind V v j l =
      cond_both (is_member (coordinate_label j) (space_of V).labels)
      (in_front (label_form rows (coordinate_label j))) (coordinate 0) (λ g. g · (pos 0 ∷ v) ≡ at j v)
      (λ e. with_front (label_form rows (coordinate_label j)) (pos 0) v
      ∙ ap (λ (g : Vector). g · v) (coordinate_form rows j) ∙ coordinate_reads j v)
      (not_there _ (space_of V).labels j (is_label (length rows) 0 j (omega arith) l))

  width_of_kind : (kind : Kind) (v : Vector) → IsInside (space_of kind) (in_main kind v) → length v ≡ p.n
  width_of_kind H v i = i.width
  width_of_kind V v i = let w = i.width in omega (arith, w)

  -- ---- columns
  pub width_in_main : (v : Vector) → IsInside (main_space p free) (in_main p.kind v) → length v ≡ p.n
  width_in_main v i = width_of_kind p.kind v i

  module _ (d : Dictionary) (is : IsDictionaryIn (main_space p free) d) (v : Vector) where
    abbrev z : Vector
    z = in_main p.kind v

    in_column : (col : ℕ) (x : ℤ) → IsInside (main_space p free) z →
        ((j : ℕ) → Has (main_space p free) d is col z x j) →
        scale d.denominator v ≡ scale x (column_of d col p.n)
    in_column col x i has =
        subst (λ n. scale d.denominator v ≡ scale x (column_of d col n)) (width_in_main v i)
        (scaled (coordinate_in d col) d.denominator x 0 v
        (λ j l.
        let within : j < p.n = omega (arith, width_in_main v i) in
        let none : j ≡ 0 + j = omega arith in
        ap (λ t. d.denominator *ℤ t) (sym (entry_of_kind p.kind v j within)) ∙ has j
        ∙ ap (λ i. coordinate_in d col i *ℤ x) none))

    -- a vector of the cone along a column is, over the denominator, the value of its label times the column
    pub ray_in_column : (col : ℕ) → Contains d.key col → col ≢ constant_label → IsAlong (main_space p free) d col z →
        scale d.denominator v ≡ scale ((main_space p free).form col · z) (column_of d col p.n)
    ray_in_column col c n a =
        in_column col ((main_space p free).form col · z) a.direction.inside (along (main_space p free) d is col c n z a)

    -- one at which the labels of the cobasis are 0 is its value at infinity times the column of the constants
    pub point_in_column : IsZeroOnCobasis (main_space p free) d z →
        scale d.denominator v ≡ scale ((main_space p free).infinity · z) (column_of d constant_label p.n)
    point_in_column a =
        in_column constant_label ((main_space p free).infinity · z) a.inside (at_point (main_space p free) d is z a)
