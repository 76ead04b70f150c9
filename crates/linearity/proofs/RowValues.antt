-- Values at a vector over the coordinates of a cone: of the forms of labels, of all rows; and how a vector at which a
-- row is 0 combines the row's entries.
use Rattle.std.proofs.Common.{◌≡◌, ℕ, zero, suc, ◌-◌, ◌<◌, ◌≤◌, ℤ, pos, ◌*ℤ◌, neg_ℤ, List, [], ◌∷◌, map, length, take, refl, sym, ap, subst, ◌∙◌, arith}
use Rattle.std.specs.List.{All}
use Rattle.std.proofs.lemmas.Bool.{cond-true, lt-ltb}
use Rattle.std.proofs.lemmas.List.{get_or_default}
use Rattle.poly_num.specs.Vectors.{Vector, ◌·◌}
use Rattle.poly_num.proofs.Ring.{lin}
use Rattle.poly_num.proofs.VectorLemmas.{dot_comm, dot-neg}
use Rattle.poly_model.specs.Systems.{no_row, row_of, Polyhedron, cone_of}
use Rattle.poly_model.proofs.RowLemmas.{row_from_one}
use Rattle.poly_model.specs.Cones.{at, coordinate, IsTight}
use Rattle.poly_model.specs.Spaces.{label_form}
use Rattle.poly_model.specs.Labels.{coordinates_from, IsRow, is_row, coordinate_label, coordinate_index}
use Rattle.linear_laws.proofs.Entries.{coordinate_reads}
use Rattle.linear_laws.proofs.Tails.{dot_to_entry}
use Rattle.cone_laws.proofs.FeasibleLemmas.{first_unit_reads}
use Rattle.dictionary_laws.proofs.CoordinateSpaces.{coordinate_form}
use Rattle.linearity.proofs.ConeLabels.{HasConeLabels, IsLevel}

-- ---- vectors
-- past its end a vector is 0
pub past_end : (i : ℕ) (v : Vector) → length v ≤ i → at i v ≡ pos 0
past_end zero [] l = refl
past_end (suc i) [] l = refl
past_end zero (x ∷ v) l = absurd (omega arith)
past_end (suc i) (x ∷ v) l = past_end i v (omega arith)

-- a row that is 0 at a vector, which is D at entry j and 0 beyond: the earlier entries, turned, combine D times its own
pub combined : (j : ℕ) (D : ℤ) (z g : Vector) → j < length z → at j z ≡ D → ((i : ℕ) → j < i → at i z ≡ pos 0) →
    g · z ≡ pos 0 → D *ℤ at j g ≡ map neg_ℤ (take j z) · g
combined j D z g l h beyond v =
    let e = dot_to_entry j z g l beyond in
    let f = ap (λ t. t *ℤ at j g) h in
    let turned : map neg_ℤ (take j z) · g ≡ neg_ℤ (take j z · g) =
    dot_comm (map neg_ℤ (take j z)) g ∙ dot-neg g (take j z) ∙ ap neg_ℤ (dot_comm g (take j z)) in
    omega (arith, lin, v, dot_comm z g)

module _ (p : Polyhedron) where
  -- the form of a row and of a coordinate
  pub row_form : (i : ℕ) → IsRow i → label_form (cone_of p).rows i ≡ (row_of (cone_of p).rows i).entries
  row_form i l =
      cond-true (is_row i) (row_of (cone_of p).rows i).entries (coordinate (coordinate_index i)) (lt-ltb i coordinates_from l)

  pub coordinate_value : (j : ℕ) (w : Vector) → label_form (cone_of p).rows (coordinate_label j) · w ≡ at j w
  coordinate_value j w = ap (λ g. g · w) (coordinate_form (cone_of p).rows j) ∙ coordinate_reads j w

  -- where each row has the value 0, all rows are tight
  pub tight_rows : (w : Vector) →
      ((i : ℕ) → 1 ≤ i → i ≤ length (cone_of p).rows → (row_of (cone_of p).rows i).entries · w ≡ pos 0) →
      All (IsTight w) (cone_of p).rows
  tight_rows w h m none l =
      subst (IsTight w) (get_or_default (cone_of p).rows m no_row none l)
      (h (suc m) (omega arith) (omega arith))

  pub row_is_tight : (w : Vector) → All (IsTight w) (cone_of p).rows → (i : ℕ) → 1 ≤ i →
      i ≤ length (cone_of p).rows → (row_of (cone_of p).rows i).entries · w ≡ pos 0
  row_is_tight w t i l h =
      subst (IsTight w) (sym (row_from_one (cone_of p).rows i l)) (t (i - 1) no_row (omega arith))

  -- where all rows are tight, the vector is 0 at infinity
  pub level_from_tight : (labels : List ℕ) → HasConeLabels p labels → 0 < p.n → (w : Vector) →
      All (IsTight w) (cone_of p).rows → IsLevel labels w
  level_from_tight labels has some w t none =
      let row = has.at_infinity none some in
      sym (first_unit_reads p.n w) ∙ ap (λ g. g · w) (sym row.3) ∙ row_is_tight w t row.0 row.1 row.2
