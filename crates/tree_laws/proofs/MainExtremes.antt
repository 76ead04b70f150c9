-- The extreme vectors of a polyhedron's cone are those of its main space, of each kind.
use Rattle.std.proofs.Common.{◌≡◌, ◌↔◌, ℕ, List, length, refl, subst, arith}
use Rattle.std.proofs.lemmas.List.{length-append}
use Rattle.poly_num.specs.Vectors.{Vector}
use Rattle.poly_model.specs.declared.kind.Kind.{Kind}
use Rattle.poly_model.specs.declared.kind.Kind.TheVariants.{H, V}
use Rattle.poly_model.specs.Systems.{Polyhedron, file_rows, cone_of, added_row}
use Rattle.poly_model.specs.FreeColumns.{AreFreeColumns}
use Rattle.poly_model.specs.Extreme.{IsShown, IsExtreme}
use Rattle.poly_model.specs.Tree.{IsExtremeIn}
use Rattle.poly_model.specs.Spaces.{in_main}
use Rattle.poly_model.specs.Labels.{IsRow}
use Rattle.tree_laws.specs.Extremes.{ExtremesOfMain}
use Rattle.tree_laws.proofs.MainLabels.{main_in}
use Rattle.tree_laws.proofs.ExtremesOfInequalities as inequalities
use Rattle.tree_laws.proofs.ExtremesOfPoints as points

module _ (p : Polyhedron) (free : List ℕ) (f : AreFreeColumns (cone_of p) free)
    (few : IsRow (length (cone_of p).rows)) (y : Vector) where
  of_kind : (kind : Kind) → p.kind ≡ kind →
      IsExtreme (cone_of p) y ↔ (IsExtremeIn (main_in kind p free) (in_main kind y) × IsShown kind (cone_of p) y)
  of_kind H k =
      let file : IsRow (length (file_rows p)) =
      omega (arith, few, length-append (file_rows p) (added_row p.kind p.n (file_rows p))) in (
        λ e. (inequalities.extreme_in_space p k free f file y e, tt),
        λ h. inequalities.extreme_of_space p k free f file y h.0,
      )
  of_kind V k = (
    λ e. (points.extreme_in_space p free f few y e, subst (λ k. IsShown k (cone_of p) y) k e.shown),
    λ h. points.extreme_of_space p free f few y h.0 h.1 k,
  )

pub extremes_of_main : ExtremesOfMain
extremes_of_main p free f few y = of_kind p free f few y p.kind refl
