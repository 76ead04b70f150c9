-- Which files are feasible, by their main space; and the constants of V files.
use Rattle.std.proofs.Common.{◌≡◌, ◌↔◌, ℕ, suc, List, ◌∷◌, ℤ, pos, ◌*ℤ◌, length, sym, ap, subst, ◌∙◌, arith}
use Rattle.std.specs.Prelude.{◌<ℤ◌, ◌≤ℤ◌}
use Rattle.std.proofs.lemmas.Int.{ints}
use Rattle.std.proofs.lemmas.List.{length-append}
use Rattle.poly_num.specs.Vectors.{◌·◌}
use Rattle.poly_num.proofs.Ring.{mul_one}
use Rattle.poly_num.proofs.VectorLemmas.{dot-zero}
use Rattle.poly_model.specs.declared.kind.Kind.{Kind}
use Rattle.poly_model.specs.declared.kind.Kind.TheVariants.{H, V}
use Rattle.poly_model.specs.Systems.{Polyhedron, file_rows, cone_of, added_row}
use Rattle.poly_model.specs.FreeColumns.{AreFreeColumns}
use Rattle.poly_model.specs.Extreme.{IsFeasibleAs, IsFeasible}
use Rattle.poly_model.specs.Spaces.{is_left, labels_of, main_space, label_form}
use Rattle.poly_model.specs.Dictionaries.{Table}
use Rattle.poly_model.specs.Tree.{IsRowDictionary, IsFeasibleRoot}
use Rattle.poly_model.specs.Labels.{IsRow}
use Rattle.linear_laws.proofs.Entries.{coordinate_reads, zeros, length-zeros, IsZero-zeros}
use Rattle.linear_laws.proofs.Signs.{nonnegative_positive}
use Rattle.cone_laws.specs.FeasibilityLaws.{HasVertex}
use Rattle.cone_laws.proofs.FeasibleLemmas.{feasible_file_by_vertex}
use Rattle.dictionary_laws.proofs.Directions.{times_zero, vanish_zero}
use Rattle.dictionary_laws.proofs.Filters.{filter_only}
use Rattle.dictionary_laws.proofs.InFront.{with_front, vanish_in_front}
use Rattle.search_laws.specs.PhaseOne.{HasNoRowZero, MeetsRows}
use Rattle.tree_laws.proofs.MainLabels.{main_in}
use Rattle.tree_laws.proofs.AscendingRows.{positive_labels}
use Rattle.tree_laws.proofs.ExtremesOfInequalities.{meets_all, extreme_in_space}
use Rattle.tree_laws.proofs.PointValues.{row_at_point}

-- ---- row 0
no_zero : (kind : Kind) (p : Polyhedron) (free : List ℕ) → HasNoRowZero (main_in kind p free)
no_zero H p free c =
    let l = positive_labels (length (file_rows p)) 1 p.n 0
    (filter_only (is_left (cone_of p).rows) (labels_of (length (file_rows p)) 1 p.n) 0 c).0 in
    absurd (omega (arith, l))
no_zero V p free c =
    let l = positive_labels (length (cone_of p).rows) 0 p.n 0
    (filter_only (is_left (cone_of p).rows) (labels_of (length (cone_of p).rows) 0 p.n) 0 c).0 in
    absurd (omega (arith, l))

pub main_has_no_row_zero : (p : Polyhedron) (free : List ℕ) → HasNoRowZero (main_space p free)
main_has_no_row_zero p free = no_zero p.kind p free

-- ---- H files
module _ (p : Polyhedron) (free : List ℕ) (kind : p.kind ≡ H) (f : AreFreeColumns (cone_of p) free)
    (few : IsRow (length (cone_of p).rows)) where
  file_few : IsRow (length (file_rows p))
  file_few = omega (arith, few, length-append (file_rows p) (added_row p.kind p.n (file_rows p)))

  to_space : HasVertex (cone_of p) → MeetsRows (main_in H p free)
  to_space v =
      let e = extreme_in_space p kind free f file_few v.vector v.extreme in
      record {
        vector = v.vector;
        inside = e.inside;
        finite = subst (λ (x : ℤ). pos 0 <ℤ x) (sym (coordinate_reads 0 v.vector)) v.positive;
        rows = e.rows;
      }

  to_file : MeetsRows (main_in H p free) → IsFeasible (cone_of p)
  to_file m =
      subst (λ k. IsFeasibleAs k (cone_of p)) (sym kind) (record {
        vector = m.vector;
        in_cone = record {
          width = m.inside.width;
          meets = meets_all p kind free f file_few m.vector m.inside
              (nonnegative_positive ((main_in H p free).infinity · m.vector) m.finite) m.rows;
        };
        positive = subst (λ (x : ℤ). pos 0 <ℤ x) (coordinate_reads 0 m.vector) m.finite;
      })

  pub feasible_files : IsFeasible (cone_of p) ↔ MeetsRows (main_space p free)
  feasible_files = (
    λ e. subst (λ k. MeetsRows (main_in k p free)) (sym kind) (to_space ((feasible_file_by_vertex p kind).0 e)),
    λ m. to_file (subst (λ k. MeetsRows (main_in k p free)) kind m),
  )

-- ---- V files
no_constant : (d v c l : ℤ) → v ≡ pos 0 → l ≡ pos 1 → d *ℤ v ≡ c *ℤ l → pos 0 ≤ℤ c
no_constant d v c l e f h =
    let a = times_zero d v e in
    let b = ap (λ (x : ℤ). c *ℤ x) f ∙ mul_one c in
    omega (arith, ints)

roots_in : (kind : Kind) (p : Polyhedron) (free key : List ℕ) (t : Table) → kind ≡ V →
    IsRowDictionary (main_in kind p free) key t → IsFeasibleRoot (main_in kind p free) key t
roots_in H p free key t e d = absurd (cc)
roots_in V p free key t e d = record {
  dictionary = d;
  constants = λ i l. no_constant t.denominator ((main_in V p free).form i · (pos 1 ∷ zeros p.n)) (t.constant i)
      ((main_in V p free).infinity · (pos 1 ∷ zeros p.n)) (no_value i) (coordinate_reads 0 (pos 1 ∷ zeros p.n))
      (row_at_point (main_in V p free) key t d i l (pos 1 ∷ zeros p.n)
      (record {
        width = ap suc (length-zeros p.n);
        fixed = vanish_in_front _ (pos 1) (zeros p.n) (vanish_zero _ (zeros p.n) (IsZero-zeros p.n));
      })
      (λ k c. no_value k));
}
  where
    no_value : (i : ℕ) → (main_in V p free).form i · (pos 1 ∷ zeros p.n) ≡ pos 0
    no_value i =
        with_front (label_form (cone_of p).rows i) (pos 1) (zeros p.n)
        ∙ dot-zero (label_form (cone_of p).rows i) (zeros p.n) (IsZero-zeros p.n)

pub roots_of_points : (p : Polyhedron) (free key : List ℕ) (t : Table) → p.kind ≡ V →
    IsRowDictionary (main_space p free) key t → IsFeasibleRoot (main_space p free) key t
roots_of_points p free key t e d = roots_in p.kind p free key t e d
