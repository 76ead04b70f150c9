-- The start cobasis of a main space with a point has a dictionary, and so a feasible file has a feasible root.
use Rattle.std.proofs.Common.{◌≡◌, ℕ, ◌<◌, Bool, true, false, List, [], ◌∷◌, length, sym, refl, subst}
use Rattle.std.specs.List.{All, Contains}
use Rattle.std.proofs.lemmas.List.Elements.{All-from_recursion}
use Rattle.poly_num.proofs.Order.{positive_nonzero}
use Rattle.poly_num.specs.Vectors.{◌·◌}
use Rattle.poly_model.specs.declared.kind.Kind.{Kind}
use Rattle.poly_model.specs.declared.kind.Kind.TheVariants.{H, V}
use Rattle.poly_model.specs.Keys.{IsAscending}
use Rattle.poly_model.specs.Systems.{Polyhedron, cone_of}
use Rattle.poly_model.specs.FreeColumns.{AreFreeColumns}
use Rattle.poly_model.specs.Extreme.{IsFeasible}
use Rattle.poly_model.specs.Spaces.{Space, HasPoints, marked, IsStartCobasis, main_space}
use Rattle.poly_model.specs.Dictionaries.{Table, IsDictionary}
use Rattle.poly_model.specs.LexOrder.{rows_in}
use Rattle.poly_model.specs.Tree.{IsRowDictionary}
use Rattle.poly_model.specs.Labels.{IsRow}
use Rattle.linear_laws.proofs.Members.{all_at}
use Rattle.dictionary_laws.specs.Points.{RowsDetermine}
use Rattle.dictionary_laws.proofs.Members.{all_from}
use Rattle.dictionary_laws.proofs.Existence.{some_dictionary}
use Rattle.dictionary_laws.proofs.PhasePoints.{phase_points}
use Rattle.dictionary_laws.proofs.Starts.{start_exists, start_is_cobasis, marked_only}
use Rattle.tree_laws.proofs.MainLabels.{main_in}
use Rattle.tree_laws.proofs.AscendingRows.{fewer, main_rows_ascend}
use Rattle.tree_laws.proofs.ExtremesOfInequalities as inequalities
use Rattle.tree_laws.proofs.ExtremesOfPoints as points
use Rattle.search_laws.specs.PhaseOne.{MeetsRows}
use Rattle.search_laws.specs.PhaseEnds.{HasRoot}
use Rattle.search_laws.proofs.Decided.{phase_one_decides}
use Rattle.search_laws.proofs.FeasibleFiles.{main_has_no_row_zero, feasible_files, roots_of_points}

-- ---- the marked members of a list
marked_ascend : (ks : List ℕ) (ms : List Bool) → IsAscending ks → IsAscending (marked ks ms)
marked_ascend [] ms h = tt
marked_ascend (x ∷ ks) [] h = tt
marked_ascend (x ∷ ks) (true ∷ ms) h = (
  all_from (λ y. x < y) (marked ks ms) (λ k c. all_at (λ y. x < y) ks h.0 k (marked_only ks ms k c)),
  marked_ascend ks ms h.1,
)
marked_ascend (x ∷ ks) (false ∷ ms) h = marked_ascend ks ms h.1

-- ---- the start cobasis
start_dictionary : (space : Space) → HasPoints space → IsAscending (rows_in space.labels) → RowsDetermine space →
    (start : List ℕ) → IsStartCobasis space start → (t : Table) × IsRowDictionary space start t
start_dictionary space points ascending rows start h =
    with_table (some_dictionary space start (start_is_cobasis space rows start h))
  where
    with_table : (t : Table) × IsDictionary space start t → (t : Table) × IsRowDictionary space start t
    with_table (t, d) = (
      t,
      record {
        points = points;
        ascending = subst IsAscending (sym h.taken) (marked_ascend (rows_in space.labels) h.marks ascending);
        rows = subst (λ ks. All (Contains (rows_in space.labels)) ks) (sym h.taken)
            (All-from_recursion (Contains (rows_in space.labels)) (marked (rows_in space.labels) h.marks)
            (all_from (Contains (rows_in space.labels)) (marked (rows_in space.labels) h.marks)
            (marked_only (rows_in space.labels) h.marks)));
        dictionary = d;
      },
    )

module _ (p : Polyhedron) (free : List ℕ) (f : AreFreeColumns (cone_of p) free)
    (few : IsRow (length (cone_of p).rows)) where
  rows_of_kind : (kind : Kind) → p.kind ≡ kind → RowsDetermine (main_in kind p free)
  rows_of_kind H k = inequalities.rows_determine p k free f (fewer p few)
  rows_of_kind V k = points.rows_determine p free f few

  pub main_start : HasPoints (main_space p free) → (start : List ℕ) → IsStartCobasis (main_space p free) start →
      (t : Table) × IsRowDictionary (main_space p free) start t
  main_start h start s =
      start_dictionary (main_space p free) h (main_rows_ascend p free).ascending (rows_of_kind p.kind refl) start s

  pub some_start : HasPoints (main_space p free) →
      (start : List ℕ) × IsStartCobasis (main_space p free) start × (t : Table)
      × IsRowDictionary (main_space p free) start t
  some_start h =
      let s = start_exists (main_space p free) in
      let d = main_start h s.0 s.1 in
      (s.0, s.1, d.0, d.1)

  -- ---- a feasible file has a root
  pub met_point : MeetsRows (main_space p free) → HasPoints (main_space p free)
  met_point m = record {
    vector = m.vector;
    inside = m.inside;
    finite = positive_nonzero ((main_space p free).infinity · m.vector) m.finite;
  }

  root_of_kind : (kind : Kind) → p.kind ≡ kind → IsFeasible (cone_of p) → HasRoot (main_space p free)
  root_of_kind H k e =
      let m = (feasible_files p free k f few).0 e in
      let s = some_start (met_point m) in
      (phase_one_decides (main_space p free) s.0 (main_has_no_row_zero p free) s.2 s.3).exactly.1 m
  root_of_kind V k e =
      let s = some_start ((phase_points p).main free k) in
      (s.0, s.2, roots_of_points p free s.0 s.2 k s.3)

  pub feasible_root : IsFeasible (cone_of p) → HasRoot (main_space p free)
  feasible_root e = root_of_kind p.kind refl e
