-- The root of the search of a polyhedron: there is one where the file is feasible, and it is one.
use Rattle.std.proofs.Common.{◌≡◌, inl, ℕ, List, length, refl, sym, subst}
use Rattle.poly_model.specs.declared.kind.Kind.{Kind}
use Rattle.poly_model.specs.declared.kind.Kind.TheVariants.{H, V}
use Rattle.poly_model.specs.Systems.{Polyhedron, cone_of}
use Rattle.poly_model.specs.FreeColumns.{AreFreeColumns}
use Rattle.poly_model.specs.Extreme.{IsFeasibleAs, IsFeasible}
use Rattle.poly_model.specs.Spaces.{IsStartCobasis, main_space}
use Rattle.poly_model.specs.PhaseOne.{GivesByPhaseOne, IsSearchRoot}
use Rattle.poly_model.specs.Subtrees.{IsSubtreeRoot}
use Rattle.poly_model.specs.Labels.{IsRow}
use Rattle.cone_laws.proofs.ColumnLemmas.{one_list_of_columns}
use Rattle.dictionary_laws.proofs.PhasePoints.{phase_points}
use Rattle.dictionary_laws.proofs.Starts.{one_start}
use Rattle.tree_laws.proofs.OneList.{same_columns}
use Rattle.tree_laws.proofs.AscendingRows.{main_rows_ascend}
use Rattle.search_laws.specs.GivenRoots.{HasSearchRoot}
use Rattle.search_laws.proofs.KeyPoints.{point_of_root}
use Rattle.search_laws.proofs.GivenRoots.{given_feasible, given_one}
use Rattle.search_laws.proofs.Decided.{gives_where_met}
use Rattle.search_laws.proofs.FeasibleFiles.{main_has_no_row_zero, feasible_files, roots_of_points}
use Rattle.search_laws.proofs.MainStart.{met_point, some_start}

module _ (p : Polyhedron) where
  -- ---- a search may begin there
  may_begin : (root : List ℕ) → IsSearchRoot p root → IsSubtreeRoot p root
  may_begin root g =
      let f = given_feasible (main_space p g.free) g.start (main_has_no_row_zero p g.free) root g.given in
      record { free = g.free; columns = g.columns; home = f.0; feasible = f.1 }

  -- ---- it is one
  search_root_is_one : (root other : List ℕ) → IsSearchRoot p root → IsSearchRoot p other → root ≡ other
  search_root_is_one root other a b =
      given_one (main_space p a.free) a.start (main_has_no_row_zero p a.free) (main_rows_ascend p a.free).distinct
      root other a.given
      (subst (λ start. GivesByPhaseOne (main_space p a.free) start other) same_start
      (subst (λ free. GivesByPhaseOne (main_space p free) b.start other) same_free b.given))
    where
      same_free : b.free ≡ a.free
      same_free = same_columns p a.free b.free a.columns b.columns

      same_start : b.start ≡ a.start
      same_start =
          one_start (main_space p a.free) b.start a.start
          (subst (λ free. IsStartCobasis (main_space p free) b.start) same_free b.is_start) a.is_start

  -- ---- there is one where the file is feasible
  module _ (few : IsRow (length (cone_of p).rows)) where
    feasible_of : (kind : Kind) → p.kind ≡ kind → (root : List ℕ) → IsSubtreeRoot p root → IsFeasible (cone_of p)
    feasible_of H k root r =
        (feasible_files p r.free k r.columns few).1 (point_of_root (main_space p r.free) root r.home r.feasible)
    feasible_of V k root r = subst (λ kind. IsFeasibleAs kind (cone_of p)) (sym k) tt

    root_of : (kind : Kind) → p.kind ≡ kind → (free : List ℕ) → AreFreeColumns (cone_of p) free →
        IsFeasible (cone_of p) → (root : List ℕ) × IsSearchRoot p root
    root_of H k free f e =
        let m = (feasible_files p free k f few).0 e in
        let s = some_start p free f few (met_point p free f few m) in
        let g = (gives_where_met (main_space p free) s.0 (main_has_no_row_zero p free) s.2 s.3).1 m in
        (g.0, record { free = free; columns = f; start = s.0; is_start = s.1; given = g.1 })
    root_of V k free f e =
        let s = some_start p free f few ((phase_points p).main free k) in (
          s.0,
          record {
            free = free;
            columns = f;
            start = s.0;
            is_start = s.1;
            given = record {
              home = s.2;
              dictionary = s.3;
              root_is = inl (roots_of_points p free s.0 s.2 k s.3, refl);
            };
          },
        )

    pub has_search_root : HasSearchRoot p
    has_search_root = record {
      exactly = (
        λ g. feasible_of p.kind refl g.0 (may_begin g.0 g.1),
        λ e. let columns = one_list_of_columns (cone_of p) in root_of p.kind refl columns.one columns.has e,
      );
      may_begin = may_begin;
      one = search_root_is_one;
    }
