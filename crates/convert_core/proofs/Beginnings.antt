-- What a search begins with is one at the root.
use Rattle.std.proofs.Common.{◌≡◌, ℕ, ◌≤◌, List, [], ◌∷◌, length, refl, sym, subst, arith}
use Rattle.poly_num.specs.Vectors.{Vector}
use Rattle.poly_model.specs.Spaces.{Space, main_space}
use Rattle.poly_model.specs.Dictionaries.{IsDictionary}
use Rattle.poly_model.specs.Subtrees.{IsSubtreeRoot}
use Rattle.poly_model.specs.Systems.{System, Polyhedron, cone_of}
use Rattle.poly_model.specs.Tree.{IsRowDictionary, IsFeasibleRoot, IsLexFeasible}
use Rattle.tree_laws.proofs.AscendingRows.{main_rows_ascend}
use Rattle.tree_laws.proofs.OneList.{same_columns}
use Rattle.tree_laws.proofs.Roots.{root_is_feasible}
use Rattle.search_laws.proofs.AnyShown.{serves_too}
use Rattle.search_laws.proofs.SearchRoots.{has_search_root}
use Rattle.search_laws.proofs.LineCounts.{line_for_each, few_columns}
use Rattle.dictionary.specs.Views.{Dictionary, table_of}
use Rattle.linearity.specs.Prepared.{IsPrepared}
use Rattle.phase_one.specs.Found.{IsFound}
use Rattle.reverse_step.specs.Walks.{Walk, Stands}
use Rattle.convert_core.specs.declared.rays.Rays.{Rays}
use Rattle.convert_core.specs.Rays.{AreShown}
use Rattle.convert_core.specs.Searches.{IsSearch, IsAtRoot, IsRootOf}

pub is_root_of : (p : Polyhedron) (lines : List Vector) (free : List ℕ) (start : Dictionary) →
    IsPrepared p lines free start → (root : List ℕ) (d : Dictionary) → IsFound p free root d → IsRootOf p root d lines
is_root_of p lines free start x root d found = record {
  few = x.few;
  narrow = x.narrow;
  free = free;
  columns = x.columns;
  found = found;
  are_lines = record { columns = free; free = x.columns; each = x.are_lines };
  some = let a = line_for_each (cone_of p) free lines x.are_lines in
      let b = few_columns (cone_of p) free x.columns in
      let n = x.narrow in
      omega (arith, a, b, n);
}

-- ---- the walk
-- a walk that begins at this dictionary
abbrev pub walk_at : Dictionary → List ℕ → Walk
walk_at d root = record { dict = d; root = root; job = d.key; at = 0; parents = [] }

module _ (p : Polyhedron) (root : List ℕ) (d : Dictionary) (lines : List Vector) (x : IsRootOf p root d lines) where
  abbrev space : Space
  space = main_space p x.free

  begins : IsSubtreeRoot p root
  begins = (has_search_root p x.few).may_begin root x.found.search_root

  feasible_root : IsFeasibleRoot space root begins.home
  feasible_root =
      subst (λ f. IsFeasibleRoot (main_space p f) root begins.home)
      (same_columns p x.free begins.free x.columns begins.columns) begins.feasible

  own : IsRowDictionary space root (table_of d)
  own = record {
    points = feasible_root.dictionary.points;
    ascending = feasible_root.dictionary.ascending;
    rows = feasible_root.dictionary.rows;
    dictionary = subst (λ k. IsDictionary space k (table_of d)) x.found.key
        x.found.dictionary.dictionary;
  }

  feasible : IsLexFeasible space root d.key (table_of d)
  feasible =
      subst (λ k. IsLexFeasible space root k (table_of d)) (sym x.found.key)
      ((serves_too space root root begins.home (table_of d) feasible_root.dictionary own).feasible
      (root_is_feasible space root begins.home feasible_root))

  stands : Stands space begins.home root d
  stands = record {
    ascending = (main_rows_ascend p x.free).ascending;
    feasible_root = feasible_root;
    dictionary = x.found.dictionary;
    feasible = feasible;
  }

  search_there : (cone : System) (rays : Rays) (vector : Vector) → cone ≡ cone_of p → AreShown cone rays →
      length vector ≡ p.n → IsSearch p cone rays (walk_at d root) vector
  search_there cone rays vector same are width = record {
    is_cone = same;
    are_shown = are;
    few = x.few;
    narrow = x.narrow;
    width = width;
    free = x.free;
    columns = x.columns;
    home = begins.home;
    walk_in = record { stands = stands; kept = tt };
    phase = x.found.phase;
  }

  -- at its root
  pub is_at_root : (walk : Walk) → walk ≡ walk_at d root → IsAtRoot p walk
  is_at_root walk e = subst (λ (w : Walk). IsAtRoot p w) (sym e) (record {
    start = record { key = refl; at = refl };
    job = x.found.key;
    search_root = x.found.search_root;
  })

  pub is_search : (cone : System) (rays : Rays) (walk : Walk) (vector : Vector) → walk ≡ walk_at d root →
      cone ≡ cone_of p → AreShown cone rays → length vector ≡ p.n → IsSearch p cone rays walk vector
  is_search cone rays walk vector e same are width =
      subst (λ (w : Walk). IsSearch p cone rays w vector) (sym e) (search_there cone rays vector same are width)
