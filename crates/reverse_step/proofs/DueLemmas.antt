-- An overflow that stops a walk in the main space of a polyhedron, or its start at a key, is due.
use Rattle.std.proofs.Common.{◌≡◌, ℕ, List, refl, sym, subst, ◌∙◌}
use Rattle.std.specs.List.{Contains}
use Rattle.poly_model.specs.declared.overflow.Overflow.{Overflow}
use Rattle.poly_model.specs.declared.overflow.Phase.TheVariants.{Main}
use Rattle.poly_model.specs.Systems.{Polyhedron, cone_of}
use Rattle.poly_model.specs.FreeColumns.{AreFreeColumns}
use Rattle.poly_model.specs.Spaces.{IsSpaceOf, HasPoints, main_space}
use Rattle.poly_model.specs.Dictionaries.{Table, IsDictionary}
use Rattle.poly_model.specs.Tree.{IsLexFeasible, Leaves}
use Rattle.poly_model.specs.Overflows.{Passes, IsPassing}
use Rattle.poly_model.specs.Due.{IsDue, IsAskedInMain, IsAskedOnTheWay}
use Rattle.dictionary.specs.Views.{Dictionary, table_of, CanPivot, IsDictionaryIn, IsOverflow}
use Rattle.lex_pivot.proofs.PivotLemmas.{can_leave}
use Rattle.reverse_step.specs.Walks.{Stands}
use Rattle.reverse_step.specs.Children.{StopsWalk}
use Rattle.reverse_step.specs.Ways.{StopsOnTheWay}

module _ (p : Polyhedron) (free : List ℕ) (columns : AreFreeColumns (cone_of p) free) where
  -- a product that passes at a dictionary of the main space
  module _ (d : Dictionary) (phase : d.phase ≡ Main) (points : HasPoints (main_space p free))
      (is : IsDictionaryIn (main_space p free) d) (r s : ℕ) (o : Overflow) (can : CanPivot d r s)
      (over : IsOverflow d r s o) where
    abbrev pub passes_at : Passes p o
    passes_at = record {
      space = main_space p free;
      is_space = subst (λ f. IsSpaceOf p f (main_space p free)) (sym (over.phase ∙ phase)) (free, columns, refl);
      point = points;
      table = table_of d;
      dictionary = subst (λ k. IsDictionary (main_space p free) k (table_of d)) (sym over.key) is.dictionary;
      r = r;
      s = s;
      outside = (
        subst (λ ls. Contains ls r) is.labels can.label,
        λ c. can.outside (subst (λ k. Contains k r) over.key c),
      );
      inside = subst (λ k. Contains k s) (sym over.key) can.inside;
      nonzero = can.nonzero;
      passing = subst (λ k. IsPassing (main_space p free).labels k (table_of d) r s o) (sym over.key)
          (subst (λ ls. IsPassing ls d.key (table_of d) r s o) is.labels over.passes);
    }

  module _ (root : List ℕ) (home : Table) (d : Dictionary) (phase : d.phase ≡ Main)
      (st : Stands (main_space p free) home root d) (o : Overflow) (x : StopsWalk d root o) where
    pub due_in_main : IsDue p o (IsAskedInMain p root o)
    due_in_main = record {
      passes = passes_at d phase st.feasible.dictionary.points st.dictionary x.r x.s o
          (can_leave d root x.s x.r x.column x.leaves) x.overflow;
      asked = record {
        phase = x.overflow.phase ∙ phase;
        feasible = subst (λ k. IsLexFeasible (main_space p free) root k (table_of d)) (sym x.overflow.key) st.feasible;
        leaves = subst (λ k. Leaves (main_space p free).labels root k (table_of d) x.s x.r) (sym x.overflow.key)
            (subst (λ ls. Leaves ls root d.key (table_of d) x.s x.r) st.dictionary.labels x.leaves);
      };
    }

  -- on the way to a key
  module _ (from : Dictionary) (to : List ℕ) (phase : from.phase ≡ Main) (points : HasPoints (main_space p free))
      (is : IsDictionaryIn (main_space p free) from) (o : Overflow) (x : StopsOnTheWay from to o) where
    pub due_on_the_way : IsDue p o (IsAskedOnTheWay p from.key to o)
    due_on_the_way = record {
      passes = passes_at x.at (x.way.phase ∙ phase) points (x.way.dictionary (main_space p free) points is) x.r x.s o
          x.gives.can x.overflow;
      asked = record {
        phase = x.overflow.phase ∙ x.way.phase ∙ phase;
        labels = λ k c. x.way.between k (subst (λ ks. Contains ks k) x.overflow.key c);
        row = x.row;
        column = x.gives.column;
      };
    }
