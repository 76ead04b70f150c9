-- The free columns and lines of a system are those of the list of its rows: the columns are one list,
-- each has one line, and only zero is 0 on all rows and at the free columns.
use Rattle.std.proofs.Common.{◌≡◌, ℕ, pos, ◌*ℤ◌, List, length}
use Rattle.std.specs.List.{All}
use Rattle.poly_num.specs.Vectors.{Vector, ◌·◌, IsZero}
use Rattle.poly_model.specs.Systems.{System}
use Rattle.poly_model.specs.Cones.{at, IsTight}
use Rattle.poly_model.specs.FreeColumns.{IsFree, IsZeroAtFree, IsLine, AreFreeColumns}
use Rattle.linear_laws.specs.FreeColumns.{IsFreeColumn, IsLineOf}
use Rattle.linear_laws.specs.FreeColumns as rows
use Rattle.linear_laws.proofs.LeftSlots.{elimination_leaves}
use Rattle.linear_laws.proofs.FreeLemmas.{free_are_slots, free_columns_one_list}
use Rattle.linear_laws.proofs.LineLemmas.{zero_at_free, some_line, one_line}
use Rattle.cone_laws.specs.Unique.{ExactlyOne}
use Rattle.cone_laws.proofs.RowLemmas.{forms_of, forms_from_rows, rows_from_forms}

module _ (sys : System) where
  -- ---- a column is free in the system exactly where it is in the list of the rows
  pub free_in_rows : (j : ℕ) → IsFree sys j → IsFreeColumn sys.n (forms_of sys) j
  free_in_rows j f = record {
    within = f.within;
    factor = f.factor;
    weights = f.weights;
    nonzero = f.nonzero;
    earlier = f.earlier;
    combines = forms_from_rows (λ g. f.factor *ℤ at j g ≡ f.weights · g) sys f.combines;
  }

  free_in_system : (j : ℕ) → IsFreeColumn sys.n (forms_of sys) j → IsFree sys j
  free_in_system j f = record {
    within = f.within;
    factor = f.factor;
    weights = f.weights;
    nonzero = f.nonzero;
    earlier = f.earlier;
    combines = rows_from_forms (λ g. f.factor *ℤ at j g ≡ f.weights · g) sys f.combines;
  }

  columns_in_system : (columns : List ℕ) → rows.AreFreeColumnsOf sys.n (forms_of sys) columns →
      AreFreeColumns sys columns
  columns_in_system columns h = record {
    ascending = h.ascending;
    exactly = λ j. (λ f. (h.exactly j).0 (free_in_rows j f), λ m. free_in_system j ((h.exactly j).1 m));
  }

  columns_in_rows : (columns : List ℕ) → AreFreeColumns sys columns →
      rows.AreFreeColumnsOf sys.n (forms_of sys) columns
  columns_in_rows columns h = record {
    ascending = h.ascending;
    exactly = λ j. (λ f. (h.exactly j).0 (free_in_system j f), λ m. free_in_rows j ((h.exactly j).1 m));
  }

  pub one_list_of_columns : ExactlyOne (AreFreeColumns sys)
  one_list_of_columns =
      let e = elimination_leaves sys.n (forms_of sys) in
      let h = free_are_slots sys.n (forms_of sys) e.columns e.D e.slots e.rest e.leaves in
      record {
        one = e.columns;
        has = columns_in_system e.columns h;
        only = λ other k.
            free_columns_one_list sys.n (forms_of sys) other e.columns (columns_in_rows other k) h;
      }

  -- ---- lines
  line_of_rows : (j : ℕ) (y : Vector) → IsLine sys j y → IsLineOf sys.n (forms_of sys) j y
  line_of_rows j y l = record {
    free = free_in_rows j l.free;
    width = l.width;
    primitive = l.primitive;
    vanishing = forms_from_rows (λ g. g · y ≡ pos 0) sys l.vanishing;
    here = l.here;
    elsewhere = λ k f n. l.elsewhere k (free_in_system k f) n;
  }

  line_of_system : (j : ℕ) (y : Vector) → IsLineOf sys.n (forms_of sys) j y → IsLine sys j y
  line_of_system j y l = record {
    free = free_in_system j l.free;
    width = l.width;
    primitive = l.primitive;
    vanishing = rows_from_forms (λ g. g · y ≡ pos 0) sys l.vanishing;
    here = l.here;
    elsewhere = λ k f n. l.elsewhere k (free_in_rows k f) n;
  }

  pub line_of_column : (j : ℕ) → IsFree sys j → ExactlyOne (IsLine sys j)
  line_of_column j f =
      let w = some_line sys.n (forms_of sys) j (free_in_rows j f) in
      record {
        one = w.0;
        has = line_of_system j w.0 w.1;
        only = λ z l. one_line sys.n (forms_of sys) j w.0 z w.1 (line_of_rows j z l);
      }

  pub zero_from_tight : (y : Vector) → length y ≡ sys.n → All (IsTight y) sys.rows → IsZeroAtFree sys y →
      IsZero y
  zero_from_tight y l t h =
      zero_at_free sys.n (forms_of sys) y l (forms_from_rows (λ g. g · y ≡ pos 0) sys t)
      (λ j f. h j (free_in_system j f))
