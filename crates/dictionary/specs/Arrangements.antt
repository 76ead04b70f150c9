-- The dictionary of an arrangement of labels with its cells, and what stays of a dictionary in one.
use Rattle.std.specs.Prelude.{◌≡◌, ℤ, List}
use Rattle.poly_model.specs.declared.overflow.Phase.{Phase}
use Rattle.poly_model.specs.declared.overflow.Phase.TheVariants.{Main}
use Rattle.dictionary.specs.declared.arrangement.Arrangement.{Arrangement}
use Rattle.dictionary.specs.Views.{Dictionary, number, by_columns}
use Rattle.dictionary.specs.MainPhase.{kept_columns, IsDividedOut}

-- the dictionary whose labels stand so, with these cells
abbrev pub arranged : Phase → Arrangement → ℤ → List ℤ → Dictionary
arranged phase a denominator cells = record {
  phase = phase;
  labels = a.labels.items;
  key = a.key;
  columns = a.columns.items;
  rows = a.rows.items;
  denominator = denominator;
  cells = cells;
}

-- the numbers that a dictionary has there, in the phase `main`
abbrev pub part_of : Dictionary → Arrangement → Dictionary
part_of d a =
    arranged Main a d.denominator (by_columns (number d) a.rows.items (kept_columns d.columns a.columns.items))

-- the same without the common divisor of its cells and denominator
pub record IsWithoutDivisor (old new : Dictionary) : Type 0 where
  pub divided : IsDividedOut old.cells old.denominator new.cells new.denominator
  pub same : new ≡ record old { denominator = new.denominator; cells = new.cells }
