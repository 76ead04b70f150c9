-- The cells of a dictionary where all of them are words.
use Rattle.std.specs.Prelude.{◌≡◌}
use Rattle.std.specs.List.{Contains}
use Rattle.poly_model.specs.Tree.{Leaves}
use Rattle.search_laws.specs.ChildTest.{LeadsUp}
use Rattle.dictionary.specs.Positions.{AreCells}
use Rattle.dictionary.specs.Views.{table_of}
use Rattle.lex_pivot.specs.BeforeRoot.{before_root}
use Rattle.lex_pivot.specs.Leads.{Outlook, AreLeads}
use Rattle.lex_pivot.specs.declared.parents.Pivot.{Pivot}
use Rattle.lex_pivot.specs.declared.word_table.WordTable.{WordTable}

-- the cells are those of the dictionary
pub record IsTable (t : WordTable) : Type 0 where
  pub cells : AreCells t.dict.now t.cells.now

-- and the labels are the rows of its cobasis outside the root
pub record IsTieTable (t : WordTable) : Type 0 where
  pub table : IsTable t
  pub before : t.before.now ≡ before_root t.dict.now t.order.now

-- a row leaves in a column that leads up, and the leads are those of the dictionary
pub record IsNeighbourhood (t : WordTable) (read : Outlook) (pivot : Pivot) : Type 0 where
  pub table : IsTable t
  pub leads : AreLeads t.dict.now t.order.now read
  pub column : Contains t.dict.now.key pivot.col
  pub up : LeadsUp t.dict.now.labels t.order.now (table_of t.dict.now) pivot.col
  pub leaves : Leaves t.dict.now.labels t.order.now t.dict.now.key (table_of t.dict.now) pivot.col pivot.row
