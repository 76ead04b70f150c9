use Rattle.cone_laws.proofs.ColumnLemmas.{one_list_of_columns, line_of_column}
use Rattle.cone_laws.proofs.LineLists.{one_list_of_lines}
use Rattle.cone_laws.proofs.lines.Goals as goal

pub returns : goal.returns
returns c = record {
  line = line_of_column;
  list = λ sys. one_list_of_lines sys (line_of_column sys) (one_list_of_columns sys);
}
