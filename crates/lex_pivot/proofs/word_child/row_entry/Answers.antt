use Rattle.lex_pivot.proofs.EarlierLemmas.{row_only}
use Rattle.lex_pivot.proofs.word_child.row_entry.Goals as goal

pub position-requires : goal.position-requires
position-requires c = (row_only c.args.table.now.dict.now.labels c.args.row c.requires.row.row).0
