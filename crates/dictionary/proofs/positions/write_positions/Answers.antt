use Rattle.std.proofs.Common.{◌∙◌}
use Rattle.dictionary.proofs.positions.write_positions.Goals as goal

pub write_columns-requires-clause-room : goal.write_columns-requires-clause-room
write_columns-requires-clause-room c = c.write_rows.ensures.room ∙ c.requires.room

pub returns : goal.returns
returns c = record {
  room = c.write_columns.ensures.room ∙ c.write_rows.ensures.room ∙ c.requires.room;
  in_row = λ l m. c.write_columns.ensures.others l (λ n. c.requires.apart.apart l m n) ∙ c.write_rows.ensures.rows l m;
  in_column = c.write_columns.ensures.columns;
}
