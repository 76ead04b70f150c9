use Rattle.plain_text.specs.Cuts.{is_newline}
use Rattle.plain_text.proofs.Positions.{search_position}
use Rattle.plain_text.proofs.newline.newline_at.Goals as goal

pub returns : goal.returns
returns c = search_position is_newline c.args.text.now c.memchr.result c.memchr.ensures
