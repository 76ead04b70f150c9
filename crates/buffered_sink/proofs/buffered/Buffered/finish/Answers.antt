use Rattle.buffered_sink.proofs.EndLemmas.{first_bytes, part_went_on}
use Rattle.buffered_sink.proofs.buffered.Buffered.finish.Goals as goal

pub returns-clause-part : goal.returns-clause-part
returns-clause-part g c text told =
    first_bytes _ _ _ _ text c.flush-end.new.self.grown (part_went_on c.flush-end.ensures.prints) told
