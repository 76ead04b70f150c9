use Rattle.linear_laws.proofs.FreeLemmas.{free_are_slots}
use Rattle.linear_laws.proofs.free_columns_are_the_slots.Goals as goal

pub returns : goal.returns
returns c = free_are_slots
