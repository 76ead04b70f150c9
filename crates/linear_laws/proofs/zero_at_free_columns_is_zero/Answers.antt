use Rattle.linear_laws.proofs.LineLemmas.{zero_at_free}
use Rattle.linear_laws.proofs.zero_at_free_columns_is_zero.Goals as goal

pub returns : goal.returns
returns c = zero_at_free
