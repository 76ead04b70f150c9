use Rattle.search_laws.proofs.AnyShown.{serves_too}
use Rattle.search_laws.proofs.any_table_serves.Goals as goal

pub returns : goal.returns
returns c space root key t u d e = serves_too space root key t u d e
