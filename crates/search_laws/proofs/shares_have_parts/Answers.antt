use Rattle.search_laws.proofs.ShareParts.{has_share}
use Rattle.search_laws.proofs.shares_have_parts.Goals as goal

pub returns : goal.returns
returns c space root key home t h f = has_share space root home h key (t, f)
