use Rattle.search_laws.proofs.ShareParts.{root_has_all}
use Rattle.search_laws.proofs.root_has_all.Goals as goal

pub returns : goal.returns
returns c space root home h y = root_has_all space root home h y
