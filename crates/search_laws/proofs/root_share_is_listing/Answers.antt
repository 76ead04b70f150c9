use Rattle.search_laws.proofs.SubtreeShares.{root_share}
use Rattle.search_laws.proofs.root_share_is_listing.Goals as goal

pub returns : goal.returns
returns c = λ p root few h y. root_share p root h few y
