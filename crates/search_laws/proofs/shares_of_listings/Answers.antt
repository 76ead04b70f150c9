use Rattle.search_laws.proofs.SubtreeShares.{has_shares}
use Rattle.search_laws.proofs.shares_of_listings.Goals as goal

pub returns : goal.returns
returns c = has_shares
