use Rattle.tree_laws.proofs.ListedVectors.{searches_listing}
use Rattle.tree_laws.proofs.reverse_search_of_listings.Goals as goal

pub returns : goal.returns
returns c = searches_listing
