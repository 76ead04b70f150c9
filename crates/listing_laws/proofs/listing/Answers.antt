use Rattle.listing_laws.proofs.ListingLemmas.{whole_listing}
use Rattle.listing_laws.proofs.listing.Goals as goal

pub returns : goal.returns
returns c = whole_listing
