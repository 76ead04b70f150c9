use Rattle.listing_laws.proofs.ListingLemmas.{feasible_by_corners, feasible_by_listing, feasible_file_by_listing}
use Rattle.listing_laws.proofs.feasible.Goals as goal

pub returns : goal.returns
returns c = record {
  corners = feasible_by_corners;
  system = feasible_by_listing;
  file = feasible_file_by_listing;
}
