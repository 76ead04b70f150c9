use Rattle.text_laws.proofs.ListedRows.{listing_has_rows, listing_is_read_back, feasible_is_read_back}
use Rattle.text_laws.proofs.listing.Goals as goal

pub returns : goal.returns
returns c = record { rows = listing_has_rows; read = listing_is_read_back; feasible = feasible_is_read_back }
