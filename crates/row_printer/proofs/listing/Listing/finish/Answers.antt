use Rattle.poly_model.specs.ListingText.{end_text}
use Rattle.row_printer.proofs.listing.Listing.finish.Goals as goal

pub returns : goal.returns
unfolding end_text
returns g c = c.write_all.ensures
