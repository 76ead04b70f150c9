use Rattle.listing_laws.proofs.ConeLemmas.{is_listable, extreme_is_shown_corner}
use Rattle.listing_laws.proofs.AlongLemmas.{one_sign}
use Rattle.listing_laws.proofs.cone_of_system.Goals as goal

pub returns : goal.returns
returns c = record { listable = is_listable; opposite = one_sign; corners = extreme_is_shown_corner }
