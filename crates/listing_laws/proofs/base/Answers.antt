use Rattle.listing_laws.proofs.BaseLemmas.{first_basis_is_base, nothing_is_base}
use Rattle.listing_laws.proofs.base.Goals as goal

pub returns : goal.returns
returns c = record { first = first_basis_is_base; nothing = nothing_is_base }
