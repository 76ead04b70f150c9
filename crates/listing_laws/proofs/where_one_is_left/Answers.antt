use Rattle.listing_laws.proofs.ShownLemmas.{under_is_tested, nothing_if_it_fails, one_if_it_passes, nothing_if_neither}
use Rattle.listing_laws.proofs.where_one_is_left.Goals as goal

pub returns : goal.returns
returns c = record {
  tested = under_is_tested;
  fails = nothing_if_it_fails;
  one = one_if_it_passes;
  neither = nothing_if_neither;
}
