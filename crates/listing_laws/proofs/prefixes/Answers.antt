use Rattle.listing_laws.proofs.PrefixLemmas.{one_list, full, skipped, taken_or_not, not_both_under, grows, stays, next_label, labels_are_ascending}
use Rattle.listing_laws.proofs.prefixes.Goals as goal

pub returns : goal.returns
returns c = record {
  one = one_list;
  full = full;
  skipped = λ cone marks y l. skipped cone marks l y;
  splits = λ cone marks y l. taken_or_not cone marks l y;
  apart = λ cone marks y l. not_both_under cone marks l y;
  grows = grows;
  stays = stays;
  next = next_label;
  labels = labels_are_ascending;
}
