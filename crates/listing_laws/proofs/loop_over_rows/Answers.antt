use Rattle.listing_laws.proofs.PrefixLemmas.{loop_begins, loop_skips, loop_takes, loop_ends}
use Rattle.listing_laws.proofs.loop_over_rows.Goals as goal

pub returns : goal.returns
returns c = record {
  begins = loop_begins;
  skips = λ cone prefix marks listed l. loop_skips cone marks l prefix listed;
  takes = λ cone prefix marks listed more l w. loop_takes cone marks l prefix listed more w;
  ends = loop_ends;
}
