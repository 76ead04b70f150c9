use Rattle.std.proofs.Common.{◌≡◌, List, length}
use Rattle.poly_num.specs.Vectors.{Vector}
use Rattle.job_text.specs.LeftRows.{LeavesRows}
use Rattle.run_ledger.proofs.RowsOwed.{OwesRows}
use Rattle.run_ledger.proofs.rows.print_left.Given as goal

abbrev pub invariant-rows : goal.invariant-rows
invariant-rows g l = record {
  kind : l.printed.listing ≡ l.fn.printed.listing;
  size : length l.row ≡ length l.fn.row;
  same : g.O.Sink.faults l.out ≡ g.O.Sink.faults l.fn.out;
  owes : (rows : List Vector) → LeavesRows (length l.fn.row) rows l.fn.left →
      (rest : List Vector) × LeavesRows (length l.fn.row) rest l.left
      × OwesRows g.O.Sink rows l.fn.printed l.fn.out rest l.printed l.out;
}

abbrev pub decreases-rows : goal.decreases-rows
decreases-rows g l = length l.left
