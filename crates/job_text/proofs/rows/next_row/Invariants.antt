use Rattle.std.proofs.Common.{◌≤◌, ℕ, List, length}
use Rattle.poly_num.specs.Vectors.{Vector}
use Rattle.job_text.specs.LeftRows.{LeavesRows}
use Rattle.job_text.proofs.rows.next_row.Given as goal

abbrev pub invariant-lines : goal.invariant-lines
invariant-lines l = record {
  left : (n : ℕ) (rows : List Vector) → LeavesRows n rows l.fn.left → LeavesRows n rows l.left;
  size : length l.left ≤ length l.fn.left;
}

abbrev pub decreases-lines : goal.decreases-lines
decreases-lines l = length l.left
