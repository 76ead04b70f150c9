use Rattle.std.proofs.Common.{◌≡◌, ◌≤◌, length}
use Rattle.job_text.specs.Scans.{Scanned}
use Rattle.job_text.proofs.scan.scan_lines.Given as goal

abbrev pub invariant-lines : goal.invariant-lines
invariant-lines l = record {
  scanned : Scanned (length l.initial.row) l.text l.rest l.rows l.keys l.place;
  size : length l.row ≡ length l.initial.row;
  few : l.rows ≤ l.place;
  few_keys : length l.keys ≤ l.place;
}

abbrev pub decreases-lines : goal.decreases-lines
decreases-lines l = length l.rest
