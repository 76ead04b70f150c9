use Rattle.std.proofs.Common.{◌≡◌, ◌≤◌, length}
use Rattle.poly_reader.specs.Matrix.{matrix_of}
use Rattle.poly_reader.proofs.matrix.extent_of.Given as goal

-- the words behind so many numbers give what all of them give
abbrev pub invariant-numbers : goal.invariant-numbers
invariant-numbers l = record {
  same : matrix_of l.last l.rows l.width l.count l.words ≡ matrix_of l.last l.rows l.width 0 l.fn.words;
  within : l.count ≤ l.most;
}

abbrev pub decreases-numbers : goal.decreases-numbers
decreases-numbers l = length l.words
