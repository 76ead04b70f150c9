-- Rows that were counted, and more rows.
use Rattle.std.proofs.Common.{◌≡◌, ℕ, ◌+◌, ◌%◌, ◌^◌, List, [], ◌++◌, length, sym, ap, ◌∙◌, length-append, arith, ◌<◌}
use Rattle.std.proofs.lemmas.List.Sums.{sum_by-append}
use Rattle.poly_num.specs.Vectors.{Vector}
use Rattle.row_printer.specs.declared.tally.Tally.{Tally}
use Rattle.row_printer.specs.Rows.{counted, entries_size, sum_of_sizes, Counts}

-- no rows
pub counted_none : (rows : ℕ) → rows < 2 ^ 64 → rows ≡ counted rows 0
counted_none rows few = omega (arith, few)

pub counts_none : (a : Tally) → Counts a a []
counts_none a = let small = a.small in record { rows = counted_none a.rows a.few; sum = omega (arith, small) }

pub counted_more : (rows m n : ℕ) → counted (counted rows m) n ≡ counted rows (m + n)
counted_more rows m n = omega arith

summed_more : (sum m n : ℕ) → ((sum + m) % 2 ^ 64 + n) % 2 ^ 64 ≡ (sum + (m + n)) % 2 ^ 64
summed_more sum m n = omega arith

-- rows, and more
pub counts_more : (a b c : Tally) (xs ys : List Vector) → Counts a b xs → Counts b c ys → Counts a c (xs ++ ys)
counts_more a b c xs ys f g = record {
  rows = g.rows ∙ ap (λ n. counted n (length ys)) f.rows ∙ counted_more a.rows (length xs) (length ys)
      ∙ ap (counted a.rows) (sym (length-append xs ys));
  sum = g.sum ∙ ap (λ n. (n + sum_of_sizes ys) % 2 ^ 64) f.sum ∙ summed_more a.sum (sum_of_sizes xs) (sum_of_sizes ys)
      ∙ ap (λ n. (a.sum + n) % 2 ^ 64) (sym (sum_by-append entries_size xs ys));
}
