-- What the listing of a file comes to, once its rows were counted from none.
use Rattle.std.proofs.Common.{◌≡◌, ℕ, ◌+◌, ◌%◌, ◌^◌, List, length, ap, ◌∙◌, arith}
use Rattle.poly_num.specs.Vectors.{Vector}
use Rattle.poly_model.specs.Extreme.{AreExtreme, IsFeasible}
use Rattle.poly_model.specs.FreeColumns.{AreLines}
use Rattle.poly_model.specs.Systems.{System, Polyhedron, cone_of}
use Rattle.search_laws.proofs.SearchRoots.{has_search_root}
use Rattle.reverse_step.specs.Walks.{Walk}
use Rattle.row_printer.specs.declared.tally.Tally.{Tally}
use Rattle.row_printer.specs.Rows.{counted, sum_of_sizes, Counts}
use Rattle.convert_core.specs.declared.rays.Rays.{Rays}
use Rattle.convert_core.specs.declared.totals.Totals.{Totals}
use Rattle.convert_core.specs.Searches.{IsSearch, IsAtRoot}
use Rattle.convert_core.specs.Totals.{AreTotals}

-- a file that is searched has a point
pub has_point : (p : Polyhedron) (cone : System) (rays : Rays) (walk : Walk) (vector : Vector) →
    IsSearch p cone rays walk vector → IsAtRoot p walk → IsFeasible (cone_of p)
has_point p cone rays walk vector x a = (has_search_root p x.few).exactly.0 (walk.root, a.search_root)

from_nothing : (m : ℕ) → (0 + m) % 2 ^ 64 ≡ m % 2 ^ 64
from_nothing m = omega arith

pub adds_up : (p : Polyhedron) → IsFeasible (cone_of p) → (vectors : List Vector) → AreLines (cone_of p) vectors →
    (shown : List Vector) → AreExtreme (cone_of p) shown → (before now : Tally) → before.rows ≡ 0 → before.sum ≡ 0 →
    Counts before now shown → (totals : Totals) → totals.rows ≡ now.rows → totals.lines ≡ length vectors →
    totals.sum ≡ now.sum → AreTotals p totals
adds_up p point vectors lines shown extreme before now no_rows no_sum counts totals rows many sum = record {
  feasible = point;
  vectors = vectors;
  are_lines = lines;
  shown = shown;
  are_extreme = extreme;
  rows = rows ∙ counts.rows ∙ ap (λ n. counted n (length shown)) no_rows;
  lines = many;
  sum = sum ∙ counts.sum ∙ ap (λ n. (n + sum_of_sizes shown) % 2 ^ 64) no_sum ∙ from_nothing (sum_of_sizes shown);
}
