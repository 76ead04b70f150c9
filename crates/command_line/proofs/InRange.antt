-- The numbers of a line are ones that its command takes.
use Rattle.std.proofs.Common.{◌≡◌, ℕ, ◌≤◌, List, Option, Some, None, codes}
use Rattle.clap.specs.Words.{Row, Text, first_of}
use Rattle.std.specs.Prelude.{option_and_then}
use Rattle.command_line.specs.Laws.{AreInRange, IsInRange}
use Rattle.command_line.specs.Lines.{AskFor, Says, SaysOptions, number_found, number_within}
use Rattle.command_line.specs.declared.lines.Line.{Line}
use Rattle.command_line.specs.declared.lines.Line.TheVariants.{Convert, Job, Demo, Run, Resume, Status}
use Rattle.command_line.specs.declared.lines.WorkOptions.{WorkOptions}
use Rattle.command_line.proofs.NumberTexts.{within, none_some}

of_text : (low high : ℕ) (first : Option Text) (n : ℕ) → option_and_then (number_within low high) first ≡ Some n →
    (low ≤ n) × (n ≤ high)
of_text low high None n e = absurd (none_some n e)
of_text low high (Some text) n e = within low high text n e

found_within : (name : Text) (low high : ℕ) (rows : List Row) (n : ℕ) → number_found name low high rows ≡ Some n →
    (low ≤ n) × (n ≤ high)
found_within name low high rows n e = of_text low high (first_of name rows) n e

options_in_range : (rows : List Row) (o : WorkOptions) → SaysOptions rows o → AreInRange o
options_in_range rows o s = record {
  workers = found_within (codes "workers") 1 256 rows o.workers s.workers;
  bases = found_within (codes "bases") 1 1000000000000 rows o.bases s.bases;
  depth = found_within (codes "depth") 1 1000000 rows o.depth s.depth;
  lmin = found_within (codes "lmin") 1 1000 rows o.lmin s.lmin;
  lost = (found_within (codes "lost") 0 1000000 rows o.lost s.lost).1;
}

says_in_range : (rows : List Row) (line : Line) → Says rows line → IsInRange line
says_in_range rows Convert s = tt
says_in_range rows Job s = tt
says_in_range rows (Demo kind n) s = found_within (codes "N") 1 20 rows n s.1
says_in_range rows (Run ledger options) s = options_in_range rows options s.1
says_in_range rows (Resume ledger options) s = options_in_range rows options s.1
says_in_range rows (Status ledger) s = tt

pub in_range : (words : List Text) (line : Line) → AskFor words line → IsInRange line
in_range words line asked = says_in_range asked.rows line asked.says
