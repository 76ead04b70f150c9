-- The lines that the program takes, over clap's own definition of what a command takes.
use Rattle.std.specs.Prelude.{◌≡◌, ⊤, ℕ, List, [], ◌∷◌, codes, true, Option, Some, None, option_and_then}
use Rattle.std.specs.Prelude.{if◌then◌else◌}
use Rattle.std.specs.Str.Parse.{digits_value, without_leading_plus}
use Rattle.clap.specs.ValueTests.{is_unsigned_in}
use Rattle.clap.specs.Words.{App, Row, Rule, Text, fault_of, first_of, new_app, new_rule, subcommand_of, with_rule}
use Rattle.clap.specs.Words.{with_subcommand}
use Rattle.clap.specs.declared.builder.value_parser.ValueParser.TheVariants as parsers
use Rattle.example_polys.specs.declared.kind.ExampleKind.{ExampleKind}
use Rattle.example_polys.specs.declared.kind.ExampleKind.TheVariants.{Cube, Cross, Product, Pyramid}
use Rattle.command_line.specs.declared.lines.Line.{Line}
use Rattle.command_line.specs.declared.lines.Line.TheVariants.{Convert, Job, Demo, Run, Resume, Status}
use Rattle.command_line.specs.declared.lines.WorkOptions.{WorkOptions}

-- ---- the commands

-- the program without a command: a command is required, nothing asks for help or a version
abbrev pub base_app : App
base_app = record (new_app (codes "lrs")) {
  top = record (new_app (codes "lrs")).top {
    no_binary_name = true;
    disable_help_flag = true;
    disable_help_subcommand = true;
    disable_version_flag = true;
    subcommand_required = true;
  };
}

-- a command without words of its own
abbrev pub plain_app : Text → App
plain_app name = new_app name

-- the first word of `demo`, which clap takes as it is
abbrev pub kind_rule : Rule
kind_rule = record (new_rule (codes "KIND")) { required = true }

-- the second: a number from 1 to 20
abbrev pub number_rule : Rule
number_rule = record (new_rule (codes "N")) { required = true; parser = Some (parsers.Unsigned 1 20) }

abbrev pub demo_app : App
demo_app = with_rule (with_rule (new_app (codes "demo")) kind_rule) number_rule

-- the name of a ledger, which clap takes as it is
abbrev pub ledger_rule : Rule
ledger_rule = record (new_rule (codes "LEDGER")) { required = true }

-- an option with a number from `least` to `most`, and the number that it has where it is left out
abbrev pub option_rule : Text → Text → ℕ → ℕ → Rule
option_rule name default least most = record (new_rule name) {
  long = Some name;
  defaults = default ∷ [];
  parser = Some (parsers.Unsigned least most);
}

-- a command whose one word is the name of a ledger
abbrev pub ledger_app : Text → App
ledger_app name = with_rule (new_app name) ledger_rule

-- such a command with the options of a run
abbrev pub work_app : Text → App
work_app name = with_rule (with_rule (with_rule (with_rule (with_rule (ledger_app name)
    (option_rule (codes "workers") (codes "4") 1 256))
    (option_rule (codes "bases") (codes "10000") 1 1000000000000))
    (option_rule (codes "depth") (codes "2") 1 1000000))
    (option_rule (codes "lmin") (codes "3") 1 1000))
    (option_rule (codes "lost") (codes "100") 0 1000000)

-- the program: its commands are `convert`, `job`, `demo`, `run`, `resume` and `status`
abbrev pub lrs_app : App
lrs_app = with_subcommand (with_subcommand (with_subcommand (with_subcommand (with_subcommand (with_subcommand base_app
    (plain_app (codes "convert")).top)
    (plain_app (codes "job")).top)
    demo_app.top)
    (work_app (codes "run")).top)
    (work_app (codes "resume")).top)
    (ledger_app (codes "status")).top

-- ---- the lines

-- the name of the command that a line asks for
abbrev pub name_of : Line → Text
name_of Convert = codes "convert"
name_of Job = codes "job"
name_of (Demo kind n) = codes "demo"
name_of (Run ledger options) = codes "run"
name_of (Resume ledger options) = codes "resume"
name_of (Status ledger) = codes "status"

-- the word for a family of examples
abbrev pub word_of : ExampleKind → Text
word_of Cube = codes "cube"
word_of Cross = codes "cross"
word_of Product = codes "product"
word_of Pyramid = codes "pyramid"

-- the number that a text says, where it says one in these bounds
abbrev pub number_within : ℕ → ℕ → Text → Option ℕ
number_within least most text =
    if is_unsigned_in least most text then Some (digits_value 10 (without_leading_plus text)) else None

-- the number within these bounds that clap found for a word or an option of this name
abbrev pub number_found : Text → ℕ → ℕ → List Row → Option ℕ
number_found name least most rows = option_and_then (number_within least most) (first_of name rows)

-- what clap found for the options of a run are these numbers
pub record SaysOptions (rows : List Row) (o : WorkOptions) : Type 0 where
  pub workers : number_found (codes "workers") 1 256 rows ≡ Some o.workers
  pub bases : number_found (codes "bases") 1 1000000000000 rows ≡ Some o.bases
  pub depth : number_found (codes "depth") 1 1000000 rows ≡ Some o.depth
  pub lmin : number_found (codes "lmin") 1 1000 rows ≡ Some o.lmin
  pub lost : number_found (codes "lost") 0 1000000 rows ≡ Some o.lost

-- what clap found for the words of a command is what the line says
abbrev pub Says : List Row → Line → Type 0
Says rows Convert = ⊤
Says rows Job = ⊤
Says rows (Demo kind n) =
    (first_of (codes "KIND") rows ≡ Some (word_of kind)) × (number_found (codes "N") 1 20 rows ≡ Some n)
Says rows (Run ledger options) = (first_of (codes "LEDGER") rows ≡ Some ledger.now) × SaysOptions rows options
Says rows (Resume ledger options) = (first_of (codes "LEDGER") rows ≡ Some ledger.now) × SaysOptions rows options
Says rows (Status ledger) = first_of (codes "LEDGER") rows ≡ Some ledger.now

-- the words ask for this line: clap finds no fault with them, and they name its command, whose words say the line
pub record AskFor (words : List Text) (line : Line) : Type 0 where
  pub faultless : fault_of lrs_app words ≡ []
  pub rows : List Row
  pub command : subcommand_of lrs_app words ≡ Some (name_of line, rows)
  pub says : Says rows line

-- the words ask for some line
abbrev pub IsAccepted : List Text → Type 0
IsAccepted words = (line : Line) × AskFor words line
