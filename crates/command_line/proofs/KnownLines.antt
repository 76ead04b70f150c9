-- Known lines, which hold the definition to account. Each is computed from clap's own definition.
use Rattle.std.proofs.Common.{◌≡◌, ◌∷◌, [], Bor, Some, codes, refl, sym, ap}
use Rattle.clap.specs.Words.{Kinds, Text, fault_of}
use Rattle.clap.specs.declared.error.kind.ErrorKind.TheVariants.{ArgumentConflict, InvalidSubcommand, InvalidValue}
use Rattle.clap.specs.declared.error.kind.ErrorKind.TheVariants.{MissingRequiredArgument, MissingSubcommand, UnknownArgument, ValueValidation}
use Rattle.clap.proofs.OnLiterals.{clap_on_literals}
use Rattle.example_polys.specs.declared.kind.ExampleKind.TheVariants.{Cube, Pyramid}
use Rattle.command_line.specs.Lines.{AskFor, lrs_app}
use Rattle.command_line.specs.declared.lines.Line.TheVariants.{Convert, Job, Demo, Run, Resume, Status}
use Rattle.command_line.specs.declared.lines.WorkOptions.{WorkOptions}

-- ---- lines that are taken

pub convert : AskFor (codes "convert" ∷ []) Convert
unfolding clap_on_literals
convert = record { faultless = refl; rows = []; command = refl; says = tt }

-- clap takes `--` where flags may stand, and here nothing follows it
pub convert_dashes : AskFor (codes "convert" ∷ codes "--" ∷ []) Convert
unfolding clap_on_literals
convert_dashes = record { faultless = refl; rows = []; command = refl; says = tt }

pub job : AskFor (codes "job" ∷ []) Job
unfolding clap_on_literals
job = record { faultless = refl; rows = []; command = refl; says = tt }

pub job_dashes : AskFor (codes "job" ∷ codes "--" ∷ []) Job
unfolding clap_on_literals
job_dashes = record { faultless = refl; rows = []; command = refl; says = tt }

demo : AskFor (codes "demo" ∷ codes "cube" ∷ codes "16" ∷ []) (Demo Cube 16)
unfolding clap_on_literals
demo = record { faultless = refl; rows = _; command = refl; says = (refl, refl) }

-- a plus and zeros may stand before the digits, and `--` before the words
demo_dashes : AskFor (codes "demo" ∷ codes "--" ∷ codes "pyramid" ∷ codes "+02" ∷ []) (Demo Pyramid 2)
unfolding clap_on_literals
demo_dashes = record { faultless = refl; rows = _; command = refl; says = (refl, refl) }

-- the options that are left out
abbrev defaults : WorkOptions
defaults = record { workers = 4; bases = 10000; depth = 2; lmin = 3; lost = 100 }

-- a ledger's name is a text, wherever it lies
module _ (ledger : Bor Text) (is : ledger.now ≡ codes "L") where
  named : Some (codes "L") ≡ Some ledger.now
  named = ap (λ (name : Text). Some name) (sym is)

  run : AskFor (codes "run" ∷ codes "L" ∷ []) (Run ledger defaults)
  unfolding clap_on_literals
  run = record {
    faultless = refl;
    rows = _;
    command = refl;
    says = (named, record { workers = refl; bases = refl; depth = refl; lmin = refl; lost = refl });
  }

  run_two_workers : AskFor (codes "run" ∷ codes "L" ∷ codes "--workers" ∷ codes "2" ∷ [])
      (Run ledger (record defaults { workers = 2 }))
  unfolding clap_on_literals
  run_two_workers = record {
    faultless = refl;
    rows = _;
    command = refl;
    says = (named, record { workers = refl; bases = refl; depth = refl; lmin = refl; lost = refl });
  }

  -- options may stand before the name, and after `=`, and a plus and zeros before the digits
  resume_before : AskFor (codes "resume" ∷ codes "--workers=2" ∷ codes "--lost" ∷ codes "+00" ∷ codes "L" ∷ [])
      (Resume ledger (record defaults { workers = 2; lost = 0 }))
  unfolding clap_on_literals
  resume_before = record {
    faultless = refl;
    rows = _;
    command = refl;
    says = (named, record { workers = refl; bases = refl; depth = refl; lmin = refl; lost = refl });
  }

  status : AskFor (codes "status" ∷ codes "L" ∷ []) (Status ledger)
  unfolding clap_on_literals
  status = record { faultless = refl; rows = _; command = refl; says = named }

-- a name may be `-`, and empty
status_one_dash : (ledger : Bor Text) → ledger.now ≡ codes "-" → AskFor (codes "status" ∷ codes "-" ∷ []) (Status ledger)
unfolding clap_on_literals
status_one_dash ledger is =
    record { faultless = refl; rows = _; command = refl; says = ap (λ (name : Text). Some name) (sym is) }

status_empty : (ledger : Bor Text) → ledger.now ≡ [] → AskFor (codes "status" ∷ [] ∷ []) (Status ledger)
unfolding clap_on_literals
status_empty ledger is =
    record { faultless = refl; rows = _; command = refl; says = ap (λ (name : Text). Some name) (sym is) }

-- after `--` a word is the name, whatever it is
status_dashes : (ledger : Bor Text) → ledger.now ≡ codes "--help" →
    AskFor (codes "status" ∷ codes "--" ∷ codes "--help" ∷ []) (Status ledger)
unfolding clap_on_literals
status_dashes ledger is =
    record { faultless = refl; rows = _; command = refl; says = ap (λ (name : Text). Some name) (sym is) }

-- ---- lines that are not, with what clap says of them

no_words : fault_of lrs_app [] ≡ MissingSubcommand ∷ []
unfolding clap_on_literals
no_words = refl

-- a first word that is no command
abbrev stray : Kinds
stray = UnknownArgument ∷ InvalidSubcommand ∷ []

fly : fault_of lrs_app (codes "fly" ∷ []) ≡ stray
unfolding clap_on_literals
fly = refl

help : fault_of lrs_app (codes "help" ∷ []) ≡ stray
unfolding clap_on_literals
help = refl

help_convert : fault_of lrs_app (codes "help" ∷ codes "convert" ∷ []) ≡ stray
unfolding clap_on_literals
help_convert = refl

beginning : fault_of lrs_app (codes "conv" ∷ []) ≡ stray
unfolding clap_on_literals
beginning = refl

large_letters : fault_of lrs_app (codes "CONVERT" ∷ []) ≡ stray
unfolding clap_on_literals
large_letters = refl

empty_word : fault_of lrs_app ([] ∷ []) ≡ stray
unfolding clap_on_literals
empty_word = refl

large_letter : fault_of lrs_app (codes "Job" ∷ []) ≡ stray
unfolding clap_on_literals
large_letter = refl

one_dash : fault_of lrs_app (codes "-" ∷ []) ≡ stray
unfolding clap_on_literals
one_dash = refl

dashes : fault_of lrs_app (codes "--" ∷ []) ≡ MissingSubcommand ∷ []
unfolding clap_on_literals
dashes = refl

-- after `--` a word is no command
dashes_convert : fault_of lrs_app (codes "--" ∷ codes "convert" ∷ []) ≡ stray
unfolding clap_on_literals
dashes_convert = refl

-- a flag or a word too many
abbrev unknown : Kinds
unknown = UnknownArgument ∷ []

long_help : fault_of lrs_app (codes "--help" ∷ []) ≡ unknown
unfolding clap_on_literals
long_help = refl

short_help : fault_of lrs_app (codes "-h" ∷ []) ≡ unknown
unfolding clap_on_literals
short_help = refl

long_version : fault_of lrs_app (codes "--version" ∷ []) ≡ unknown
unfolding clap_on_literals
long_version = refl

short_version : fault_of lrs_app (codes "-V" ∷ []) ≡ unknown
unfolding clap_on_literals
short_version = refl

convert_help : fault_of lrs_app (codes "convert" ∷ codes "--help" ∷ []) ≡ unknown
unfolding clap_on_literals
convert_help = refl

convert_twice : fault_of lrs_app (codes "convert" ∷ codes "convert" ∷ []) ≡ unknown
unfolding clap_on_literals
convert_twice = refl

convert_word : fault_of lrs_app (codes "convert" ∷ codes "x" ∷ []) ≡ unknown
unfolding clap_on_literals
convert_word = refl

convert_empty_word : fault_of lrs_app (codes "convert" ∷ [] ∷ []) ≡ unknown
unfolding clap_on_literals
convert_empty_word = refl

convert_dashes_twice : fault_of lrs_app (codes "convert" ∷ codes "--" ∷ codes "--" ∷ []) ≡ unknown
unfolding clap_on_literals
convert_dashes_twice = refl

job_word : fault_of lrs_app (codes "job" ∷ codes "x" ∷ []) ≡ unknown
unfolding clap_on_literals
job_word = refl

job_help : fault_of lrs_app (codes "job" ∷ codes "--help" ∷ []) ≡ unknown
unfolding clap_on_literals
job_help = refl

job_dashes_twice : fault_of lrs_app (codes "job" ∷ codes "--" ∷ codes "--" ∷ []) ≡ unknown
unfolding clap_on_literals
job_dashes_twice = refl

-- `demo` wants two words, and the second is a number from 1 to 20
demo_alone : fault_of lrs_app (codes "demo" ∷ []) ≡ MissingRequiredArgument ∷ []
unfolding clap_on_literals
demo_alone = refl

demo_cube : fault_of lrs_app (codes "demo" ∷ codes "cube" ∷ []) ≡ MissingRequiredArgument ∷ []
unfolding clap_on_literals
demo_cube = refl

demo_three : fault_of lrs_app (codes "demo" ∷ codes "cube" ∷ codes "3" ∷ codes "3" ∷ []) ≡ unknown
unfolding clap_on_literals
demo_three = refl

demo_nothing : fault_of lrs_app (codes "demo" ∷ codes "cube" ∷ codes "0" ∷ []) ≡ ValueValidation ∷ []
unfolding clap_on_literals
demo_nothing = refl

demo_large : fault_of lrs_app (codes "demo" ∷ codes "cube" ∷ codes "21" ∷ []) ≡ ValueValidation ∷ []
unfolding clap_on_literals
demo_large = refl

demo_letter : fault_of lrs_app (codes "demo" ∷ codes "cube" ∷ codes "x" ∷ []) ≡ ValueValidation ∷ []
unfolding clap_on_literals
demo_letter = refl

-- clap takes any first word of `demo`, but only four ask for a line
demo_ball : fault_of lrs_app (codes "demo" ∷ codes "ball" ∷ codes "3" ∷ []) ≡ []
unfolding clap_on_literals
demo_ball = refl

-- `run`, `resume` and `status` want the name of a ledger, and one name only
run_alone : fault_of lrs_app (codes "run" ∷ []) ≡ MissingRequiredArgument ∷ []
unfolding clap_on_literals
run_alone = refl

resume_alone : fault_of lrs_app (codes "resume" ∷ []) ≡ MissingRequiredArgument ∷ []
unfolding clap_on_literals
resume_alone = refl

status_alone : fault_of lrs_app (codes "status" ∷ []) ≡ MissingRequiredArgument ∷ []
unfolding clap_on_literals
status_alone = refl

run_two_names : fault_of lrs_app (codes "run" ∷ codes "L" ∷ codes "M" ∷ []) ≡ unknown
unfolding clap_on_literals
run_two_names = refl

-- options are numbers in their ranges, at most once each, and no others
run_no_workers : fault_of lrs_app (codes "run" ∷ codes "L" ∷ codes "--workers" ∷ codes "0" ∷ []) ≡ ValueValidation ∷ []
unfolding clap_on_literals
run_no_workers = refl

run_many_workers : fault_of lrs_app (codes "run" ∷ codes "L" ∷ codes "--workers" ∷ codes "257" ∷ []) ≡ ValueValidation ∷ []
unfolding clap_on_literals
run_many_workers = refl

run_no_bases : fault_of lrs_app (codes "run" ∷ codes "L" ∷ codes "--bases" ∷ codes "0" ∷ []) ≡ ValueValidation ∷ []
unfolding clap_on_literals
run_no_bases = refl

run_many_bases : fault_of lrs_app (codes "run" ∷ codes "L" ∷ codes "--bases" ∷ codes "1000000000001" ∷ []) ≡ ValueValidation ∷ []
unfolding clap_on_literals
run_many_bases = refl

run_deep : fault_of lrs_app (codes "run" ∷ codes "L" ∷ codes "--depth" ∷ codes "1000001" ∷ []) ≡ ValueValidation ∷ []
unfolding clap_on_literals
run_deep = refl

run_large_lmin : fault_of lrs_app (codes "run" ∷ codes "L" ∷ codes "--lmin" ∷ codes "1001" ∷ []) ≡ ValueValidation ∷ []
unfolding clap_on_literals
run_large_lmin = refl

run_many_lost : fault_of lrs_app (codes "run" ∷ codes "L" ∷ codes "--lost" ∷ codes "1000001" ∷ []) ≡ ValueValidation ∷ []
unfolding clap_on_literals
run_many_lost = refl

run_letter : fault_of lrs_app (codes "run" ∷ codes "L" ∷ codes "--workers" ∷ codes "x" ∷ []) ≡ ValueValidation ∷ []
unfolding clap_on_literals
run_letter = refl

run_no_value : fault_of lrs_app (codes "run" ∷ codes "L" ∷ codes "--workers" ∷ []) ≡ InvalidValue ∷ []
unfolding clap_on_literals
run_no_value = refl

run_workers_twice : fault_of lrs_app (codes "run" ∷ codes "L" ∷ codes "--workers" ∷ codes "2" ∷ codes "--workers" ∷ codes "2" ∷ [])
    ≡ ArgumentConflict ∷ []
unfolding clap_on_literals
run_workers_twice = refl

run_dashes_option : fault_of lrs_app (codes "run" ∷ codes "--" ∷ codes "L" ∷ codes "--workers" ∷ codes "2" ∷ []) ≡ unknown
unfolding clap_on_literals
run_dashes_option = refl

run_name_as_number : fault_of lrs_app (codes "run" ∷ codes "--workers" ∷ codes "L" ∷ []) ≡ ValueValidation ∷ []
unfolding clap_on_literals
run_name_as_number = refl

run_fly : fault_of lrs_app (codes "run" ∷ codes "L" ∷ codes "--fly" ∷ []) ≡ unknown
unfolding clap_on_literals
run_fly = refl

run_help : fault_of lrs_app (codes "run" ∷ codes "L" ∷ codes "--help" ∷ []) ≡ unknown
unfolding clap_on_literals
run_help = refl

run_beginning : fault_of lrs_app (codes "run" ∷ codes "L" ∷ codes "--work" ∷ codes "2" ∷ []) ≡ unknown
unfolding clap_on_literals
run_beginning = refl

status_workers : fault_of lrs_app (codes "status" ∷ codes "L" ∷ codes "--workers" ∷ codes "2" ∷ []) ≡ unknown
unfolding clap_on_literals
status_workers = refl
