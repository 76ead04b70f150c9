-- What is known of the lines.
use Rattle.std.specs.Prelude.{◌≡◌, ◌⊎◌, ◌↔◌, ◌≤◌, ⊤, List, [], ◌∷◌, codes}
use Rattle.clap.specs.Words.{Text}
use Rattle.command_line.specs.Lines.{AskFor, name_of}
use Rattle.command_line.specs.declared.lines.Line.{Line}
use Rattle.command_line.specs.declared.lines.Line.TheVariants.{Convert, Job, Demo, Run, Resume, Status}
use Rattle.command_line.specs.declared.lines.WorkOptions.{WorkOptions}

-- one line, asked for twice: the name of a ledger is compared by its text, wherever that lies
abbrev pub IsSameLine : Line → Line → Type 0
IsSameLine (Run ledger options) (Run other others) = (ledger.now ≡ other.now) × (options ≡ others)
IsSameLine (Resume ledger options) (Resume other others) = (ledger.now ≡ other.now) × (options ≡ others)
IsSameLine (Status ledger) (Status other) = ledger.now ≡ other.now
IsSameLine one other = one ≡ other

-- the words ask for one line at most
abbrev pub AskForOneLine : Type 0
AskForOneLine = (words : List Text) (one other : Line) → AskFor words one → AskFor words other → IsSameLine one other

-- each option is a number in its range
pub record AreInRange (o : WorkOptions) : Type 0 where
  pub workers : (1 ≤ o.workers) × (o.workers ≤ 256)
  pub bases : (1 ≤ o.bases) × (o.bases ≤ 1000000000000)
  pub depth : (1 ≤ o.depth) × (o.depth ≤ 1000000)
  pub lmin : (1 ≤ o.lmin) × (o.lmin ≤ 1000)
  pub lost : o.lost ≤ 1000000

-- the numbers of a line are ones that its command takes
abbrev pub IsInRange : Line → Type 0
IsInRange Convert = ⊤
IsInRange Job = ⊤
IsInRange (Demo kind n) = (1 ≤ n) × (n ≤ 20)
IsInRange (Run ledger options) = AreInRange options
IsInRange (Resume ledger options) = AreInRange options
IsInRange (Status ledger) = ⊤

abbrev pub AskedIsInRange : Type 0
AskedIsInRange = (words : List Text) (line : Line) → AskFor words line → IsInRange line

-- the words are this name, alone or with the mark `--` behind it, which says that no flag follows
abbrev pub IsNameAlone : Text → List Text → Type 0
IsNameAlone name words = (words ≡ name ∷ []) ⊎ (words ≡ name ∷ codes "--" ∷ [])

-- such words with the name of the line's command ask for the line, and no others do
abbrev pub IsAskedAlone : Line → Type 0
IsAskedAlone line = (words : List Text) → AskFor words line ↔ IsNameAlone (name_of line) words

-- so it is of each command without words of its own
abbrev pub ConvertIsExact : Type 0
ConvertIsExact = IsAskedAlone Convert

abbrev pub JobIsExact : Type 0
JobIsExact = IsAskedAlone Job
