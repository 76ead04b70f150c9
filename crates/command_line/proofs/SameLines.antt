-- What is true of a line and itself, wherever the name of its ledger lies, is true of two lines that are the same.
use Rattle.std.proofs.Common.{◌≡◌, Bor, subst}
use Rattle.clap.specs.Words.{Text}
use Rattle.command_line.specs.Laws.{IsSameLine}
use Rattle.command_line.specs.declared.lines.Line.{Line}
use Rattle.command_line.specs.declared.lines.Line.TheVariants.{Convert, Job, Demo, Run, Resume, Status}
use Rattle.command_line.specs.declared.lines.WorkOptions.{WorkOptions}

pub record IsOfSame (P : Line → Line → Type 0) : Type 0 where
  pub alike : (line : Line) → P line line
  pub run : (ledger other : Bor Text) (options : WorkOptions) → ledger.now ≡ other.now →
      P (Run ledger options) (Run other options)
  pub resume : (ledger other : Bor Text) (options : WorkOptions) → ledger.now ≡ other.now →
      P (Resume ledger options) (Resume other options)
  pub status : (ledger other : Bor Text) → ledger.now ≡ other.now → P (Status ledger) (Status other)

module _ (P : Line → Line → Type 0) (is : IsOfSame P) where
  equal : (one other : Line) → one ≡ other → P one other
  equal one other e = subst (λ line. P one line) e (is.alike one)

  pub of_same : (one other : Line) → IsSameLine one other → P one other
  of_same Convert other e = equal Convert other e
  of_same Job other e = equal Job other e
  of_same (Demo kind n) other e = equal (Demo kind n) other e
  of_same (Run ledger options) (Run other others) e =
      subst (λ o. P (Run ledger options) (Run other o)) e.1 (is.run ledger other options e.0)
  of_same (Run ledger options) Convert e = equal (Run ledger options) Convert e
  of_same (Run ledger options) Job e = equal (Run ledger options) Job e
  of_same (Run ledger options) (Demo kind n) e = equal (Run ledger options) (Demo kind n) e
  of_same (Run ledger options) (Resume other others) e = equal (Run ledger options) (Resume other others) e
  of_same (Run ledger options) (Status other) e = equal (Run ledger options) (Status other) e
  of_same (Resume ledger options) (Resume other others) e =
      subst (λ o. P (Resume ledger options) (Resume other o)) e.1 (is.resume ledger other options e.0)
  of_same (Resume ledger options) Convert e = equal (Resume ledger options) Convert e
  of_same (Resume ledger options) Job e = equal (Resume ledger options) Job e
  of_same (Resume ledger options) (Demo kind n) e = equal (Resume ledger options) (Demo kind n) e
  of_same (Resume ledger options) (Run other others) e = equal (Resume ledger options) (Run other others) e
  of_same (Resume ledger options) (Status other) e = equal (Resume ledger options) (Status other) e
  of_same (Status ledger) (Status other) e = is.status ledger other e
  of_same (Status ledger) Convert e = equal (Status ledger) Convert e
  of_same (Status ledger) Job e = equal (Status ledger) Job e
  of_same (Status ledger) (Demo kind n) e = equal (Status ledger) (Demo kind n) e
  of_same (Status ledger) (Run other others) e = equal (Status ledger) (Run other others) e
  of_same (Status ledger) (Resume other others) e = equal (Status ledger) (Resume other others) e
