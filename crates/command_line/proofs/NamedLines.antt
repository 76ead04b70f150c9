-- A line with the name of a command is a line of that command.
use Rattle.std.proofs.Common.{◌≡◌, ℕ, Bor, false, codes, refl, sym, ◌∙◌, true≢false}
use Rattle.std.specs.Str.{bytes_eq}
use Rattle.std.proofs.lemmas.Slice.Eq.{bytes_eq-Decides}
use Rattle.clap.specs.Words.{Text}
use Rattle.example_polys.specs.declared.kind.ExampleKind.{ExampleKind}
use Rattle.command_line.specs.Lines.{name_of}
use Rattle.command_line.specs.declared.lines.Line.{Line}
use Rattle.command_line.specs.declared.lines.Line.TheVariants.{Convert, Job, Demo, Run, Resume, Status}
use Rattle.command_line.specs.declared.lines.WorkOptions.{WorkOptions}

-- two names of which the test says that they differ
pub unlike : (a b : Text) → bytes_eq a b ≡ false → a ≡ b → ⊥
unlike a b differ e = true≢false (sym ((bytes_eq-Decides a b).1 e) ∙ differ)

module _ (P : Line → Type 0) where
  pub by_convert : P Convert → (line : Line) → codes "convert" ≡ name_of line → P line
  by_convert h Convert e = h
  by_convert h Job e = absurd (unlike _ _ refl e)
  by_convert h (Demo kind n) e = absurd (unlike _ _ refl e)
  by_convert h (Run ledger options) e = absurd (unlike _ _ refl e)
  by_convert h (Resume ledger options) e = absurd (unlike _ _ refl e)
  by_convert h (Status ledger) e = absurd (unlike _ _ refl e)

  pub by_job : P Job → (line : Line) → codes "job" ≡ name_of line → P line
  by_job h Convert e = absurd (unlike _ _ refl e)
  by_job h Job e = h
  by_job h (Demo kind n) e = absurd (unlike _ _ refl e)
  by_job h (Run ledger options) e = absurd (unlike _ _ refl e)
  by_job h (Resume ledger options) e = absurd (unlike _ _ refl e)
  by_job h (Status ledger) e = absurd (unlike _ _ refl e)

  pub by_demo : ((kind : ExampleKind) (n : ℕ) → P (Demo kind n)) → (line : Line) → codes "demo" ≡ name_of line → P line
  by_demo h Convert e = absurd (unlike _ _ refl e)
  by_demo h Job e = absurd (unlike _ _ refl e)
  by_demo h (Demo kind n) e = h kind n
  by_demo h (Run ledger options) e = absurd (unlike _ _ refl e)
  by_demo h (Resume ledger options) e = absurd (unlike _ _ refl e)
  by_demo h (Status ledger) e = absurd (unlike _ _ refl e)

  pub by_run : ((ledger : Bor Text) (options : WorkOptions) → P (Run ledger options)) → (line : Line) →
      codes "run" ≡ name_of line → P line
  by_run h Convert e = absurd (unlike _ _ refl e)
  by_run h Job e = absurd (unlike _ _ refl e)
  by_run h (Demo kind n) e = absurd (unlike _ _ refl e)
  by_run h (Run ledger options) e = h ledger options
  by_run h (Resume ledger options) e = absurd (unlike _ _ refl e)
  by_run h (Status ledger) e = absurd (unlike _ _ refl e)

  pub by_resume : ((ledger : Bor Text) (options : WorkOptions) → P (Resume ledger options)) → (line : Line) →
      codes "resume" ≡ name_of line → P line
  by_resume h Convert e = absurd (unlike _ _ refl e)
  by_resume h Job e = absurd (unlike _ _ refl e)
  by_resume h (Demo kind n) e = absurd (unlike _ _ refl e)
  by_resume h (Run ledger options) e = absurd (unlike _ _ refl e)
  by_resume h (Resume ledger options) e = h ledger options
  by_resume h (Status ledger) e = absurd (unlike _ _ refl e)

  pub by_status : ((ledger : Bor Text) → P (Status ledger)) → (line : Line) → codes "status" ≡ name_of line → P line
  by_status h Convert e = absurd (unlike _ _ refl e)
  by_status h Job e = absurd (unlike _ _ refl e)
  by_status h (Demo kind n) e = absurd (unlike _ _ refl e)
  by_status h (Run ledger options) e = absurd (unlike _ _ refl e)
  by_status h (Resume ledger options) e = absurd (unlike _ _ refl e)
  by_status h (Status ledger) e = h ledger
