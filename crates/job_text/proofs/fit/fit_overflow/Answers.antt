use Rattle.std.proofs.Common.{◌∙◌, ◌∷◌, List, ℕ, refl, sym, ap, length, drop, inr}
use Rattle.row_printer.specs.OverflowText.{overflow_text}
use Rattle.job_text.specs.declared.reply.Tail.TheVariants as tails
use Rattle.plain_text.proofs.ReadLemmas.{none_read, some_read}
use Rattle.job_text.proofs.FitLemmas.{no_overflow}
use Rattle.job_text.proofs.fit.fit_overflow.Goals as goal

pub returns-in-Some-read_overflow : goal.returns-in-Some-read_overflow
returns-in-Some-read_overflow c =
    let k = c.in-Some-read_overflow.ensures.some in
    some_read (inr (tails.Overflow c.in-Some-read_overflow.overflow)) (k.0, refl)
    (c.in-Some.ensures ∙ ap (λ (l : List ℕ). 32 ∷ l) k.1)

pub returns-in-None-read_overflow : goal.returns-in-None-read_overflow
returns-in-None-read_overflow c =
    none_read (no_overflow (length c.args.row.now) c.args.rows c.args.jobs c.args.rest.now (λ o has e.
    c.in-None-read_overflow.ensures.none refl o has (ap (λ (l : List ℕ). drop 1 l) (sym c.in-Some.ensures ∙ e))))

pub returns-in-None : goal.returns-in-None
returns-in-None c =
    none_read (no_overflow (length c.args.row.now) c.args.rows c.args.jobs c.args.rest.now (λ o has e. c.in-None.ensures (overflow_text o) e))
