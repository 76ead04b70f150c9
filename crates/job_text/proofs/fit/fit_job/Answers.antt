use Rattle.std.proofs.Common.{◌∙◌, ◌∷◌, [], List, ℕ, refl, sym, ap, length, append-nil}
use Rattle.std.proofs.lemmas.Bool.{eqb-false}
use Rattle.poly_model.specs.LabelText.{key_text}
use Rattle.plain_text.proofs.ReadLemmas.{none_read}
use Rattle.job_text.proofs.OverflowLemmas.{key_step}
use Rattle.job_text.proofs.FitLemmas.{no_job}
use Rattle.job_text.proofs.fit.fit_job.Goals as goal

pub returns-else-is_empty : goal.returns-else-is_empty
returns-else-is_empty c =
    let k = c.in-Some.ensures.some in
    none_read (no_job (length c.args.row.now) c.args.rows c.args.jobs c.args.rest.now (λ key has e.
    let same = key_step c.in-Some.found.0 key c.in-Some.found.1.now [] c.args.rest.now k.0 has k.2 tt k.1
    (e ∙ ap (λ (l : List ℕ). 32 ∷ l) (sym (append-nil (key_text key)))) in
    eqb-false (length c.in-Some.found.1.now) 0 (sym c.is_empty.ensures ∙ c.if-is_empty.false)
    (ap (λ (t : List ℕ). length t) same.1)))

pub returns-in-None : goal.returns-in-None
returns-in-None c =
    none_read (no_job (length c.args.row.now) c.args.rows c.args.jobs c.args.rest.now (λ key has e.
    c.in-None.ensures.none refl key [] has tt (e ∙ ap (λ (l : List ℕ). 32 ∷ l) (sym (append-nil (key_text key))))))
