use Rattle.std.proofs.Common.{◌≡◌, ℕ, List, [], ◌∷◌, length, refl, sym, ap, ◌∙◌, Err, arith}
use Rattle.job_text.specs.Rule.{search_of}
use Rattle.worker_job.proofs.DueLemmas.{due_by_subsets, due_in_cone}
use Rattle.worker_job.proofs.replying.by_subsets.Goals as goal

no_labels : (key : List ℕ) → length key ≡ 0 → key ≡ []
no_labels [] e = refl
no_labels (k ∷ key) e = absurd (omega (arith, e))

pub reply_by-requires-clause-work : goal.reply_by-requires-clause-work
reply_by-requires-clause-work g c =
    let root = sym c.key.ensures ∙ no_labels c.key.result (c.if-not-is_empty.ensures.0 refl) in
    c.in-Ok.ensures.work (search_of c.args.job.now) c.requires.work root c.requires.cone

pub reply_by-requires-clause-asked : goal.reply_by-requires-clause-asked
reply_by-requires-clause-asked g c w o is due = due_by_subsets c.args.job.now c.requires.work o due

pub pass-requires-clause-due : goal.pass-requires-clause-due
pass-requires-clause-due g c =
    let stop = c.in-Err-Overflow in
    due_in_cone c.args.job.now c.requires.work stop.overflow
    (stop.ensures.overflow stop.overflow (ap Err stop.field-0-is) c.args.job.now.poly c.requires.cone)
