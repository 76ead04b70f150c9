use Rattle.std.proofs.Common.{◌∙◌, ◌∷◌, ◌++◌, List, ℕ, sym, ap₂}
use Rattle.plain_text.proofs.ReadLemmas.{none_read, some_read, read_none, read_at}
use Rattle.job_text.proofs.OverflowLemmas.{place_parts, no_comma}
use Rattle.job_text.proofs.overflow.read_place.Goals as goal

pub returns-in_err-before : goal.returns-in_err-before
returns-in_err-before c = rw c.from_residual.ensures (none_read (λ place h is. no_comma c.args.word.now place c.in_err-before.ensures is))

pub returns-in_err-row : goal.returns-in_err-row
returns-in_err-row c =
    let (whole, lacks) = c.in_ok-before.ensures in
    rw c.from_residual-in_err-row.ensures (none_read (λ place h is.
    read_none c.in_err-row.was c.read_place_label.ensures place.row h.row
    (place_parts c.in_ok-before.before.now c.in_ok-before.behind.now place lacks h (sym whole ∙ is)).0))

pub returns-in_err-col : goal.returns-in_err-col
returns-in_err-col c =
    let (whole, lacks) = c.in_ok-before.ensures in
    rw c.from_residual-in_err-col.ensures (none_read (λ place h is.
    read_none c.in_err-col.was c.read_place_label-2.ensures place.col h.column
    (place_parts c.in_ok-before.before.now c.in_ok-before.behind.now place lacks h (sym whole ∙ is)).1))

pub returns : goal.returns
returns c =
    let (whole, lacks) = c.in_ok-before.ensures in
    let row = read_at c.in_ok-row.was c.read_place_label.ensures in
    let col = read_at c.in_ok-col.was c.read_place_label-2.ensures in
    some_read _ (record { row = row.0; column = col.0 })
    (whole ∙ ap₂ (λ (a b : List ℕ). a ++ 44 ∷ b) row.1 col.1)
