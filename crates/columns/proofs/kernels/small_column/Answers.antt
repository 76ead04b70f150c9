use Rattle.std.proofs.Common.{refl, ◌<◌, ℕ, sym, subst}
use Rattle.columns.proofs.ColumnLemmas.{inside_is}
use Rattle.columns.proofs.kernels.small_column.Goals as goal

pub returns-in-Some-clause-written : goal.returns-in-Some-clause-written
returns-in-Some-clause-written c t i lt =
    let parts = c.args.parts.now in
    let is = c.in-Some.ensures in
    let same = sym c.requires.parts.are.own.height in
    inside_is c.args.cells.now parts c.args.column c.requires.parts.are.own.leaving c.requires.inside.other i _ _ _ _
    refl refl c.word_at-b.ensures
    (rw (← is.0, ← is.1, ← is.2) (c.write.ensures.written t i (subst (λ (n : ℕ). i < n) same lt)))
