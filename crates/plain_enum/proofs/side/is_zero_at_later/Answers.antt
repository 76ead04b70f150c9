use Rattle.std.proofs.Common.{◌≡◌, ℕ, false, ◌<◌, pos, refl, sym, subst, arith, ◌∙◌}
use Rattle.std.proofs.lemmas.Grind.{get_or_default_zero}
use Rattle.std.specs.List.{Contains}
use Rattle.poly_model.specs.Labels.{IsRow}
use Rattle.poly_model.specs.Dictionaries.{Table}
use Rattle.poly_model.specs.Systems.{row_of}
use Rattle.dictionary.specs.Views.{table_of}
use Rattle.plain_enum.proofs.Parts.{with_next}
use Rattle.plain_enum.proofs.side.is_zero_at_later.Goals as goal

pub labels-preserved : goal.labels-preserved
labels-preserved c =
    let IsZeroIfLater : ℕ → Type 0 = λ k. IsRow k → (row_of c.args.sys.now.rows k).linear ≡ false → c.args.row < k →
    Table.entry (table_of c.args.dict.now) c.args.row k ≡ pos 0 in
    with_next IsZeroIfLater c.args.labels.now c.labels.label-index c.labels.invariant
    (subst IsZeroIfLater (c.label-item.is ∙ get_or_default_zero c.args.labels.now c.labels.label-index _ c.labels-test.true)
    (c.is_zero_if_later.ensures.0 c.if-not-is_zero_if_later.false))

pub returns : goal.returns
returns c = (
  λ t k m. let n = subst (λ ks. Contains ks k) (sym c.requires.labels) m in c.labels.invariant k n (omega (arith, n.1)),
  λ h. refl,
)
