use Rattle.std.proofs.Common.{◌∙◌, sym, ap, refl, neg_ℤ, []}
use Rattle.lex_pivot.proofs.RatioLemmas.{candidate_here}
use Rattle.lex_pivot.proofs.ratio.candidate_at.Goals as goal

pub returns : goal.returns
returns c = (
  candidate_here c.args.dict.now [] c.args.col c.args.place c.in_ok-row.row c.args.cells.now c.neg.result c.requires.cells
      c.in_ok-row.ensures (c.if-not-is_negative.ensures.0 refl) (c.neg.ensures ∙ ap neg_ℤ c.at.ensures),
  sym c.in_ok-row.ensures.place_is.label_is,
)
