use Rattle.std.proofs.Common.{◌≡◌, ap, sym, subst, arith, length, ℕ, List, Option}
use Rattle.std.proofs.lemmas.List.{take_all}
use Rattle.std.specs.Option.{MatchOption}
use Rattle.poly_model.specs.Tree.{Leaves}
use Rattle.dictionary.specs.Cobases.{AreOutside}
use Rattle.dictionary.specs.Views.{table_of}
use Rattle.lex_pivot.specs.Ratios.{NoneLeaves, IsBestAt, candidate_row}
use Rattle.lex_pivot.proofs.RatioLemmas.{best_leaves}
use Rattle.lex_pivot.proofs.word_ratio.leaving_in_words.Goals as goal

pub returns : goal.returns
returns c =
    let d = c.args.table.now.dict.now in
    let root = c.args.table.now.order.now in
    subst (λ (r : Option ℕ). MatchOption r (NoneLeaves d c.args.col)
    (λ r. Leaves d.labels root d.key (table_of d) c.args.col r))
    (sym c.candidate_row.ensures)
    (best_leaves d root c.args.col d.rows (candidate_row c.parts.best)
    (subst (λ (ks : List ℕ). AreOutside d ks) c.rows-height.ensures.value c.rows-height.ensures.outside)
    (IsBestAt.least (subst (λ (ks : List ℕ). IsBestAt d root c.args.col ks c.parts.best)
    (take_all c.parts.from d.rows (let t = c.parts-test.false in let n : length c.rows-height.result.now ≡ length d.rows = ap length c.rows-height.ensures.value in omega (arith, t, n))) c.parts.invariant.best)))
