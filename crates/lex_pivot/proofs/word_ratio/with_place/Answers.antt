use Rattle.std.proofs.Common.{sym, subst, refl, take, get_or, rules, ℕ, List, Some}
use Rattle.std.specs.Prelude.{FitsSigned}
use Rattle.std.specs.Int.{w64}
use Rattle.std.proofs.lemmas.Int.{to_z-of_z}
use Rattle.linear_laws.specs.Distinct.{AreDistinct}
use Rattle.lex_pivot.specs.Ratios.{IsBestAt}
use Rattle.lex_pivot.proofs.RatioLemmas.{taken_other, one_more, better_is_best, kept_best, candidate_at}
use Rattle.lex_pivot.proofs.word_ratio.with_place.Goals as goal

pub returns-in-Some : goal.returns-in-Some
returns-in-Some c =
    let d = c.args.table.now.dict.now in
    let root = c.args.table.now.order.now in
    let row = c.in-Some.row in
    let at = c.in-Some.ensures in
    let stands = sym at.place_is.label_is in
    let here = candidate_at d root c.args.col c.args.place row c.over_at-over.result at c.requires.negative
    c.over_at-over.ensures in
    let fits : FitsSigned w64 c.over_at-over.result = search rules in
    let better = simp to_z-of_z at c.better.ensures in
    let once = subst AreDistinct c.rows-rows.ensures.value c.rows-rows.ensures.once in
    subst (λ (ks : List ℕ). IsBestAt d root c.args.col ks (Some c.better.result))
    (one_more d.rows c.args.place row c.requires.place stands)
    (better_is_best d root c.args.col (take c.args.place d.rows) _ here
    (taken_other d.rows once c.args.place row c.requires.place stands) c.args.best c.better.result c.requires.best
    better)

pub returns-in-None : goal.returns-in-None
returns-in-None c =
    let d = c.args.table.now.dict.now in
    let root = c.args.table.now.order.now in
    subst (λ (ks : List ℕ). IsBestAt d root c.args.col ks c.args.best)
    (one_more d.rows c.args.place (get_or d.rows c.args.place 0) c.requires.place refl)
    (kept_best d root c.args.col (take c.args.place d.rows) (get_or d.rows c.args.place 0) c.args.best c.requires.best
    (λ m. c.in-None.ensures m.row))
