use Rattle.std.proofs.Common.{◌≡◌, ◌∙◌, subst, arith, ◌<◌, length, take, get_or, ℕ, List}
use Rattle.std.proofs.lemmas.List.{get_or_default, take_all}
use Rattle.lex_pivot.proofs.RatioLemmas.{one_more}
use Rattle.phase_one.specs.SoFar.{IsLeastSoFar}
use Rattle.phase_one.specs.Worst.{IsNegativeRow, IsWorse}
use Rattle.phase_one.proofs.SoFarLemmas.{taken_less}
use Rattle.phase_one.proofs.WorstLemmas.{worst_of_all}
use Rattle.phase_one.proofs.worst.first_worst.Goals as goal

pub rows-preserved : goal.rows-preserved
rows-preserved c =
    let l : c.rows.i < length c.labels-labels.result.now =
    (let t = c.rows-test.true in let b = c.rows.auto.i-end in omega arith) in
    let e : c.index-labels-i.result ≡ get_or c.labels-labels.result.now c.rows.i 0 =
    c.index-labels-i.is ∙ get_or_default c.labels-labels.result.now c.rows.i c.index-labels-i.result 0 l in (
      c.worse-worst.ensures.label,
      subst (λ (ks : List ℕ). IsLeastSoFar (IsNegativeRow c.args.dict.now) (IsWorse c.args.dict.now) ks c.worse-worst.result)
          (one_more c.labels-labels.result.now c.rows.i c.index-labels-i.result l e)
          (c.worse-worst.ensures.worst (take c.rows.i c.labels-labels.result.now)
          (taken_less c.labels-labels.result.now c.labels-labels.ensures.ascending c.rows.i c.index-labels-i.result l e)
          c.rows.invariant.1),
    )

pub returns : goal.returns
returns c =
    let l = c.rows-test.false in
    let b = c.rows.auto.i-end in
    worst_of_all c.args.dict.now c.rows.worst
    (subst (λ (ks : List ℕ). IsLeastSoFar (IsNegativeRow c.args.dict.now) (IsWorse c.args.dict.now) ks c.rows.worst)
    (take_all c.rows.i c.labels-labels.result.now (omega arith) ∙ c.labels-labels.ensures.value) c.rows.invariant.1)
