use Rattle.std.proofs.Common.{sym, subst, refl, true≢false, Option, ℕ}
use Rattle.phase_one.specs.SoFar.{IsLeastSoFar}
use Rattle.phase_one.specs.Worst.{IsNegativeRow, IsWorse}
use Rattle.phase_one.proofs.SoFarLemmas.{kept, first_asked, replaced, stays}
use Rattle.phase_one.proofs.WorstLemmas.{itself, worse_through, worse_than}
use Rattle.phase_one.proofs.worst.worse.Goals as goal

pub returns-then-not-is_negative_row-clause-worst : goal.returns-then-not-is_negative_row-clause-worst
returns-then-not-is_negative_row-clause-worst c rows below h =
    kept (IsNegativeRow c.args.dict.now) (IsWorse c.args.dict.now) rows c.args.row c.args.worst h
    (λ m. true≢false (sym (c.if-not-is_negative_row.ensures.1 m)))

pub returns-in-None-clause-worst : goal.returns-in-None-clause-worst
returns-in-None-clause-worst c rows below h =
    first_asked (IsNegativeRow c.args.dict.now) (IsWorse c.args.dict.now) rows c.args.row
    (subst (λ (o : Option ℕ). IsLeastSoFar (IsNegativeRow c.args.dict.now) (IsWorse c.args.dict.now) rows o) c.in-None.is h)
    (c.if-not-is_negative_row.ensures.0 refl) (itself c.args.dict.now c.args.row)

pub returns-then-is_below-clause-worst : goal.returns-then-is_below-clause-worst
returns-then-is_below-clause-worst c rows below h =
    let worst = subst (λ (o : Option ℕ). IsLeastSoFar (IsNegativeRow c.args.dict.now) (IsWorse c.args.dict.now) rows o) c.in-Some.is h in
    replaced (IsNegativeRow c.args.dict.now) (IsWorse c.args.dict.now) rows c.args.row c.in-Some.r worst
    (c.if-not-is_negative_row.ensures.0 refl) (itself c.args.dict.now c.args.row)
    (λ i. worse_through c.args.dict.now c.args.row c.in-Some.r i (c.if-is_below.ensures.0 refl))

pub returns-else-is_below-clause-worst : goal.returns-else-is_below-clause-worst
returns-else-is_below-clause-worst c rows below h =
    let worst = subst (λ (o : Option ℕ). IsLeastSoFar (IsNegativeRow c.args.dict.now) (IsWorse c.args.dict.now) rows o) c.in-Some.is h in
    stays (IsNegativeRow c.args.dict.now) (IsWorse c.args.dict.now) rows c.args.row c.in-Some.r worst
    (worse_than c.args.dict.now c.in-Some.r c.args.row (below c.in-Some.r worst.member)
    (λ l. true≢false (sym (c.if-is_below.ensures.1 l))))
