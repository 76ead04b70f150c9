use Rattle.std.proofs.Common.{ℤ, sym, subst, arith, refl, ◌<◌, ◌+◌, length, take, get_or, ℕ, List, Option, Some}
use Rattle.std.proofs.lemmas.List.{take_all}
use Rattle.std.specs.Option.{MatchOption}
use Rattle.linear_laws.specs.Distinct.{AreDistinct}
use Rattle.dictionary.specs.Views.{table_of}
use Rattle.dictionary.specs.Cobases.{AreOutside}
use Rattle.dictionary.specs.Positions.{IsCellColumn}
use Rattle.poly_model.specs.Tree.{Leaves}
use Rattle.lex_pivot.specs.declared.candidates.Candidate.{Candidate}
use Rattle.lex_pivot.specs.Ratios.{NoneLeaves, IsBestAt, candidate_row}
use Rattle.lex_pivot.proofs.RatioLemmas.{taken_other, one_more, better_is_best, kept_best, passed_over, best_leaves}
use Rattle.lex_pivot.proofs.ratio.leaving_in_wide.Goals.{in-Some, in_default, After-next_negative-place}
use Rattle.lex_pivot.proofs.ratio.leaving_in_wide.Goals as goal

-- the rows in front of the next negative cell are passed over
so_far : (c : After-next_negative-place) →
    IsBestAt c.args.dict.now c.args.order.now c.args.col (take c.next_negative-place.result c.args.dict.now.rows) c.rows.best
so_far c =
    passed_over c.args.dict.now c.args.order.now c.args.col c.rows.best c.column-column.result
    (subst (λ (j : ℕ). IsCellColumn c.args.dict.now j c.column-column.result) c.column_of.ensures.value c.column-column.ensures)
    c.rows.from c.next_negative-place.result c.next_negative-place.ensures.behind
    (let w = c.next_negative-place.ensures.within in let h = c.column-column.ensures.height in omega (arith, w, h))
    c.rows.invariant.best c.next_negative-place.ensures.passed

pub rows-preserved : goal.rows-preserved
rows-preserved c =
    let a = (goal.at.rows-preserved c).After-next_negative-place in
    let place = c.next_negative-place.result in
    let l : place < length c.args.dict.now.rows =
    (let t = c.if-place-len.false in let n = c.len.ensures in let h = c.column-column.ensures.height in
    omega (arith, t, n, h)) in
    let once = subst AreDistinct c.rows-rows.ensures.value c.rows-rows.ensures.once in
    record {
      within = omega (arith, l);
      best = elim c.match-candidate_at.branch [
        | in-Some w ↦
            (let here = w.in-Some.ensures in
            subst (λ (o : Option (Candidate ℤ)). IsBestAt c.args.dict.now c.args.order.now c.args.col
            (take (place + 1) c.args.dict.now.rows) o) (sym w.best-is)
            (subst (λ (ks : List ℕ). IsBestAt c.args.dict.now c.args.order.now c.args.col ks (Some w.better.result))
            (one_more c.args.dict.now.rows place w.in-Some.next.row l here.1)
            (better_is_best c.args.dict.now c.args.order.now c.args.col (take place c.args.dict.now.rows)
            w.in-Some.next here.0 (taken_other c.args.dict.now.rows once place w.in-Some.next.row l here.1)
            c.rows.best w.better.result (so_far a) w.better.ensures)))
        | in_default w ↦
            (subst (λ (o : Option (Candidate ℤ)). IsBestAt c.args.dict.now c.args.order.now c.args.col
            (take (place + 1) c.args.dict.now.rows) o) (sym w.best-is)
            (subst (λ (ks : List ℕ). IsBestAt c.args.dict.now c.args.order.now c.args.col ks c.rows.best)
            (one_more c.args.dict.now.rows place (get_or c.args.dict.now.rows place 0) l refl)
            (kept_best c.args.dict.now c.args.order.now c.args.col (take place c.args.dict.now.rows)
            (get_or c.args.dict.now.rows place 0) c.rows.best (so_far a) w.in_default.ensures)))
      ];
    }

pub returns-then-place-len : goal.returns-then-place-len
returns-then-place-len c =
    let a = (goal.at.returns-then-place-len c).After-next_negative-place in
    subst (λ (r : Option ℕ). MatchOption r (NoneLeaves c.args.dict.now c.args.col)
    (λ r. Leaves c.args.dict.now.labels c.args.order.now c.args.dict.now.key (table_of c.args.dict.now) c.args.col r))
    (sym c.candidate_row.ensures)
    (best_leaves c.args.dict.now c.args.order.now c.args.col c.args.dict.now.rows (candidate_row c.rows.best)
    (subst (λ (ks : List ℕ). AreOutside c.args.dict.now ks) c.rows-rows.ensures.value c.rows-rows.ensures.outside)
    (IsBestAt.least (subst (λ (ks : List ℕ). IsBestAt c.args.dict.now c.args.order.now c.args.col ks c.rows.best)
    (take_all c.next_negative-place.result c.args.dict.now.rows
    (let t = c.if-place-len.true in let n = c.len.ensures in let h = c.column-column.ensures.height in
    omega (arith, t, n, h))) (so_far a))))
