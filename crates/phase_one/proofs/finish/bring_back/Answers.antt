use Rattle.std.proofs.Common.{ℕ, List, sym, subst}
use Rattle.std.specs.List.{All, Contains}
use Rattle.std.proofs.lemmas.Result.{IfErr-weaker}
use Rattle.poly_model.specs.LexOrder.{rows_in}
use Rattle.linear_laws.proofs.Members.{Contains-first}
use Rattle.phase_one.proofs.FinishLemmas.{can_come_back, some_nonzero}
use Rattle.phase_one.proofs.finish.bring_back.Goals as goal

pub least_column-requires-clause-rows : goal.least_column-requires-clause-rows
least_column-requires-clause-rows g c =
    let (space, start, x) = c.requires.outside in
    subst (λ (ls : List ℕ). All (Contains (rows_in ls)) c.args.dict.now.key) (sym x.labels) x.dictionary.rows

pub returns-in-Some-clause-stops : goal.returns-in-Some-clause-stops
returns-in-Some-clause-stops g c =
    let (space, start, x) = c.requires.outside in
    IfErr-weaker c.pivot.result _ _
    (λ o h. record {
      s = c.in-Some.col;
      can = can_come_back c.args.dict.now c.args.order.now c.in-Some.col
          (subst (λ (ls : List ℕ). Contains ls 0) (sym x.labels) (Contains-first 0 space.labels)) x.outside
          c.in-Some.ensures;
      overflow = h;
    })
    c.pivot.ensures.passes

pub returns-in-None-clause-back : goal.returns-in-None-clause-back
returns-in-None-clause-back g c =
    let (space, start, x) = c.requires.outside in
    absurd (some_nonzero space start c.args.dict.now x c.in-None.ensures)
