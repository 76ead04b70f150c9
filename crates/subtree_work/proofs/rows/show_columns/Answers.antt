use Rattle.std.proofs.Common.{◌≡◌, ◌∙◌, ℕ, [], ◌∷◌, take, length, sym, ap, subst, arith}
use Rattle.std.specs.Prelude.{OnErr}
use Rattle.std.specs.List.{Contains}
use Rattle.std.proofs.lemmas.Result.{err_from_is_err_and}
use Rattle.poly_model.specs.Labels.{constant_label}
use Rattle.convert_core.specs.Rows.{columns_of}
use Rattle.convert_core.proofs.ColumnsBefore.{not_before, one_more, within_all, here_in_all}
use Rattle.subtree_work.specs.Rows.{ShowsRows, TearsRows}
use Rattle.subtree_work.proofs.RowLines.{shows_more, tears_more, tears_within}
use Rattle.subtree_work.proofs.rows.show_columns.Goals as goal

pub returns-in_err-count-clause-tears : goal.returns-in_err-count-clause-tears
returns-in_err-count-clause-tears g c =
    let at = c.args.at.now in
    let q = err_from_is_err_and c.from_residual.result c.from_residual.ensures.1 in
    subst (λ r. OnErr r (TearsRows at.cone.now at.order.now at.dict.now (columns_of at.dict.now)
    (g.S.Sink.written c.args.out.now) (g.S.Sink.written c.show_column.new.out))) (sym q.1)
    (tears_within at.cone.now at.order.now at.dict.now (constant_label ∷ []) (columns_of at.dict.now)
    (g.S.Sink.written c.args.out.now) (g.S.Sink.written c.show_column.new.out) (within_all at.dict.now.key 0)
    c.in_err-count.ensures.tears)

pub returns-in_err-count-2-clause-tears : goal.returns-in_err-count-2-clause-tears
returns-in_err-count-2-clause-tears g c =
    let at = c.args.at.now in
    let q = err_from_is_err_and c.from_residual-in_err-count-2.result c.from_residual-in_err-count-2.ensures.1 in
    let i = c.columns.col-index in
    let ks = c.cobasis-cobasis.result.now in
    let is = c.cobasis-cobasis.ensures.value in
    subst (λ r. OnErr r (TearsRows at.cone.now at.order.now at.dict.now (columns_of at.dict.now)
    (g.S.Sink.written c.args.out.now) (g.S.Sink.written c.show_column-in-columns.new.out))) (sym q.1)
    (tears_more at.cone.now at.order.now at.dict.now (constant_label ∷ take i ks) c.col-item.result
    (not_before at.dict.now.key ks c.requires.can.tests.labels is c.cobasis-cobasis.ensures.ascending i c.col-item.result
    c.columns-test.true c.col-item.is)
    (g.S.Sink.written c.args.out.now) (g.S.Sink.written c.columns.out) c.args.count c.columns.count c.columns.invariant.shows
    (g.S.Sink.written c.show_column-in-columns.new.out) (columns_of at.dict.now)
    (subst (λ ls. (x : ℕ) → Contains (constant_label ∷ take i ls) x → Contains (columns_of at.dict.now) x) (sym is)
    (within_all at.dict.now.key i))
    (here_in_all at.dict.now.key ks is i c.col-item.result c.columns-test.true c.col-item.is)
    c.in_err-count-2.ensures.tears)

pub show_column-requires-in-columns-clause-some : goal.show_column-requires-in-columns-clause-some
show_column-requires-in-columns-clause-some g c =
    let n : length c.cobasis-cobasis.result.now ≡ length c.args.at.now.dict.now.key = ap length c.cobasis-cobasis.ensures.value in
    let t = c.columns-test.true in
    let all = c.requires.can.few in
    let few = c.columns.invariant.few in
    let at_first = c.requires.few in
    omega (arith, n, t, all, few, at_first)

pub columns-preserved : goal.columns-preserved
columns-preserved g c =
    let at = c.args.at.now in
    let i = c.columns.col-index in
    let ks = c.cobasis-cobasis.result.now in
    let is = c.cobasis-cobasis.ensures.value in
    record {
      shows = subst (λ cs. ShowsRows at.cone.now at.order.now at.dict.now cs (g.S.Sink.written c.args.out.now)
          (g.S.Sink.written c.show_column-in-columns.new.out) c.args.count c.in_ok-count-2.count)
          (sym (one_more ks i c.col-item.result c.columns-test.true c.col-item.is))
          (shows_more at.cone.now at.order.now at.dict.now (constant_label ∷ take i ks) c.col-item.result
          (not_before at.dict.now.key ks c.requires.can.tests.labels is c.cobasis-cobasis.ensures.ascending i c.col-item.result
          c.columns-test.true c.col-item.is)
          (g.S.Sink.written c.args.out.now) (g.S.Sink.written c.columns.out) c.args.count c.columns.count
          c.columns.invariant.shows (g.S.Sink.written c.show_column-in-columns.new.out) c.in_ok-count-2.count
          c.in_ok-count-2.ensures.shows);
      width = c.in_ok-count-2.ensures.width ∙ c.columns.invariant.width;
      same = c.in_ok-count-2.ensures.cause.same ∙ c.columns.invariant.same;
      few = let a = c.columns.invariant.few in let b = c.in_ok-count-2.ensures.few in omega (arith, a, b);
    }
