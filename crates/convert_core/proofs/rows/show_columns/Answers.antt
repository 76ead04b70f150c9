use Rattle.std.proofs.Common.{ℕ, [], ◌∷◌, take, sym, subst, ◌∙◌}
use Rattle.std.specs.List.{Contains}
use Rattle.std.proofs.lemmas.Result.{err_from_is_err_and}
use Rattle.poly_model.specs.Labels.{constant_label}
use Rattle.convert_core.specs.Rows.{WritesShown, ShowsColumns, columns_of}
use Rattle.convert_core.proofs.ColumnsBefore.{not_before, one_more, within_all, here_in_all}
use Rattle.convert_core.proofs.RowsWritten.{shows_more, fails_more, fails_within}
use Rattle.convert_core.proofs.rows.show_columns.Goals as goal

pub returns-in_err-shown-clause-shows : goal.returns-in_err-shown-clause-shows
returns-in_err-shown-clause-shows g c =
    let at = c.args.at.now in
    let q = err_from_is_err_and c.from_residual.result c.from_residual.ensures.1 in
    subst (λ r. ShowsColumns g.S.Sink.written g.S.Sink.faults at.cone.now at.order.now at.dict.now
    (columns_of at.dict.now) c.args.shown c.args.out.now c.show_column.new.out r) (sym q.1)
    (fails_within g.S.Sink at.cone.now at.order.now at.dict.now (constant_label ∷ []) (columns_of at.dict.now)
    c.args.shown c.args.out.now c.show_column.new.out (within_all at.dict.now.key 0) c.in_err-shown.ensures.shows)

pub returns-in_err-shown-2-clause-shows : goal.returns-in_err-shown-2-clause-shows
returns-in_err-shown-2-clause-shows g c =
    let at = c.args.at.now in
    let q = err_from_is_err_and c.from_residual-in_err-shown-2.result c.from_residual-in_err-shown-2.ensures.1 in
    let i = c.columns.col-index in
    subst (λ r. ShowsColumns g.S.Sink.written g.S.Sink.faults at.cone.now at.order.now at.dict.now
    (columns_of at.dict.now) c.args.shown c.args.out.now c.show_column-in-columns.new.out r) (sym q.1)
    (fails_more g.S.Sink at.cone.now at.order.now at.dict.now (constant_label ∷ take i c.cobasis-cobasis.result.now)
    c.col-item.result
    (not_before at.dict.now.key c.cobasis-cobasis.result.now c.requires.can.labels c.cobasis-cobasis.ensures.value
    c.cobasis-cobasis.ensures.ascending i c.col-item.result c.columns-test.true c.col-item.is)
    c.args.shown c.args.out.now c.columns.shown c.columns.out c.columns.invariant.shows
    c.show_column-in-columns.new.out (columns_of at.dict.now)
    (subst (λ ks. (x : ℕ) → Contains (constant_label ∷ take i ks) x → Contains (columns_of at.dict.now) x)
    (sym c.cobasis-cobasis.ensures.value) (within_all at.dict.now.key i))
    (here_in_all at.dict.now.key c.cobasis-cobasis.result.now c.cobasis-cobasis.ensures.value i c.col-item.result
    c.columns-test.true c.col-item.is)
    c.in_err-shown-2.ensures.shows)

pub columns-preserved : goal.columns-preserved
columns-preserved g c =
    let at = c.args.at.now in
    let i = c.columns.col-index in
    let ks = c.cobasis-cobasis.result.now in
    record {
      shows = subst (λ cs. WritesShown g.S.Sink.written g.S.Sink.faults at.cone.now at.order.now at.dict.now cs
          c.args.shown c.args.out.now c.in_ok-shown-2.shown c.show_column-in-columns.new.out)
          (sym (one_more ks i c.col-item.result c.columns-test.true c.col-item.is))
          (shows_more g.S.Sink at.cone.now at.order.now at.dict.now (constant_label ∷ take i ks) c.col-item.result
          (not_before at.dict.now.key ks c.requires.can.labels c.cobasis-cobasis.ensures.value
          c.cobasis-cobasis.ensures.ascending i c.col-item.result c.columns-test.true c.col-item.is)
          c.args.shown c.args.out.now c.columns.shown c.columns.out c.columns.invariant.shows
          c.in_ok-shown-2.shown c.show_column-in-columns.new.out c.in_ok-shown-2.ensures.shows);
      width = c.in_ok-shown-2.ensures.width ∙ c.columns.invariant.width;
    }
