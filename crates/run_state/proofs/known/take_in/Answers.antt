use Rattle.std.proofs.Common.{rules, ◌≡◌, ◌∙◌, ◌++◌, Some, false, true, slice_get, slice_set, replicate, length, ap, subst, sym, List, ℕ, Bool, Err, IfErr}
use Rattle.std.proofs.lemmas.Result.{err_from_is_err_and}
use Rattle.run_state.specs.Known.{RefusesJob, labels_in}
use Rattle.run_state.proofs.TableLemmas.{stops_by_keys, waits_at}
use Rattle.run_state.proofs.known.take_in.Goals as goal

pub returns-clause-ok : goal.returns-clause-ok
returns-clause-ok c = record {
  waits = record {
    place = c.in_ok-place.place;
    at = c.in_ok-place.ensures.at;
    mark_is = subst (λ (l : List Bool). slice_get l c.in_ok-place.place ≡ Some false) c.deref.ensures.value c.in_ok-place.ensures.waits;
  };
  new_keys = c.in_ok-add_keys.ensures.new;
  are_keys = c.in_ok-add_keys.ensures.are_keys;
  keys_then = c.in_ok-add_keys.ensures.keys;
  marks_then = ap (λ (l : List Bool). slice_set l c.in_ok-place.place true)
      (c.add_marks.ensures.items ∙ ap (λ (n : ℕ). c.try_reserve.new.self.items ++ replicate n false) c.len-2.ensures
      ∙ ap (λ (l : List Bool). l ++ replicate (length c.args.more.now) false) c.try_reserve.ensures.items);
  places_then = search rules;
}

pub returns-in_err-place-clause-stop : goal.returns-in_err-place-clause-stop
returns-in_err-place-clause-stop c =
    let q = err_from_is_err_and c.from_residual.result c.from_residual.ensures.1 in
    subst (λ r. IfErr r (RefusesJob (labels_in c.args.known.now.keys) c.args.done.now.marks.items c.args.job.now c.args.more.now))
    (sym (q.1 ∙ ap (λ e. Err e) q.2))
    (subst (λ (l : List Bool). RefusesJob (labels_in c.args.known.now.keys) l c.args.job.now c.args.more.now c.in_err-place.field-0.0) c.deref.ensures.value
    (c.in_err-place.ensures.stop c.args.more.now))

pub returns-in_err-add_keys-clause-stop : goal.returns-in_err-add_keys-clause-stop
returns-in_err-add_keys-clause-stop c =
    let q = err_from_is_err_and c.from_residual-in_err-add_keys.result c.from_residual-in_err-add_keys.ensures.1 in
    subst (λ r. IfErr r (RefusesJob (labels_in c.args.known.now.keys) c.args.done.now.marks.items c.args.job.now c.args.more.now))
    (sym (q.1 ∙ ap (λ e. Err e) q.2))
    (stops_by_keys (labels_in c.args.known.now.keys) c.args.done.now.marks.items c.args.job.now c.args.more.now c.in_err-add_keys.field-0.0
    (waits_at (labels_in c.args.known.now.keys) c.args.done.now.marks.items c.deref.result.now c.args.job.now c.in_ok-place.place
    c.in_ok-place.ensures.at c.deref.ensures.value c.in_ok-place.ensures.waits) c.in_err-add_keys.ensures.stop)
