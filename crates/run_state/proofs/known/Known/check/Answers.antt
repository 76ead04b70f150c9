use Rattle.std.proofs.Common.{◌≡◌, ◌∙◌, ◌++◌, true, ap, subst, sym, List, Bool, Err, IfErr, OnOk}
use Rattle.std.specs.List.{Contains}
use Rattle.std.proofs.lemmas.Result.{err_from_is_err_and, IfErr-weaker, IfOk-weaker}
use Rattle.run_state.specs.KeyLists.{are_new}
use Rattle.run_state.specs.Known.{RefusesJob, KeyTable, labels_in}
use Rattle.run_state.specs.Stops.{IsRefused}
use Rattle.run_state.proofs.TableLemmas.{is_waiting, new-known, refused, stops_by_keys, waits_at}
use Rattle.run_state.proofs.known.Known.check.Goals as goal

pub returns-in_err-waiting_place-clause-refused : goal.returns-in_err-waiting_place-clause-refused
returns-in_err-waiting_place-clause-refused c =
    let q = err_from_is_err_and c.from_residual.result c.from_residual.ensures.1 in
    subst (λ r. IfErr r (IsRefused c.args.self.now.keys c.args.job.now c.args.more.now)) (sym (q.1 ∙ ap (λ e. Err e) q.2))
    (subst (λ (z : KeyTable). IsRefused z.keys c.args.job.now c.args.more.now c.in_err-waiting_place.field-0.0) c.self.view_is
    (refused (labels_in c.self.inside.keys.keys) c.self.inside.done.marks.items c.self.inside.done.places.items c.self.invariant c.args.job.now c.args.more.now
    c.in_err-waiting_place.field-0.0
    (subst (λ (l : List Bool). RefusesJob (labels_in c.self.inside.keys.keys) l c.args.job.now c.args.more.now c.in_err-waiting_place.field-0.0) c.deref.ensures.value
    (c.in_err-waiting_place.ensures.stop c.args.more.now))))

pub returns-clause-waits : goal.returns-clause-waits
returns-clause-waits c =
    subst (λ (z : KeyTable). OnOk c.try_keys.result (Contains z.keys.waiting c.args.job.now)) c.self.view_is
    (IfOk-weaker c.try_keys.result _ _ (λ u h.
    is_waiting (labels_in c.self.inside.keys.keys) c.self.inside.done.marks.items c.self.inside.done.places.items c.self.invariant c.args.job.now (waits_at (labels_in c.self.inside.keys.keys) c.self.inside.done.marks.items c.deref.result.now c.args.job.now c.in_ok-waiting_place.field-0
    c.in_ok-waiting_place.ensures.at c.deref.ensures.value c.in_ok-waiting_place.ensures.waits))
    c.try_keys.ensures.new)

pub returns-clause-new_keys : goal.returns-clause-new_keys
returns-clause-new_keys c =
    subst (λ (z : KeyTable). OnOk c.try_keys.result (are_new (z.keys.waiting ++ z.keys.done) c.args.more.now ≡ true)) c.self.view_is
    (IfOk-weaker c.try_keys.result _ _ (λ u h.
    new-known (labels_in c.self.inside.keys.keys) c.self.inside.done.marks.items c.self.inside.done.places.items c.self.invariant c.args.more.now h)
    c.try_keys.ensures.new)

pub returns-clause-refused : goal.returns-clause-refused
returns-clause-refused c =
    subst (λ (z : KeyTable). IfErr c.try_keys.result (IsRefused z.keys c.args.job.now c.args.more.now)) c.self.view_is
    (IfErr-weaker c.try_keys.result _ _ (λ e h.
    refused (labels_in c.self.inside.keys.keys) c.self.inside.done.marks.items c.self.inside.done.places.items c.self.invariant c.args.job.now c.args.more.now e
    (stops_by_keys (labels_in c.self.inside.keys.keys) c.self.inside.done.marks.items c.args.job.now c.args.more.now e (waits_at (labels_in c.self.inside.keys.keys) c.self.inside.done.marks.items c.deref.result.now c.args.job.now c.in_ok-waiting_place.field-0
    c.in_ok-waiting_place.ensures.at c.deref.ensures.value c.in_ok-waiting_place.ensures.waits) h))
    c.try_keys.ensures.stop)
