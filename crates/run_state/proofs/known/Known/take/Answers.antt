use Rattle.std.proofs.Common.{◌≡◌, subst, true, ◌++◌, OnOk, IfErr}
use Rattle.std.specs.List.{Contains}
use Rattle.std.proofs.lemmas.Result.{IfErr-weaker, IfOk-weaker}
use Rattle.run_state.specs.KeyLists.{are_new, keys_with}
use Rattle.run_state.specs.Known.{KeyTable, labels_in, key_table}
use Rattle.run_state.specs.Stops.{IsRefused}
use Rattle.run_state.proofs.TableLemmas.{refused, table_same, table_taken, table_then}
use Rattle.run_state.proofs.known.Known.take.Goals as goal

pub invariant_of-self : goal.invariant_of-self
invariant_of-self c =
    table_then c.take_in.result (labels_in c.self.inside.keys.keys) c.self.inside.done.marks.items c.self.inside.done.places.items
    (labels_in c.take_in.new.known.keys) c.take_in.new.done.marks.items c.take_in.new.done.places.items c.args.job.now c.args.more.now
    c.self.invariant c.take_in.ensures.ok c.take_in.ensures.err

pub returns-clause-waits : goal.returns-clause-waits
returns-clause-waits c =
    subst (λ (z : KeyTable). OnOk c.take_in.result (Contains z.keys.waiting c.args.job.now)) c.self.view_is
    (IfOk-weaker c.take_in.result _ _ (λ u h.
    (table_taken (labels_in c.self.inside.keys.keys) c.self.inside.done.marks.items c.self.inside.done.places.items
    (labels_in c.take_in.new.known.keys) c.take_in.new.done.marks.items c.take_in.new.done.places.items c.args.job.now c.args.more.now c.self.invariant h).2)
    c.take_in.ensures.ok)

pub returns-clause-new_keys : goal.returns-clause-new_keys
returns-clause-new_keys c =
    subst (λ (z : KeyTable). OnOk c.take_in.result (are_new (z.keys.waiting ++ z.keys.done) c.args.more.now ≡ true)) c.self.view_is
    (IfOk-weaker c.take_in.result _ _ (λ u h.
    (table_taken (labels_in c.self.inside.keys.keys) c.self.inside.done.marks.items c.self.inside.done.places.items
    (labels_in c.take_in.new.known.keys) c.take_in.new.done.marks.items c.take_in.new.done.places.items c.args.job.now c.args.more.now c.self.invariant h).3)
    c.take_in.ensures.ok)

pub returns-clause-taken : goal.returns-clause-taken
returns-clause-taken c =
    subst (λ (z : KeyTable). OnOk c.take_in.result (key_table (labels_in c.take_in.new.known.keys) c.take_in.new.done.marks.items c.take_in.new.done.places.items ≡ record { came = z.came ++ c.args.more.now; keys = keys_with z.keys c.args.job.now c.args.more.now })) c.self.view_is
    (IfOk-weaker c.take_in.result _ _ (λ u h.
    table_same (labels_in c.self.inside.keys.keys) c.self.inside.done.marks.items c.self.inside.done.places.items
    (labels_in c.take_in.new.known.keys) c.take_in.new.done.marks.items c.take_in.new.done.places.items c.args.job.now c.args.more.now c.self.invariant h)
    c.take_in.ensures.ok)

pub returns-clause-refused : goal.returns-clause-refused
returns-clause-refused c =
    subst (λ (z : KeyTable). IfErr c.take_in.result (IsRefused z.keys c.args.job.now c.args.more.now)) c.self.view_is
    (IfErr-weaker c.take_in.result _ _
    (refused (labels_in c.self.inside.keys.keys) c.self.inside.done.marks.items c.self.inside.done.places.items c.self.invariant c.args.job.now c.args.more.now)
    c.take_in.ensures.stop)
