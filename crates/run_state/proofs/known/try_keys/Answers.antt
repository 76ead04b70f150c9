use Rattle.std.proofs.Common.{◌∙◌, ◌≡◌, sym, ap, take, ◌++◌, ◌∷◌, [], Bool, if◌then◌else◌}
use Rattle.run_state.specs.Known.{labels_in}
use Rattle.run_state.proofs.KnownLemmas.{added, clash_at, in_first, in_neither, in_second, one_more, was_known, was_new}
use Rattle.run_state.proofs.LeftKeys.{gone, is_next, one_more_gone, still_left, within}
use Rattle.run_state.proofs.known.try_keys.Goals as goal

pub returns-then-is_known-clause-stop : goal.returns-then-is_known-clause-stop
returns-then-is_known-clause-stop c =
    let l = c.keys in
    let keys = c.args.keys.now in
    let known = labels_in c.args.known.now.keys in
    let next = c.in-Some.ensures.keys in
    rw c.key_of.ensures
    (clash_at known keys (gone keys l.left) c.in-Some.key.now l.invariant.new (within keys l.left _ _ l.invariant.left next) (is_next keys l.left _ _ l.invariant.left next)
    (in_first known (take (gone keys l.left) keys) c.in-Some.key.now (sym c.is_known.ensures ∙ c.if-is_known.true)))

pub returns-in-Ok-false-clause-stop : goal.returns-in-Ok-false-clause-stop
returns-in-Ok-false-clause-stop c =
    let l = c.keys in
    let keys = c.args.keys.now in
    let known = labels_in c.args.known.now.keys in
    let next = c.in-Some.ensures.keys in
    let before = take (gone keys l.left) keys in
    rw c.key_of-in-Ok-false.ensures
    (clash_at known keys (gone keys l.left) c.in-Some.key.now l.invariant.new (within keys l.left _ _ l.invariant.left next) (is_next keys l.left _ _ l.invariant.left next)
    (in_second known before c.in-Some.key.now (sym c.is_known.ensures ∙ c.if-is_known.false)
    (was_known (labels_in l.earlier.keys) before c.in-Some.key.now c.in-Ok-false.field-0 l.invariant.keys c.in-Ok-false.ensures.new c.in-Ok-false.field-0-test)))

pub keys-preserved : goal.keys-preserved
keys-preserved c =
    let l = c.keys in
    let keys = c.args.keys.now in
    let known = labels_in c.args.known.now.keys in
    let i = gone keys l.left in
    let key = c.in-Some.key.now in
    let next = c.in-Some.ensures.keys in
    let inside = within keys l.left _ _ l.invariant.left next in
    let is = is_next keys l.left _ _ l.invariant.left next in
    let one = one_more_gone keys l.left _ _ l.invariant.left next in
    let more : labels_in c.add_key.new.known.keys ≡ labels_in l.earlier.keys ++ key ∷ [] =
    c.in-Ok-true.ensures.keys ∙ ap (λ (b : Bool). if b then labels_in l.earlier.keys ++ key ∷ [] else labels_in l.earlier.keys) c.in-Ok-true.field-0-test in
    record {
      left = still_left keys l.left _ _ l.invariant.left next;
      keys = rw one (one_more [] keys i key more l.invariant.keys inside is);
      new = rw one (added known keys i key l.invariant.new inside is
          (in_neither known (take i keys) key (sym c.is_known.ensures ∙ c.if-is_known.false)
          (was_new (labels_in l.earlier.keys) (take i keys) key c.in-Ok-true.field-0 l.invariant.keys c.in-Ok-true.ensures.new c.in-Ok-true.field-0-test)));
    }
