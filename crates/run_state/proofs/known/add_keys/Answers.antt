use Rattle.std.proofs.Common.{◌∙◌, ◌≡◌, ap, take, ◌++◌, ◌∷◌, [], Bool, if◌then◌else◌}
use Rattle.run_state.specs.Known.{labels_in}
use Rattle.run_state.proofs.KnownLemmas.{added, clash_at, cut-back, keys-more, one_more, was_known, was_new}
use Rattle.run_state.proofs.LeftKeys.{gone, is_next, one_more_gone, still_left, within}
use Rattle.run_state.proofs.known.add_keys.Goals as goal

pub returns-in-Ok-false-clause-err : goal.returns-in-Ok-false-clause-err
returns-in-Ok-false-clause-err c =
    let l = c.keys in
    let same : labels_in c.add_key.new.known.keys ≡ labels_in l.known.keys =
    c.in-Ok-false.ensures.keys ∙ ap (λ (b : Bool). if b then labels_in l.known.keys ++ c.in-Some.key.now ∷ [] else labels_in l.known.keys) c.in-Ok-false.field-0-test in
    ap labels_in c.truncate.ensures.keys
    ∙ cut-back c.add_key.new.known.keys c.args.known.now.keys _ c.len-was.result (same ∙ l.invariant.keys) l.invariant.was

pub returns-in-Ok-false-clause-stop : goal.returns-in-Ok-false-clause-stop
returns-in-Ok-false-clause-stop c =
    let l = c.keys in
    let keys = c.args.keys.now in
    let i = gone keys l.left in
    let next = c.in-Some.ensures.keys in
    let clash =
    clash_at (labels_in c.args.known.now.keys) keys i c.in-Some.key.now l.invariant.new (within keys l.left _ _ l.invariant.left next) (is_next keys l.left _ _ l.invariant.left next)
    (was_known (labels_in l.known.keys) (labels_in c.args.known.now.keys ++ take i keys) c.in-Some.key.now c.in-Ok-false.field-0 l.invariant.keys c.in-Ok-false.ensures.new c.in-Ok-false.field-0-test) in
    rw c.key_of.ensures clash

pub returns-in-Err-clause-err : goal.returns-in-Err-clause-err
returns-in-Err-clause-err c =
    ap labels_in c.truncate-in-Err.ensures.keys
    ∙ cut-back c.add_key.new.known.keys c.args.known.now.keys _ c.len-was.result (c.in-Err.ensures.err ∙ c.keys.invariant.keys) c.keys.invariant.was

pub keys-preserved : goal.keys-preserved
keys-preserved c =
    let l = c.keys in
    let keys = c.args.keys.now in
    let i = gone keys l.left in
    let old = labels_in c.args.known.now.keys in
    let key = c.in-Some.key.now in
    let next = c.in-Some.ensures.keys in
    let inside = within keys l.left _ _ l.invariant.left next in
    let is = is_next keys l.left _ _ l.invariant.left next in
    let more : labels_in c.add_key.new.known.keys ≡ labels_in l.known.keys ++ key ∷ [] =
    c.in-Ok-true.ensures.keys ∙ ap (λ (b : Bool). if b then labels_in l.known.keys ++ key ∷ [] else labels_in l.known.keys) c.in-Ok-true.field-0-test in
    let one = one_more_gone keys l.left _ _ l.invariant.left next in
    record {
      left = still_left keys l.left _ _ l.invariant.left next;
      keys = rw one (one_more old keys i key more l.invariant.keys inside is);
      new = rw one (added old keys i key l.invariant.new inside is
          (was_new (labels_in l.known.keys) (old ++ take i keys) key c.in-Ok-true.field-0 l.invariant.keys c.in-Ok-true.ensures.new c.in-Ok-true.field-0-test));
      are_keys = rw one (keys-more keys i key inside is l.invariant.are_keys c.in-Some.ensures.key);
      was = l.invariant.was;
    }
