use Rattle.std.proofs.Common.{sym}
use Rattle.poly_model.proofs.KeyListLemmas.{keys_and_one, are_keys_and_one}
use Rattle.poly_model.proofs.keys.Keys.push.Goals as goal

pub invariant_of-self-2 : goal.invariant_of-self-2
invariant_of-self-2 c =
    rw (
      c.in_ok-extend_from_slice.ensures.items,
      c.push_reserved.ensures.items,
      c.in_ok-try_reserve.ensures.items,
      c.len.ensures.value,
      c.labels.ensures.value,
    )
    (are_keys_and_one c.self.inside.counts.items c.self.inside.labels.items c.args.key.now c.self.invariant
    (rw c.labels.ensures.value at c.labels.ensures.key))

pub returns-clause-ok : goal.returns-clause-ok
returns-clause-ok c =
    rw (
      c.in_ok-extend_from_slice.ensures.items,
      c.push_reserved.ensures.items,
      c.in_ok-try_reserve.ensures.items,
      c.len.ensures.value,
      c.labels.ensures.value,
      sym c.self.view_is,
    )
    (keys_and_one c.self.inside.counts.items c.self.inside.labels.items c.args.key.now c.self.invariant)
