use Rattle.std.proofs.Common.{ℕ, ◌-◌, arith, sym, subst}
use Rattle.std.specs.List.{Contains}
use Rattle.std.proofs.lemmas.List.Elements.{All-get_or}
use Rattle.dictionary.proofs.dict.Dict.lead.Goals as goal

pub is_nonzero-requires-clause-label : goal.is_nonzero-requires-clause-label
is_nonzero-requires-clause-label c =
    let labels = c.args.self.now.labels in
    let bound = c.places.auto.n in
    let some = c.places-test.true in
    subst (λ (k : ℕ). Contains labels k) (sym c.label_at.ensures)
    (All-get_or (λ (l : ℕ). Contains labels l) c.args.order.now (c.places.n - 1) 0 (omega (arith, bound, some))
    c.requires.labels)
