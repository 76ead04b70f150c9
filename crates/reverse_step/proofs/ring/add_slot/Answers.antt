use Rattle.std.proofs.Common.{sym, subst, ◌∙◌}
use Rattle.std.specs.List.{All}
use Rattle.std.proofs.lemmas.List.Elements.{All-push}
use Rattle.dictionary.specs.Views.{Dictionary}
use Rattle.lex_pivot.specs.Leads.{AreLeads}
use Rattle.reverse_step.specs.Rings.{IsSlotOf}
use Rattle.reverse_step.proofs.RingLemmas.{slot_of_copy}
use Rattle.reverse_step.proofs.ring.add_slot.Goals as goal

pub returns-clause-slots : goal.returns-clause-slots
returns-clause-slots c =
    let d = c.args.dict.now in
    let root = c.args.order.now in
    let slot = c.in_ok-slot.slot in
    subst (All (IsSlotOf d root)) (sym c.in_ok-push.ensures.items)
    (All-push (IsSlotOf d root) c.args.slots.now.items slot c.requires
    (slot_of_copy d root slot (c.in_ok-slot.ensures.dict ∙ c.in_ok-copy.ensures)
    (subst (λ (e : Dictionary). AreLeads e root slot.leads) (sym c.in_ok-slot.ensures.dict) c.in_ok-slot.ensures.leads)))
