use Rattle.std.proofs.Common.{◌∙◌, ℕ, List, length, ap, subst}
use Rattle.std.specs.Prelude.{◌↔◌, IsTrue}
use Rattle.std.specs.List.{Contains}
use Rattle.dictionary.specs.Views.{Dictionary}
use Rattle.dictionary.proofs.PositionLemmas.{labels_apart}
use Rattle.dictionary.proofs.dict.Dict.has_row.Goals as goal

pub is_in_row-requires-clause-below : goal.is_in_row-requires-clause-below
is_in_row-requires-clause-below c =
    let room = ap length c.deref.ensures.value ∙ c.self.invariant.4.room in
    rw (room, c.deref-2.ensures.value) ((labels_apart _ c.self.invariant.2 c.self.invariant.3).rows_below)

pub is_in_row-requires-clause-rows : goal.is_in_row-requires-clause-rows
is_in_row-requires-clause-rows c = rw (c.deref.ensures.value, c.deref-2.ensures.value) c.self.invariant.4.in_row

pub returns : goal.returns
returns c =
    subst (λ (ks : List ℕ). IsTrue c.is_in_row.result ↔ Contains ks c.args.label)
    (c.deref-2.ensures.value ∙ ap (λ (d : Dictionary). d.rows) c.self.view_is) c.is_in_row.ensures
