use Rattle.std.proofs.Common.{◌∙◌, ℕ, List, length, ap, subst}
use Rattle.std.specs.Prelude.{◌↔◌, IsTrue}
use Rattle.std.specs.List.{Contains}
use Rattle.dictionary.specs.Views.{Dictionary, IsWhole}
use Rattle.dictionary.proofs.PositionLemmas.{labels_apart}
use Rattle.dictionary.proofs.dict.Dict.in_cobasis.Goals as goal

pub is_in_column-requires-clause-below : goal.is_in_column-requires-clause-below
is_in_column-requires-clause-below c =
    let room = ap length c.deref.ensures.value ∙ c.self.invariant.4.room in
    rw (room, c.deref-2.ensures.value) ((labels_apart _ c.self.invariant.2 c.self.invariant.3).columns_below)

pub is_in_column-requires-clause-columns : goal.is_in_column-requires-clause-columns
is_in_column-requires-clause-columns c = rw (c.deref.ensures.value, c.deref-2.ensures.value) c.self.invariant.4.in_column

-- the columns have the labels of the key
pub returns : goal.returns
returns c =
    let whole = subst (λ (d : Dictionary). IsWhole d) c.self.view_is c.self.invariant.2 in
    let h = subst (λ (ks : List ℕ). IsTrue c.is_in_column.result ↔ Contains ks c.args.label)
    (c.deref-2.ensures.value ∙ ap (λ (d : Dictionary). d.columns) c.self.view_is) c.is_in_column.ensures in (
      λ t. whole.same.back c.args.label (h.0 t),
      λ m. h.1 (whole.same.there c.args.label m),
    )
