-- In a table of keys no key waits twice, and none that waits is done.
use Rattle.std.proofs.Common.{ℕ, List, ◌≡◌, ◌∙◌, inl, inr, Bool, [], ◌∷◌, ap, Some, slice_get}
use Rattle.std.proofs.lemmas.Bool.{cases_Bool}
use Rattle.std.proofs.lemmas.Option.{slice_get-get_or}
use Rattle.linear_laws.specs.Distinct.{AreDistinct}
use Rattle.run_state.specs.KeyLists.{StandApart}
use Rattle.run_state.specs.Known.{IsKeyTable, keys_in, unmarked}
use Rattle.run_state.proofs.TableLemmas.{done_only, keys_at-in, place_within, unmarked-in}

unmarked-once : (keys : List (List ℕ)) (marks : List Bool) → AreDistinct keys → AreDistinct (unmarked keys marks)
unmarked-once [] marks h = tt
unmarked-once (k ∷ keys) [] h = tt
unmarked-once (k ∷ keys) (m ∷ marks) h = elim (cases_Bool m) [
  | inl y ↦ rw y (unmarked-once keys marks h.1)
  | inr n ↦ rw n ((λ c. h.0 (unmarked-in keys marks k c)), unmarked-once keys marks h.1)
]

pub stand_apart : (keys : List (List ℕ)) (marks : List Bool) (places : List ℕ) → IsKeyTable keys marks places → StandApart (keys_in keys marks places)
stand_apart keys marks places t = record {
  once = unmarked-once keys marks t.once;
  not_done = λ k w d.
      let p = keys_at-in keys places k d in
      let at : slice_get keys p.0 ≡ Some k = slice_get-get_or keys p.0 [] (place_within keys marks places t p.0 p.1) ∙ ap Some p.2 in
      done_only keys marks places t k (record { place = p.0; at = at; mark_is = t.marked p.0 p.1 }) w;
}
