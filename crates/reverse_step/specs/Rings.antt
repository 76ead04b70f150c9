-- The ancestors that a walk keeps, in a ring of slots.
use Rattle.std.specs.Prelude.{◌<◌, ◌≤◌, ◌-◌, ℕ, zero, suc, pos, List, [], ◌∷◌, length, map}
use Rattle.std.specs.List.{All, slice_index_or}
use Rattle.poly_model.specs.declared.overflow.Phase.TheVariants.{Main}
use Rattle.dictionary.specs.Views.{Dictionary}
use Rattle.lex_pivot.specs.Leads.{AreLeads}
use Rattle.reverse_step.specs.declared.slots.Slot.{Slot}
use Rattle.reverse_step.specs.Walks.{Parent, AreAlike}

-- the place before one in a ring of so many places: before the first comes the last
abbrev pub before_in_ring : ℕ → ℕ → ℕ
before_in_ring count zero = count - 1
before_in_ring count (suc place) = place

-- so many values of a ring from a place on backwards; `none` is of no account
abbrev pub going_back : {A : Type 0} → A → List A → ℕ → ℕ → List A
going_back none ring place zero = []
going_back none ring place (suc n) =
    slice_index_or ring place none ∷ going_back none ring (before_in_ring (length ring) place) n

abbrev pub parent_in : Slot → Parent
parent_in slot = record { dict = slot.dict.value; column = slot.column }

-- no parent: it stands for what is behind the end of a list
abbrev pub no_parent : Parent
no_parent = record {
  dict = record { phase = Main; labels = []; key = []; columns = []; rows = []; denominator = pos 1; cells = [] };
  column = 0;
}

-- so many ancestors, from the parent's slot on backwards
abbrev pub kept_parents : List Slot → ℕ → ℕ → List Parent
kept_parents slots last known = going_back no_parent (map parent_in slots) last known

-- a slot with a dictionary of the shape of this one, and the leads of its own
pub record IsSlotOf (here : Dictionary) (root : List ℕ) (slot : Slot) : Type 0 where
  pub alike : AreAlike here slot.dict.value
  pub leads : AreLeads slot.dict.value root slot.leads

-- what holds of every walk: the leads where it stands are those of its dictionary, each other slot has leads of its own, and
-- no more ancestors are known than there are slots
pub record IsRing (here : Slot) (slots : List Slot) (last known : ℕ) (root : List ℕ) : Type 0 where
  pub leads : AreLeads here.dict.value root here.leads
  pub each : All (IsSlotOf here.dict.value root) slots
  pub within : last < length slots
  pub few : known ≤ length slots
