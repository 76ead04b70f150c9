-- A ring of slots: going down one is written over, going up the last one is left.
use Rattle.std.proofs.Common.{◌≡◌, ◌≢◌, ◌⊎◌, inl, inr, ℕ, zero, suc, ◌+◌, ◌-◌, ◌≤◌, ◌<◌, List, [], ◌∷◌, length, take, map, set, get_or, refl, sym, ap, ap₂, subst, ◌∙◌, arith}
use Rattle.std.specs.List.{All}
use Rattle.std.proofs.lemmas.List.{get_or-set_same, get_or-set_other, get_or-map, length-set, length-map, map-set, set-get_or}
use Rattle.std.proofs.lemmas.List.Elements.{All-set, All-weaker}
use Rattle.dictionary_laws.specs.Keys.{place_in}
use Rattle.dictionary.specs.Views.{Dictionary, IsPivot}
use Rattle.reverse_step.specs.declared.slots.Slot.{Slot}
use Rattle.reverse_step.specs.Walks.{Parent, Walk, AreAlike}
use Rattle.reverse_step.specs.Moves.{moved_to, IsMovedDown, IsBackAtParent}
use Rattle.lex_pivot.specs.Leads.{AreLeads}
use Rattle.reverse_step.specs.Rings.{before_in_ring, going_back, parent_in, no_parent, kept_parents, IsSlotOf, IsRing}

-- a walk at the dictionary of a slot
abbrev pub stands : List ℕ → List ℕ → ℕ → Slot → List Parent → Walk
stands root job at slot parents =
    record { dict = slot.dict.value; root = root; job = job; at = at; parents = parents }

-- so many places from i on backwards do not come to j
abbrev pub Misses : ℕ → ℕ → ℕ → ℕ → Type 0
Misses count j i n = (n + j ≤ i) ⊎ ((i < j) × (n + j ≤ i + count))

misses_place : (count j i n : ℕ) → Misses count j i (suc n) → i ≢ j
misses_place count j i n (inl l) e = omega (arith, l, e)
misses_place count j i n (inr (l, m)) e = omega (arith, l, e)

misses_before : (count j i n : ℕ) → i < count → Misses count j i (suc n) → Misses count j (before_in_ring count i) n
misses_before count j zero n l (inl m) = inl (omega (arith, m))
misses_before count j zero n l (inr (m, k)) = inl (omega (arith, l, k))
misses_before count j (suc i) n l (inl m) = inl (omega (arith, m))
misses_before count j (suc i) n l (inr (m, k)) = inr (omega (arith, m), omega (arith, k))

before_within : (count i : ℕ) → i < count → before_in_ring count i < count
before_within count zero l = omega (arith, l)
before_within count (suc i) l = omega (arith, l)

-- all places but one
misses_round : (count j n : ℕ) → j < count → n < count → Misses count j (before_in_ring count j) n
misses_round count zero n l m = inl (omega (arith, m))
misses_round count (suc i) n l m = inr (omega arith, omega (arith, m))

module _ {A : Type 0} (none : A) where
  pub length-going_back : (ring : List A) (i n : ℕ) → length (going_back none ring i n) ≡ n
  length-going_back ring i zero = refl
  length-going_back ring i (suc n) = ap suc (length-going_back ring (before_in_ring (length ring) i) n)

  pub take-going_back : (ring : List A) (i n m : ℕ) → n ≤ m → take n (going_back none ring i m) ≡ going_back none ring i n
  take-going_back ring i zero m l = refl
  take-going_back ring i (suc n) zero l = absurd (omega (arith, l))
  take-going_back ring i (suc n) (suc m) l =
      ap (λ xs. get_or ring i none ∷ xs) (take-going_back ring (before_in_ring (length ring) i) n m (omega (arith, l)))

  pub going_back-set : (ring : List A) (j : ℕ) (y : A) (i n : ℕ) → i < length ring → Misses (length ring) j i n →
      going_back none (set ring j y) i n ≡ going_back none ring i n
  going_back-set ring j y i zero l m = refl
  going_back-set ring j y i (suc n) l m =
      ap₂ (λ x xs. x ∷ xs)
      (get_or-set_other ring j i y none (misses_place (length ring) j i n m))
      (ap (λ count. going_back none (set ring j y) (before_in_ring count i) n) (length-set ring j y)
      ∙ going_back-set ring j y (before_in_ring (length ring) i) n (before_within (length ring) i l)
      (misses_before (length ring) j i n l m))

  pub going_back-down : (ring : List A) (next last : ℕ) (y : A) (n m : ℕ) → next < length ring →
      before_in_ring (length ring) next ≡ last → n < length ring → n ≤ m →
      going_back none (set ring next y) next (suc n) ≡ y ∷ take n (going_back none ring last m)
  going_back-down ring next last y n m l e few le =
      ap₂ (λ x xs. x ∷ xs)
      (get_or-set_same ring next y none l)
      (ap (λ count. going_back none (set ring next y) (before_in_ring count next) n) (length-set ring next y)
      ∙ going_back-set ring next y (before_in_ring (length ring) next) n (before_within (length ring) next l)
      (misses_round (length ring) next n l few)
      ∙ ap (λ i. going_back none ring i n) e
      ∙ sym (take-going_back ring last n m le))

  pub going_back-up : (ring : List A) (last : ℕ) (y : A) (n : ℕ) → last < length ring → n < length ring →
      going_back none (set ring last y) (before_in_ring (length ring) last) n
      ≡ going_back none ring (before_in_ring (length ring) last) n
  going_back-up ring last y n l few =
      going_back-set ring last y (before_in_ring (length ring) last) n (before_within (length ring) last l)
      (misses_round (length ring) last n l few)

-- ---- slots
pub alike_back : (one other : Dictionary) → AreAlike one other → AreAlike other one
alike_back one other a = record { phase = sym a.phase; rows = sym a.rows; columns = sym a.columns }

pub alike_on : (one two three : Dictionary) → AreAlike one two → AreAlike two three → AreAlike one three
alike_on one two three a b = record {
  phase = b.phase ∙ a.phase;
  rows = b.rows ∙ a.rows;
  columns = b.columns ∙ a.columns;
}

slots_on : (one two : Dictionary) (root : List ℕ) (slots : List Slot) → AreAlike one two → All (IsSlotOf one root) slots →
    All (IsSlotOf two root) slots
slots_on one two root slots a =
    All-weaker (IsSlotOf one root) (IsSlotOf two root)
    (λ s h. record { alike = alike_on two one s.dict.value (alike_back one two a) h.alike; leads = h.leads }) slots

-- the ring where another slot is where it stands, and one is written over
pub ring_set : (here now : Slot) (slots : List Slot) (last known : ℕ) (root : List ℕ) → IsRing here slots last known root →
    (next : ℕ) (slot : Slot) (at m : ℕ) → AreAlike here.dict.value now.dict.value →
    AreLeads now.dict.value root now.leads → IsSlotOf now.dict.value root slot → at < length slots → m ≤ length slots →
    IsRing now (set slots next slot) at m root
ring_set here now slots last known root h next slot at m alike leads is inside most = record {
  leads = leads;
  each = All-set (IsSlotOf now.dict.value root) slots next slot is
      (slots_on here.dict.value now.dict.value root slots alike h.each);
  within = let l = length-set slots next slot in omega (arith, l, inside);
  few = let l = length-set slots next slot in omega (arith, l, most);
}

-- the parent's slot, where one is known
pub parent_slot : (slots : List Slot) (last : ℕ) (slot : Slot) → last < length slots → slot ≡ get_or slots last slot →
    get_or (map parent_in slots) last no_parent ≡ parent_in slot
parent_slot slots last slot l e = get_or-map parent_in slots last slot no_parent l ∙ sym (ap parent_in e)

pub parents-down : (slots : List Slot) (next last : ℕ) (slot : Slot) (n m : ℕ) → next < length slots →
    before_in_ring (length slots) next ≡ last → n < length slots → n ≤ m →
    kept_parents (set slots next slot) next (suc n) ≡ parent_in slot ∷ take n (kept_parents slots last m)
parents-down slots next last slot n m l e few le =
    let same = length-map slots parent_in in
    ap (λ ring. going_back no_parent ring next (suc n)) (map-set parent_in slots next slot)
    ∙ going_back-down no_parent (map parent_in slots) next last (parent_in slot) n m (omega (arith, same, l))
    (ap (λ count. before_in_ring count next) same ∙ e) (omega (arith, same, few)) le

pub parents-up : (slots : List Slot) (last : ℕ) (slot old : Slot) (n : ℕ) → last < length slots → n < length slots →
    slot ≡ get_or slots last slot →
    kept_parents slots last (suc n)
    ≡ parent_in slot ∷ kept_parents (set slots last old) (before_in_ring (length slots) last) n
parents-up slots last slot old n l few e =
    let same = length-map slots parent_in in
    ap₂ (λ x xs. x ∷ xs) (parent_slot slots last slot l e)
    (sym (going_back-up no_parent (map parent_in slots) last (parent_in old) n (omega (arith, same, l)) (omega (arith, same, few)))
    ∙ ap (λ count. going_back no_parent (set (map parent_in slots) last (parent_in old)) (before_in_ring count last) n) same
    ∙ ap (λ ring. going_back no_parent ring (before_in_ring (length slots) last) n) (sym (map-set parent_in slots last old)))

-- the slot at a place
pub slot_there : (d : Dictionary) (root : List ℕ) (slots : List Slot) (i : ℕ) (slot : Slot) → All (IsSlotOf d root) slots →
    i < length slots → slot ≡ get_or slots i slot → IsSlotOf d root slot
slot_there d root slots i slot all l e = subst (IsSlotOf d root) (sym e) (all i slot l)

-- back at the parent that is known
pub back_of : (dict : Dictionary) (root job : List ℕ) (at : ℕ) (slots : List Slot) (last known : ℕ) → last < length slots →
    known ≤ length slots → 0 < known → (slot here : Slot) → slot ≡ get_or slots last slot → (before : ℕ) →
    before ≡ before_in_ring (length slots) last → (place : ℕ) → place ≡ place_in slot.dict.value.key slot.column + 1 →
    slot.dict.value.phase ≡ dict.phase →
    IsBackAtParent
    (record { dict = dict; root = root; job = job; at = at; parents = kept_parents slots last known })
    slot.column
    (record {
      dict = slot.dict.value;
      root = root;
      job = job;
      at = place;
      parents = kept_parents (set slots last here) before (known - 1);
    })
back_of dict root job at slots last zero l few some slot here e before b place p phase = absurd (omega (arith, some))
back_of dict root job at slots last (suc n) l few some slot here e before b place p phase = record {
  parents = parents-up slots last slot here n l (omega (arith, few)) e
      ∙ ap (λ i. parent_in slot ∷ kept_parents (set slots last here) i n) (sym b)
      ∙ ap (λ k. parent_in slot ∷ kept_parents (set slots last here) before k) (sym less);
  same = ap (λ (i : ℕ). moved i) p;
  phase = phase;
}
  where
    less : suc n - 1 ≡ n
    less = omega arith

    moved : ℕ → Walk
    moved i = record {
      dict = slot.dict.value;
      root = root;
      job = job;
      at = i;
      parents = kept_parents (set slots last here) before (suc n - 1);
    }

-- down: the slot behind is the parent's
pub down_to : (old : Walk) (slots : List Slot) (last known : ℕ) → old.parents ≡ kept_parents slots last known →
    known ≤ length slots → (now : Dictionary) (r s : ℕ) → IsPivot old.dict r s now → (next m : ℕ) (slot : Slot) →
    next < length slots → before_in_ring (length slots) next ≡ last → 0 < m → m ≤ length slots → m ≤ known + 1 →
    parent_in slot ≡ record { dict = old.dict; column = s } →
    IsMovedDown old r s (moved_to old now 0 (kept_parents (set slots next slot) next m))
down_to old slots last known e few now r s p next zero slot l b some most more is = absurd (omega (arith, some))
down_to old slots last known e few now r s p next (suc n) slot l b some most more is = record {
  pivot = p;
  kept = n;
  same = ap (λ ps. moved_to old now 0 ps)
      (parents-down slots next last slot n known l b (omega (arith, most)) (omega (arith, more))
      ∙ ap (λ (q : Parent). q ∷ take n (kept_parents slots last known)) is
      ∙ ap (λ ps. record { dict = old.dict; column = s } ∷ take n ps) (sym e));
}

-- a slot that is written over with the same parent
pub parents-same : (slots : List Slot) (place last known : ℕ) (slot was : Slot) → place < length slots →
    was ≡ get_or slots place was → parent_in slot ≡ parent_in was →
    kept_parents (set slots place slot) last known ≡ kept_parents slots last known
parents-same slots place last known slot was l e same =
    ap (λ ring. going_back no_parent ring last known)
    (map-set parent_in slots place slot
    ∙ ap (λ p. set (map parent_in slots) place p) (same ∙ sym (parent_slot slots place was l e))
    ∙ set-get_or (map parent_in slots) place no_parent)

-- where none is known, none is kept
pub none_known : (slots : List Slot) (last known : ℕ) → kept_parents slots last known ≡ [] → known ≡ 0
none_known slots last zero e = refl
none_known slots last (suc n) e = absurd cc

pub none_kept : (slots : List Slot) (last known : ℕ) → known ≡ 0 → kept_parents slots last known ≡ []
none_kept slots last known e = ap (λ k. kept_parents slots last k) e

-- a slot with a copy of a dictionary is one of it
pub slot_of_copy : (d : Dictionary) (root : List ℕ) (slot : Slot) → slot.dict.value ≡ d →
    AreLeads slot.dict.value root slot.leads → IsSlotOf d root slot
slot_of_copy d root slot e leads = record {
  alike = record {
    phase = ap (λ (e : Dictionary). e.phase) e;
    rows = ap (λ (e : Dictionary). length e.labels) e;
    columns = ap (λ (e : Dictionary). length e.columns) e;
  };
  leads = leads;
}
