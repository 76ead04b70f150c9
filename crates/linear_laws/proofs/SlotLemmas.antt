-- The coordinates are slots, and an exchange of the first slot at which a row is not 0 leaves slots.
use Rattle.std.proofs.Common.{◌≡◌, ℕ, zero, suc, ◌<◌, ℤ, pos, ◌+ℤ◌, ◌*ℤ◌, neg_ℤ, List, [], ◌∷◌, ◌++◌, map, refl, ◌∙◌, arith}
use Rattle.std.specs.List.{AllByRecursion}
use Rattle.poly_num.specs.Vectors.{Vector, ◌·◌}
use Rattle.poly_num.proofs.Ring.{lin, zero_mul}
use Rattle.poly_model.specs.Keys.{IsAscending}
use Rattle.linear_laws.specs.Frames.{moved, Column, EntriesVanish}
use Rattle.poly_model.specs.Cones.{at}
use Rattle.linear_laws.specs.Slots.{IsSlot, AreSlots}
use Rattle.linear_laws.proofs.Combinations.{zero_combination}
use Rattle.linear_laws.proofs.Entries.{zeros, at-zeros, at-combination, first_reads}
use Rattle.linear_laws.proofs.Coordinates.{shifted, first_column, coordinates}

-- the columns are slots of ascending coordinates
pub record HaveSlots (cs : List Column) : Type 0 where
  pub columns : List ℕ
  pub ascending : IsAscending columns
  pub slots : AreSlots columns cs

-- ---- the coordinates
abbrev numbers : ℕ → List ℕ
numbers zero = []
numbers (suc n) = zero ∷ map suc (numbers n)

suc_above : (j : ℕ) (js : List ℕ) → AllByRecursion (λ k. j < k) js → AllByRecursion (λ k. suc j < k) (map suc js)
suc_above j [] h = tt
suc_above j (k ∷ js) h = (omega (arith, h.0), suc_above j js h.1)

suc_positive : (js : List ℕ) → AllByRecursion (λ k. zero < k) (map suc js)
suc_positive [] = tt
suc_positive (k ∷ js) = (omega arith, suc_positive js)

suc_ascending : (js : List ℕ) → IsAscending js → IsAscending (map suc js)
suc_ascending [] h = tt
suc_ascending (j ∷ js) h = (suc_above j js h.0, suc_ascending js h.1)

numbers_ascending : (n : ℕ) → IsAscending (numbers n)
numbers_ascending zero = tt
numbers_ascending (suc n) = (suc_positive (numbers n), suc_ascending (numbers n) (numbers_ascending n))

slot_shifted : (j : ℕ) (c : Column) → IsSlot j c → IsSlot (suc j) (shifted c)
slot_shifted j c s = record { reads = reads; beyond = beyond }
  where
    reads : (y : Vector) → (pos 0 ∷ c.row) · y ≡ at (suc j) y
    reads [] = refl
    reads (x ∷ y) = omega (arith, lin, zero_mul x, s.reads y)

    beyond : (i : ℕ) → suc j < i → at i (pos 0 ∷ c.dual) ≡ pos 0
    beyond zero l = refl
    beyond (suc i) l = s.beyond i (omega arith)

slots_shifted : (js : List ℕ) (cs : List Column) → AreSlots js cs → AreSlots (map suc js) (map shifted cs)
slots_shifted [] [] s = tt
slots_shifted [] (c ∷ cs) s = s
slots_shifted (j ∷ js) [] s = s
slots_shifted (j ∷ js) (c ∷ cs) s = (slot_shifted j c s.0, slots_shifted js cs s.1)

first_slot : (n : ℕ) → IsSlot 0 (first_column n)
first_slot n = record { reads = first_reads n; beyond = beyond }
  where
    beyond : (i : ℕ) → 0 < i → at i (pos 1 ∷ zeros n) ≡ pos 0
    beyond zero l = absurd (omega arith)
    beyond (suc i) l = at-zeros n i

coordinates_slots : (n : ℕ) → AreSlots (numbers n) (coordinates n)
coordinates_slots zero = tt
coordinates_slots (suc n) = (first_slot n, slots_shifted (numbers n) (coordinates n) (coordinates_slots n))

pub coordinates_have_slots : (n : ℕ) → HaveSlots (coordinates n)
coordinates_have_slots n = record { columns = numbers n; ascending = numbers_ascending n; slots = coordinates_slots n }

-- ---- an exchange
-- a later slot: the dual vector that is added is 0 where the slot's has to be
later_slots : (g : Vector) (e : ℤ) (z : Vector) (j : ℕ) → ((i : ℕ) → j < i → at i z ≡ pos 0) →
    (js : List ℕ) (cs : List Column) → AllByRecursion (λ k. j < k) js → AreSlots js cs →
    AreSlots js (map (moved g e z) cs)
later_slots g e z j h [] [] a s = tt
later_slots g e z j h [] (c ∷ cs) a s = s
later_slots g e z j h (k ∷ js) [] a s = s
later_slots g e z j h (k ∷ js) (c ∷ cs) a s = (
  record {
    reads = s.0.reads;
    beyond = λ i l.
        at-combination i e c.dual (neg_ℤ (g · c.dual)) z
        ∙ zero_combination e (at i c.dual) (neg_ℤ (g · c.dual)) (at i z) (s.0.beyond i l) (h i (omega (arith, a.0)));
  },
  later_slots g e z j h js cs a.1 s.1,
)

-- an earlier slot, where g is 0, is only multiplied
earlier_slot : (g : Vector) (e : ℤ) (z : Vector) (j : ℕ) (c : Column) → g · c.dual ≡ pos 0 → IsSlot j c →
    IsSlot j (moved g e z c)
earlier_slot g e z j c h s = record {
  reads = s.reads;
  beyond = λ i l.
      at-combination i e c.dual (neg_ℤ (g · c.dual)) z
      ∙ none e (at i c.dual) (g · c.dual) (at i z) (s.beyond i l) h;
}
  where
    none : (e x b y : ℤ) → x ≡ pos 0 → b ≡ pos 0 → e *ℤ x +ℤ neg_ℤ b *ℤ y ≡ pos 0
    none e x b y p q = rw (p, q) (omega (arith, lin, Rattle.poly_num.proofs.Ring.mul_zero e, zero_mul y))

-- the coordinates without that of the column behind ls
abbrev without : List Column → List ℕ → List ℕ
without ls [] = []
without [] (j ∷ js) = js
without (l ∷ ls) (j ∷ js) = j ∷ without ls js

all_without : (P : ℕ → Type 0) (ls : List Column) (js : List ℕ) → AllByRecursion P js → AllByRecursion P (without ls js)
all_without P ls [] h = tt
all_without P [] (j ∷ js) h = h.1
all_without P (l ∷ ls) (j ∷ js) h = (h.0, all_without P ls js h.1)

ascending_without : (ls : List Column) (js : List ℕ) → IsAscending js → IsAscending (without ls js)
ascending_without ls [] h = tt
ascending_without [] (j ∷ js) h = h.1
ascending_without (l ∷ ls) (j ∷ js) h = (all_without (λ k. j < k) ls js h.0, ascending_without ls js h.1)

slots_without : (g : Vector) (ls : List Column) (c : Column) (bs : List Column) (js : List ℕ) → IsAscending js →
    AreSlots js (ls ++ c ∷ bs) → EntriesVanish g ls →
    AreSlots (without ls js) (map (moved g (g · c.dual) c.dual) (ls ++ bs))
slots_without g [] c bs [] a s h = absurd s
slots_without g [] c bs (j ∷ js) a s h = later_slots g (g · c.dual) c.dual j s.0.beyond js bs a.0 s.1
slots_without g (l ∷ ls) c bs [] a s h = absurd s
slots_without g (l ∷ ls) c bs (j ∷ js) a s h =
    (earlier_slot g (g · c.dual) c.dual j l h.0 s.0, slots_without g ls c bs js a.1 s.1 h.1)

pub slots_kept : (g : Vector) (ls : List Column) (c : Column) (bs : List Column) → HaveSlots (ls ++ c ∷ bs) →
    EntriesVanish g ls → HaveSlots (map (moved g (g · c.dual) c.dual) (ls ++ bs))
slots_kept g ls c bs s h = record {
  columns = without ls s.columns;
  ascending = ascending_without ls s.columns s.ascending;
  slots = slots_without g ls c bs s.columns s.ascending s.slots h;
}
