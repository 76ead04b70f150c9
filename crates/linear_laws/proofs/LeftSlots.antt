-- What elimination leaves: it leaves slots, and the dual vector of a slot is 0 at the other slots and
-- on all rows.
use Rattle.std.proofs.Common.{◌≡◌, ◌≢◌, ◌⊎◌, inl, inr, ⊎_elim, ℕ, ◌<◌, ℤ, pos, List, [], ◌∷◌, ◌++◌, length, append_assoc, refl, sym, ap, ◌∙◌, subst}
use Rattle.std.specs.List.{Contains}
use Rattle.poly_num.specs.Vectors.{Vector, ◌·◌, IsZero}
use Rattle.poly_model.specs.Independence.{Vanish}
use Rattle.linear_laws.specs.Frames.{Column, IsFrame, RowsVanish}
use Rattle.poly_model.specs.Cones.{at}
use Rattle.linear_laws.specs.Slots.{IsSlot, AreSlots}
use Rattle.linear_laws.specs.FreeColumns.{LeavesSlots}
use Rattle.linear_laws.proofs.AllLemmas.{all_left, all_right, all_both}
use Rattle.linear_laws.proofs.Members.{Contains-nil, Contains-first, Contains-later, Contains-cons_cases, less_or_equal}
use Rattle.linear_laws.proofs.Proportions.{zero_by_forms}
use Rattle.linear_laws.proofs.Columns.{frame_out, rows_vanish_at, vanish_from_columns, columns_from_vanish, zero_where_rows}
use Rattle.linear_laws.proofs.Elimination.{Eliminated, eliminate_all, rest_from_vanish, vanish_from_rest}
use Rattle.linear_laws.proofs.FirstBases.{taken_enough, taken_of}

pub record Left (n : ℕ) (rows : List Vector) : Type 0 where
  pub columns : List ℕ
  pub D : ℤ
  pub slots : List Column
  pub rest : List Column
  pub leaves : LeavesSlots n rows columns D slots rest

pub elimination_leaves : (n : ℕ) (rows : List Vector) → Left n rows
elimination_leaves n rows = by (eliminate_all n rows)
  where
    by : Eliminated n [] rows → Left n rows
    by e = record {
      columns = e.reached.coordinates.columns;
      D = e.reached.D;
      slots = e.reached.slots;
      rest = e.reached.rest;
      leaves = record {
        frame = e.reached.frame;
        ascending = e.reached.coordinates.ascending;
        slots_of = e.reached.coordinates.slots;
        same = λ y l. (
          λ v. (taken_enough n [] rows e.marks e.first y l
              (vanish_from_rest e.reached y (columns_from_vanish e.reached.rest y v))).1,
          λ v. vanish_from_columns e.reached.rest y
              (rest_from_vanish e.reached y (taken_of [] rows e.marks y tt v)),
        );
      };
    }

-- ---- the slot of a coordinate
pub record SlotAt (columns : List ℕ) (slots : List Column) (j : ℕ) : Type 0 where
  pub ls : List Column
  pub c : Column
  pub bs : List Column
  pub is : slots ≡ ls ++ c ∷ bs
  pub slot : IsSlot j c

pub slot_at : (columns : List ℕ) (slots : List Column) → AreSlots columns slots → (j : ℕ) → Contains columns j →
    SlotAt columns slots j
slot_at [] slots s j h = absurd (Contains-nil j h)
slot_at (i ∷ columns) [] s j h = absurd s
slot_at (i ∷ columns) (c ∷ slots) s j h = by (Contains-cons_cases j i columns h) (λ m. slot_at columns slots s.1 j m)
  where
    by : (i ≡ j) ⊎ Contains columns j → (Contains columns j → SlotAt columns slots j) →
        SlotAt (i ∷ columns) (c ∷ slots) j
    by (inl e) go = record { ls = []; c = c; bs = slots; is = refl; slot = subst (λ k. IsSlot k c) e s.0 }
    by (inr m) go =
        let w : SlotAt columns slots j = go m in
        record { ls = c ∷ w.ls; c = w.c; bs = w.bs; is = ap (λ t. c ∷ t) w.is; slot = w.slot }

-- what elimination leaves, with the slot of j between the others
pub parted_at : {n : ℕ} {rows : List Vector} {columns : List ℕ} {D : ℤ} {slots rest : List Column} {j : ℕ} →
    LeavesSlots n rows columns D slots rest → (w : SlotAt columns slots j) →
    LeavesSlots n rows columns D (w.ls ++ w.c ∷ w.bs) rest
parted_at {n} {rows} {columns} {D} {slots} {rest} s w = subst (λ t. LeavesSlots n rows columns D t rest) w.is s

-- the rows of the slots read the entries of their coordinates
pub rows_from_entries : (columns : List ℕ) (slots : List Column) → AreSlots columns slots → (y : Vector) →
    ((j : ℕ) → Contains columns j → at j y ≡ pos 0) → RowsVanish slots y
rows_from_entries [] [] s y h = tt
rows_from_entries [] (c ∷ slots) s y h = absurd s
rows_from_entries (j ∷ columns) [] s y h = absurd s
rows_from_entries (j ∷ columns) (c ∷ slots) s y h = (
  s.0.reads y ∙ h j (Contains-first j columns),
  rows_from_entries columns slots s.1 y (λ k m. h k (Contains-later k j columns m)),
)

-- where the rows of the slots are 0, the entries at their coordinates are
pub entries_from_rows : (columns : List ℕ) (slots : List Column) → AreSlots columns slots → (y : Vector) →
    RowsVanish slots y → (k : ℕ) → Contains columns k → at k y ≡ pos 0
entries_from_rows [] slots s y v k m = absurd (Contains-nil k m)
entries_from_rows (i ∷ columns) [] s y v k m = absurd s
entries_from_rows (i ∷ columns) (c ∷ slots) s y v k m =
    ⊎_elim (λ e. subst (λ t. at t y ≡ pos 0) e (sym (s.0.reads y) ∙ v.0))
    (λ q. entries_from_rows columns slots s.1 y v.1 k q)
    (Contains-cons_cases k i columns m)

-- where the rows of all slots but c are 0, the entry at a coordinate is, unless c is its slot
pub entry_or_slot : (columns : List ℕ) (ls : List Column) (c : Column) (bs : List Column) →
    AreSlots columns (ls ++ c ∷ bs) → (y : Vector) → RowsVanish (ls ++ bs) y →
    (k : ℕ) → Contains columns k → (at k y ≡ pos 0) ⊎ IsSlot k c
entry_or_slot [] ls c bs s y v k m = absurd (Contains-nil k m)
entry_or_slot (i ∷ columns) [] c bs s y v k m =
    ⊎_elim (λ e. inr (subst (λ t. IsSlot t c) e s.0)) (λ q. inl (entries_from_rows columns bs s.1 y v k q))
    (Contains-cons_cases k i columns m)
entry_or_slot (i ∷ columns) (l ∷ ls) c bs s y v k m =
    ⊎_elim (λ e. inl (subst (λ t. at t y ≡ pos 0) e (sym (s.0.reads y) ∙ v.0)))
    (λ q. entry_or_slot columns ls c bs s.1 y v.1 k q)
    (Contains-cons_cases k i columns m)

module _ {n : ℕ} {rows : List Vector} {columns : List ℕ} {D : ℤ} where
  -- a vector at which all rows are 0, and that is 0 at the coordinates left, is zero
  pub zero_from_left : {slots rest : List Column} → LeavesSlots n rows columns D slots rest → (y : Vector) →
      length y ≡ n → Vanish rows y → ((j : ℕ) → Contains columns j → at j y ≡ pos 0) → IsZero y
  zero_from_left {slots} {rest} s y l v h =
      let left = rows_from_entries columns slots s.slots_of y h in
      let others = columns_from_vanish rest y ((s.same y l).1 v) in
      let all = all_both (λ b. b.row · y ≡ pos 0) slots rest left others in
      zero_by_forms y (λ g. zero_where_rows s.frame y (l, tt) all g)

  -- ---- the dual vector of a slot
  module _ {rest : List Column} (ls : List Column) (c : Column) (bs : List Column) (j : ℕ) (o : IsSlot j c)
      (s : LeavesSlots n rows columns D (ls ++ c ∷ bs) rest) where
    slot_frame : IsFrame n D (c ∷ (ls ++ bs) ++ rest)
    slot_frame =
        subst (λ t. IsFrame n D (c ∷ t)) (sym (append_assoc ls bs rest))
        (frame_out ls c (bs ++ rest) (subst (IsFrame n D) (append_assoc ls (c ∷ bs) rest) s.frame))

    slot_zeros : RowsVanish ((ls ++ bs) ++ rest) c.dual
    slot_zeros = rows_vanish_at c ((ls ++ bs) ++ rest) slot_frame.duals.1

    pub slot_width : length c.dual ≡ n
    slot_width = slot_frame.inside.0.0

    pub slot_value : at j c.dual ≡ D
    slot_value = sym (o.reads c.dual) ∙ slot_frame.duals.0

    pub slot_vanish : Vanish rows c.dual
    slot_vanish =
        let others = all_right (λ b. b.row · c.dual ≡ pos 0) (ls ++ bs) rest slot_zeros in
        (s.same c.dual slot_width).0 (vanish_from_columns rest c.dual others)

    -- a slot has one coordinate
    one_coordinate : (k : ℕ) → k ≢ j → IsSlot k c → ⊥
    one_coordinate k d q = by (less_or_equal j k)
      where
        same : at k c.dual ≡ D
        same = sym (q.reads c.dual) ∙ slot_frame.duals.0

        by : (j < k) ⊎ ((k < j) ⊎ (j ≡ k)) → ⊥
        by (inl h) = slot_frame.nonzero (sym same ∙ o.beyond k h)
        by (inr (inl h)) = slot_frame.nonzero (sym slot_value ∙ q.beyond j h)
        by (inr (inr e)) = d (sym e)

    pub slot_elsewhere : (k : ℕ) → Contains columns k → k ≢ j → at k c.dual ≡ pos 0
    slot_elsewhere k m d =
        let others = all_left (λ b. b.row · c.dual ≡ pos 0) (ls ++ bs) rest slot_zeros in
        ⊎_elim (λ e. e) (λ q. absurd (one_coordinate k d q))
        (entry_or_slot columns ls c bs s.slots_of c.dual others k m)
