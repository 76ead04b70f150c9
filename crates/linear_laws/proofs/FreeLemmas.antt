-- The coordinates that elimination leaves are exactly the free columns.
use Rattle.std.proofs.Common.{◌≡◌, ◌≢◌, ◌⊎◌, inl, inr, ℕ, ◌+◌, ◌-◌, ◌<◌, ℤ, pos, ◌*ℤ◌, neg_ℤ, List, [], ◌∷◌, ◌++◌, map, length, take, refl, sym, ap, ◌∙◌, subst, arith}
use Rattle.std.proofs.lemmas.List.{length-map}
use Rattle.std.specs.List.{Contains, AllByRecursion}
use Rattle.poly_num.specs.Vectors.{Vector, ◌·◌}
use Rattle.poly_num.proofs.Ring.{lin, mul_zero, zero_mul}
use Rattle.poly_num.proofs.Order.{mul_nonzero}
use Rattle.poly_num.proofs.VectorLemmas.{dot_comm, dot-neg}
use Rattle.poly_model.specs.Independence.{Vanish}
use Rattle.linear_laws.specs.Frames.{Column, expand, RowsVanish}
use Rattle.poly_model.specs.Cones.{at, coordinate}
use Rattle.linear_laws.specs.Slots.{IsSlot, AreSlots}
use Rattle.linear_laws.specs.FreeColumns.{IsFreeColumn, AreFreeColumnsOf, LeavesSlots}
use Rattle.linear_laws.proofs.Members.{ascending_is_one, Contains-first, Contains-later, less_or_equal}
use Rattle.linear_laws.proofs.Columns.{expand-append, expand_rows_zero, columns_from_vanish}
use Rattle.linear_laws.proofs.Entries.{coordinate_reads, within_from_entry}
use Rattle.linear_laws.proofs.Tails.{with_zeros, length-with_zeros, with_zeros-dot, at-with_zeros, with_zeros_beyond, length-take, dot_to_entry}
use Rattle.linear_laws.proofs.LeftSlots.{SlotAt, slot_at, parted_at, slot_width, slot_value, slot_vanish}

neg-dot : (u g : Vector) → map neg_ℤ u · g ≡ neg_ℤ (u · g)
neg-dot u g = dot_comm (map neg_ℤ u) g ∙ dot-neg g u ∙ ap neg_ℤ (dot_comm g u)

-- ---- a slot's coordinate is free: its dual vector says how
module _ {n : ℕ} {rows : List Vector} {columns : List ℕ} {D : ℤ} {rest : List Column} (ls : List Column) (c : Column)
    (bs : List Column) (j : ℕ) (o : IsSlot j c) (s : LeavesSlots n rows columns D (ls ++ c ∷ bs) rest) where
  slot_within : j < length c.dual
  slot_within = within_from_entry c.dual j (λ e. s.frame.nonzero (sym (slot_value ls c bs j o s) ∙ e))

  combines : (gs : List Vector) → Vanish gs c.dual →
      AllByRecursion (λ g. D *ℤ at j g ≡ map neg_ℤ (take j c.dual) · g) gs
  combines [] v = tt
  combines (g ∷ gs) v =
      let e = dot_to_entry j c.dual g slot_within o.beyond in
      let f = ap (λ t. t *ℤ at j g) (slot_value ls c bs j o s) in
      (omega (arith, lin, v.0, dot_comm c.dual g, neg-dot (take j c.dual) g), combines gs v.1)

  pub free_from_slot : IsFreeColumn n rows j
  free_from_slot = record {
    within = subst (λ m. j < m) (slot_width ls c bs j o s) slot_within;
    factor = D;
    weights = map neg_ℤ (take j c.dual);
    nonzero = s.frame.nonzero;
    earlier = length-map (take j c.dual) neg_ℤ ∙ length-take j c.dual slot_within;
    combines = combines rows (slot_vanish ls c bs j o s);
  }

-- ---- a free column is a slot's coordinate
-- a vector that is 0 beyond entry j has an entry j only if j has a slot
slot_from_entry : (columns : List ℕ) (slots : List Column) → AreSlots columns slots → (j : ℕ) (w : Vector) →
    ((i : ℕ) → j < i → at i w ≡ pos 0) → expand slots (coordinate j) w ≢ pos 0 → Contains columns j
slot_from_entry [] [] s j w b n = absurd (n refl)
slot_from_entry [] (c ∷ slots) s j w b n = absurd s
slot_from_entry (i ∷ columns) [] s j w b n = absurd s
slot_from_entry (i ∷ columns) (c ∷ slots) s j w b n =
    by (less_or_equal i j) (λ k. slot_from_entry columns slots s.1 j w b k)
  where
    skip : (coordinate j · c.dual) *ℤ (c.row · w) ≡ pos 0 → expand slots (coordinate j) w ≢ pos 0
    skip z e = n (omega (arith, lin))

    by : (i < j) ⊎ ((j < i) ⊎ (i ≡ j)) → (expand slots (coordinate j) w ≢ pos 0 → Contains columns j) →
        Contains (i ∷ columns) j
    by (inl h) go =
        let e = coordinate_reads j c.dual ∙ s.0.beyond j h in
        let z = ap (λ t. t *ℤ (c.row · w)) e ∙ zero_mul (c.row · w) in
        Contains-later j i columns (go (skip z))
    by (inr (inl h)) go =
        let e = s.0.reads w ∙ b i h in
        let z = ap (λ t. (coordinate j · c.dual) *ℤ t) e ∙ mul_zero (coordinate j · c.dual) in
        Contains-later j i columns (go (skip z))
    by (inr (inr e)) go = subst (λ k. Contains (k ∷ columns) j) (sym e) (Contains-first j columns)

-- the vector with the factor at j and the weights, turned, before it: all rows are 0 there
module _ {n : ℕ} {rows : List Vector} (j : ℕ) (f : IsFreeColumn n rows j) where
  free_vector : Vector
  free_vector = with_zeros (map neg_ℤ f.weights) f.factor (n - (j + 1))

  before : length (map neg_ℤ f.weights) ≡ j
  before = length-map f.weights neg_ℤ ∙ f.earlier

  free_width : length free_vector ≡ n
  unfolding free_vector
  free_width =
      let l = f.within in
      omega (arith, length-with_zeros (map neg_ℤ f.weights) f.factor (n - (j + 1)), before)

  free_entry : at j free_vector ≡ f.factor
  unfolding free_vector
  free_entry =
      subst (λ k. at k (with_zeros (map neg_ℤ f.weights) f.factor (n - (j + 1))) ≡ f.factor) before
      (at-with_zeros (map neg_ℤ f.weights) f.factor (n - (j + 1)))

  free_beyond : (i : ℕ) → j < i → at i free_vector ≡ pos 0
  unfolding free_vector
  free_beyond i l =
      with_zeros_beyond (map neg_ℤ f.weights) f.factor (n - (j + 1)) i (subst (λ k. k < i) (sym before) l)

  free_vanish : (gs : List Vector) → AllByRecursion (λ g. f.factor *ℤ at j g ≡ f.weights · g) gs → Vanish gs free_vector
  unfolding free_vector
  free_vanish [] h = tt
  free_vanish (g ∷ gs) h =
      let e = with_zeros-dot (map neg_ℤ f.weights) f.factor (n - (j + 1)) g in
      let p = ap (λ k. f.factor *ℤ at k g) before in
      (omega (arith, lin, dot_comm g free_vector, neg-dot f.weights g, h.0), free_vanish gs h.1)

  pub slot_from_free : {columns : List ℕ} {D : ℤ} {slots rest : List Column} →
      LeavesSlots n rows columns D slots rest → Contains columns j
  slot_from_free {columns} {D} {slots} {rest} s =
      slot_from_entry columns slots s.slots_of j free_vector free_beyond not_zero
    where
      others : RowsVanish rest free_vector
      others = columns_from_vanish rest free_vector ((s.same free_vector free_width).1 (free_vanish rows f.combines))

      value : D *ℤ f.factor ≡ expand slots (coordinate j) free_vector
      value =
          let a = ap (λ t. D *ℤ t) (coordinate_reads j free_vector ∙ free_entry) in
          let b = s.frame.expands (coordinate j) free_vector (free_width, tt) in
          let c = expand-append (coordinate j) free_vector slots rest in
          omega (arith, lin, expand_rows_zero (coordinate j) free_vector rest others)

      not_zero : expand slots (coordinate j) free_vector ≢ pos 0
      not_zero e = mul_nonzero D f.factor s.frame.nonzero f.nonzero (value ∙ e)

-- ---- both
pub free_are_slots : (n : ℕ) (rows : List Vector) (columns : List ℕ) (D : ℤ) (slots rest : List Column) →
    LeavesSlots n rows columns D slots rest → AreFreeColumnsOf n rows columns
free_are_slots n rows columns D slots rest s = record {
  ascending = s.ascending;
  exactly = λ j. (λ f. slot_from_free j f s, λ m. of_slot j (slot_at columns slots s.slots_of j m));
}
  where
    of_slot : (j : ℕ) → SlotAt columns slots j → IsFreeColumn n rows j
    of_slot j w = free_from_slot w.ls w.c w.bs j w.slot (parted_at s w)

pub free_columns_one_list : (n : ℕ) (rows : List Vector) (xs ys : List ℕ) → AreFreeColumnsOf n rows xs →
    AreFreeColumnsOf n rows ys → xs ≡ ys
free_columns_one_list n rows xs ys a b =
    ascending_is_one xs ys a.ascending b.ascending
    (λ k m. (b.exactly k).0 ((a.exactly k).1 m)) (λ k m. (a.exactly k).0 ((b.exactly k).1 m))
