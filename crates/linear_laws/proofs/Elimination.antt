-- Elimination: row after row is taken into a frame, which says of each row whether it is new or follows.
use Rattle.std.proofs.Common.{◌≡◌, ◌≢◌, ◌⊎◌, inl, inr, Bool, true, false, ℕ, ◌+◌, ℤ, pos, ◌*ℤ◌, List, [], ◌∷◌, ◌++◌, map, length, append_assoc, length-append, refl, sym, ap, ◌∙◌, subst, arith}
use lib.IntN.{ℤ_discrete}
use Rattle.std.proofs.lemmas.List.{append-nil, map-append, length-map}
use Rattle.poly_num.specs.Vectors.{Vector, ◌·◌, scale}
use Rattle.poly_model.specs.Independence.{Vanish, Follows, IsNew, IsFirstBasis, taken}
use Rattle.linear_laws.specs.Frames.{moved, Column, rows_of, IsFrame, RowsVanish, EntriesVanish}
use Rattle.linear_laws.proofs.AllLemmas.{all_right}
use Rattle.linear_laws.proofs.Columns.{frame_out, frame_in, rows_vanish_at, vanish_from_columns, columns_from_vanish, zero_in_parts}
use Rattle.linear_laws.proofs.Coordinates.{coordinates, coordinates_frame, length-coordinates}
use Rattle.linear_laws.proofs.SlotLemmas.{HaveSlots, coordinates_have_slots, slots_kept}
use Rattle.linear_laws.proofs.Pivots.{rows-moved, frame_pivoted}

-- where elimination stands after the rows `before`, the last of them first: a frame of the coordinates
-- that are left (`slots`) and of the rows
pub record Reached (n : ℕ) (before : List Vector) : Type 0 where
  pub D : ℤ
  pub slots : List Column
  pub rest : List Column
  pub frame : IsFrame n D (slots ++ rest)
  pub coordinates : HaveSlots slots
  pub rows : rows_of rest ≡ before
  pub count : length slots + length before ≡ n

pub start : (n : ℕ) → Reached n []
start n = record {
  D = pos 1;
  slots = coordinates n;
  rest = [];
  frame = subst (IsFrame n (pos 1)) (sym (append-nil (coordinates n))) (coordinates_frame n);
  coordinates = coordinates_have_slots n;
  rows = refl;
  count = omega (arith, length-coordinates n);
}

module _ {n : ℕ} {before : List Vector} (r : Reached n before) where
  pub rest_from_vanish : (y : Vector) → Vanish before y → RowsVanish r.rest y
  rest_from_vanish y v = columns_from_vanish r.rest y (subst (λ gs. Vanish gs y) (sym r.rows) v)

  pub vanish_from_rest : (y : Vector) → RowsVanish r.rest y → Vanish before y
  vanish_from_rest y v = subst (λ gs. Vanish gs y) r.rows (vanish_from_columns r.rest y v)

-- ---- the first column in which g is not 0
pub record Found (g : Vector) (cs : List Column) : Type 0 where
  pub ls : List Column
  pub c : Column
  pub bs : List Column
  pub is : cs ≡ ls ++ c ∷ bs
  pub earlier : EntriesVanish g ls
  pub here : g · c.dual ≢ pos 0

pub scan : (g : Vector) (cs : List Column) → EntriesVanish g cs ⊎ Found g cs
scan g [] = inl tt
scan g (c ∷ cs) = by (ℤ_discrete (g · c.dual) (pos 0)) (scan g cs)
  where
    by : Dec (g · c.dual ≡ pos 0) → EntriesVanish g cs ⊎ Found g cs → EntriesVanish g (c ∷ cs) ⊎ Found g (c ∷ cs)
    by (no h) s = inr (record { ls = []; c = c; bs = cs; is = refl; earlier = tt; here = h })
    by (yes e) (inl s) = inl (e, s)
    by (yes e) (inr f) = inr (record {
      ls = c ∷ f.ls;
      c = f.c;
      bs = f.bs;
      is = ap (λ t. c ∷ t) f.is;
      earlier = (e, f.earlier);
      here = f.here;
    })

-- ---- one row
module _ {n : ℕ} {before : List Vector} (g : Vector) (r : Reached n before) where
  found_in_front : (f : Found g r.slots) → IsFrame n r.D (f.c ∷ (f.ls ++ f.bs) ++ r.rest)
  found_in_front f =
      let parted = ap (λ t. t ++ r.rest) f.is ∙ append_assoc f.ls (f.c ∷ f.bs) r.rest in
      subst (λ t. IsFrame n r.D (f.c ∷ t)) (sym (append_assoc f.ls f.bs r.rest))
      (frame_out f.ls f.c (f.bs ++ r.rest) (subst (IsFrame n r.D) parted r.frame))

  -- the row takes the place of the first slot at which it is not 0
  pub take_row : Found g r.slots → Reached n (g ∷ before)
  take_row f = record {
    D = (g · f.c.dual) *ℤ r.D;
    slots = map other (f.ls ++ f.bs);
    rest = own ∷ map other r.rest;
    frame = frame_in (map other (f.ls ++ f.bs)) own (map other r.rest)
        (subst (λ t. IsFrame n ((g · f.c.dual) *ℤ r.D) (own ∷ t)) (map-append other (f.ls ++ f.bs) r.rest)
        (frame_pivoted g f.c ((f.ls ++ f.bs) ++ r.rest) (found_in_front f) f.here));
    coordinates = slots_kept g f.ls f.c f.bs (subst HaveSlots f.is r.coordinates) f.earlier;
    rows = ap (λ t. g ∷ t) (rows-moved g (g · f.c.dual) f.c.dual r.rest ∙ r.rows);
    count = omega (
      arith,
      r.count,
      ap length f.is,
      length-append f.ls (f.c ∷ f.bs),
      length-append f.ls f.bs,
      length-map (f.ls ++ f.bs) other,
    );
  }
    where
      other : Column → Column
      other = moved g (g · f.c.dual) f.c.dual

      own : Column
      own = record { row = g; dual = scale r.D f.c.dual }

  pub new_row : Found g r.slots → IsNew n before g
  new_row f =
      let k : IsFrame n r.D (f.c ∷ (f.ls ++ f.bs) ++ r.rest) = found_in_front f in
      let all = rows_vanish_at f.c ((f.ls ++ f.bs) ++ r.rest) k.duals.1 in
      let vanish = vanish_from_rest r f.c.dual (all_right (λ b. b.row · f.c.dual ≡ pos 0) (f.ls ++ f.bs) r.rest all) in
      (f.c.dual, k.inside.0.0, vanish, f.here)

  pub follows_row : EntriesVanish g r.slots → Follows n before g
  follows_row h y l v = zero_in_parts r.slots r.rest r.frame g y (l, tt) h (rest_from_vanish r y v)

-- ---- all rows
pub record Eliminated (n : ℕ) (before gs : List Vector) : Type 0 where
  pub marks : List Bool
  pub first : IsFirstBasis n before gs marks
  pub reached : Reached n (taken before gs marks)

pub eliminate : (n : ℕ) (before gs : List Vector) → Reached n before → Eliminated n before gs
eliminate n before [] r = record { marks = []; first = tt; reached = r }
eliminate n before (g ∷ gs) r =
    by (scan g r.slots) (λ u. eliminate n before gs r) (λ f. eliminate n (g ∷ before) gs (take_row g r f))
  where
    by : EntriesVanish g r.slots ⊎ Found g r.slots → (Unit {0} → Eliminated n before gs) →
        (Found g r.slots → Eliminated n (g ∷ before) gs) → Eliminated n before (g ∷ gs)
    by (inl z) skip take =
        let e : Eliminated n before gs = skip tt in
        record { marks = false ∷ e.marks; first = (follows_row g r z, e.first); reached = e.reached }
    by (inr f) skip take =
        let e : Eliminated n (g ∷ before) gs = take f in
        record { marks = true ∷ e.marks; first = (new_row g r f, e.first); reached = e.reached }

pub eliminate_all : (n : ℕ) (gs : List Vector) → Eliminated n [] gs
eliminate_all n gs = eliminate n [] gs (start n)
