-- The descent along given rows: from each lexicographically feasible cobasis one is reached in which no column is
-- negative on them, at the first of the rows that is not 0 in the column.
use Rattle.std.proofs.Common.{◌⊎◌, inl, inr, ⊎_elim, ℕ, List, neg_ℤ, map, refl}
use Rattle.std.specs.List.{Contains}
use Rattle.poly_model.specs.Spaces.{Space}
use Rattle.poly_model.specs.Dictionaries.{Table}
use Rattle.poly_model.specs.LexOrder.{IsNonnegative, IsPositive, rows_in}
use Rattle.poly_model.specs.Tree.{IsRowDictionary, Leaves, IsNeighbour, exchanged_key}
use Rattle.linear_laws.proofs.Signs.{minus_negative}
use Rattle.tree_laws.proofs.LexLemmas.{values_nonnegative, positive_value, positive_or_not}
use Rattle.tree_laws.proofs.FirstMembers.{IsFirst, first_with}
use Rattle.tree_laws.proofs.Least.{some_leaves}
use Rattle.tree_laws.proofs.Neighbours.{key_entry, neighbour_exchanges, neighbour_dictionary, neighbour_feasible}
use Rattle.tree_laws.proofs.Falls.{falls}
use Rattle.tree_laws.proofs.Chains.{State, IsLower, by_falls}

module _ (space : Space) (root : List ℕ) (home : Table) (h : IsRowDictionary space root home) (qs : List ℕ)
    (rows : (q : ℕ) → Contains qs q → Contains (rows_in space.labels) q) where
  -- no column is negative on the rows
  abbrev pub IsUpOn : State space root → Type 0
  IsUpOn d = (c : ℕ) → Contains d.key c → IsNonnegative (map (λ q. d.table.entry q c) qs)

  module _ (d : State space root) where
    -- the first of the rows that is not 0 in the column of s is negative there
    abbrev IsDown : ℕ → Type 0
    IsDown s = IsPositive (map (λ q. neg_ℤ (d.table.entry q s)) qs)

    some_leaving : (s : ℕ) → Contains d.key s → IsDown s → (r : ℕ) × Leaves space.labels root d.key d.table s r
    some_leaving s c p =
        let w = positive_value (λ q. neg_ℤ (d.table.entry q s)) qs p in
        let l = minus_negative (d.table.entry w.0 s) w.2 in
        some_leaves space root d.key d.table s w.0
        (record {
          row = rows w.0 w.1;
          outside = λ i. key_entry space d.key d.table d.feasible.dictionary w.0 s i c l;
        })
        l

    -- the neighbour in that column stands below
    lower : (s : ℕ) → Contains d.key s → IsDown s → (r : ℕ) → Leaves space.labels root d.key d.table s r →
        (e : State space root) × IsLower space root qs e d
    lower s c p r l =
        let new = exchanged_key d.key s r in
        let n : IsNeighbour space.labels root d.key d.table s new =
        record { column = c; r = r; leaves = l; exchange = refl } in
        let u = neighbour_dictionary space root d.key d.table s new d.feasible.dictionary n in
        let g = neighbour_feasible space root d.key d.table s new home u.0 h d.feasible n u.1 in (
          record { key = new; table = u.0; feasible = g },
          falls space root d.key new d.table u.0 d.feasible.dictionary g s r c l.row.outside
              (neighbour_exchanges space root d.key d.table s new d.feasible.dictionary n) qs rows p,
        )

    up_or_lower : IsUpOn d ⊎ ((e : State space root) × IsLower space root qs e d)
    up_or_lower =
        ⊎_elim
        (λ (none : (c : ℕ) → Contains d.key c → IsDown c → ⊥). inl (λ c m.
        ⊎_elim
        (λ (up : IsNonnegative (map (λ q. d.table.entry q c) qs)). up)
        (λ (down : IsDown c). absurd (none c m down))
        (values_nonnegative (λ q. d.table.entry q c) qs)))
        (λ (w : (s : ℕ) × IsFirst IsDown d.key s).
        let l = some_leaving w.0 w.1.member w.1.has in inr (lower w.0 w.1.member w.1.has l.0 l.1))
        (first_with IsDown d.key (λ c _. positive_or_not (map (λ q. neg_ℤ (d.table.entry q c)) qs)))

  pub descend_along : State space root → (e : State space root) × IsUpOn e
  descend_along =
      by_falls space root qs rows (λ d. (e : State space root) × IsUpOn e)
      (λ d. ⊎_elim
      (λ (up : IsUpOn d). inl (d, up))
      (λ (w : (e : State space root) × IsLower space root qs e d). inr (w.0, w.1, λ r. r))
      (up_or_lower d))
