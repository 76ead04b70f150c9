-- The tables of one key have the same numbers: rows, neighbours and parents are the same by each of them.
use Rattle.std.proofs.Common.{◌≡◌, ℕ, Bool, true, false, cond, List, [], ◌∷◌, ◌++◌, ℤ, pos, neg_ℤ, map, refl, sym, ap, subst, ◌∙◌}
use Rattle.std.specs.Prelude.{◌<ℤ◌, ◌==◌}
use Rattle.std.proofs.lemmas.List.{map-append}
use Rattle.std.specs.List.{Contains}
use Rattle.poly_model.specs.Spaces.{Space, is_member}
use Rattle.poly_model.specs.Dictionaries.{Table}
use Rattle.poly_model.specs.LexOrder.{IsNonnegative, IsPositive, gaps, rows_in, outside, within, backwards, listed_at, list_of}
use Rattle.poly_model.specs.Tree.{IsRowDictionary, Leaves, IsNeighbour, Enters, IsParent, ratio_gaps}
use Rattle.dictionary_laws.specs.Numbers.{Agree}
use Rattle.dictionary_laws.proofs.Filters.{filter_only, member_only}
use Rattle.dictionary_laws.proofs.SameLabels.{one_dictionary}
use Rattle.linear_laws.proofs.Members.{Contains-first, Contains-later}
use Rattle.tree_laws.proofs.Numbers.{row_is_label}

map_backwards : (f g : ℕ → ℤ) (ks : List ℕ) → ((k : ℕ) → Contains ks k → f k ≡ g k) →
    map f (backwards ks) ≡ map g (backwards ks)
map_backwards f g [] h = refl
map_backwards f g (k ∷ ks) h =
    map-append f (backwards ks) (k ∷ [])
    ∙ ap (λ xs. xs ++ f k ∷ []) (map_backwards f g ks (λ j c. h j (Contains-later j k ks c)))
    ∙ ap (λ (x : ℤ). map g (backwards ks) ++ x ∷ []) (h k (Contains-first k ks))
    ∙ sym (map-append g (backwards ks) (k ∷ []))

module _ (space : Space) (root key : List ℕ) (t u : Table) (d : IsRowDictionary space key t)
    (e : IsRowDictionary space key u) where
  pub agree : Agree space key t u
  agree = one_dictionary space key key t u (record { there = λ k c. c; back = λ k c. c }) d.dictionary e.dictionary

  pub same_entry : (i s : ℕ) → Contains (rows_in space.labels) i → Contains key s → t.entry i s ≡ u.entry i s
  same_entry i s l c = Agree.entries agree i s (row_is_label space i l) c

  pub same_list : (i : ℕ) → Contains (rows_in space.labels) i →
      list_of space.labels root key t i ≡ list_of space.labels root key u i
  same_list i l =
      ap (λ (x : ℤ). x ∷ map (listed_at key t i) (outside space.labels root))
      (Agree.constants agree d.points i (row_is_label space i l))
      ∙ ap (λ xs. u.constant i ∷ xs) (rows (outside space.labels root))
    where
      by : (k : ℕ) (b m : Bool) → is_member k key ≡ m →
          cond b t.denominator (cond m (neg_ℤ (t.entry i k)) (pos 0))
          ≡ cond b u.denominator (cond m (neg_ℤ (u.entry i k)) (pos 0))
      by k true m f = Agree.denominator agree
      by k false true f = ap neg_ℤ (same_entry i k l (member_only k key f))
      by k false false f = refl

      rows : (ks : List ℕ) → map (listed_at key t i) ks ≡ map (listed_at key u i) ks
      rows [] = refl
      rows (k ∷ ks) =
          let a : listed_at key t i k ≡ listed_at key u i k = by k (k == i) (is_member k key) refl in
          let b = rows ks in cc

  pub same_gaps : (s r i : ℕ) → Contains key s → Contains (rows_in space.labels) r → Contains (rows_in space.labels) i →
      ratio_gaps space.labels root key t s r i ≡ ratio_gaps space.labels root key u s r i
  same_gaps s r i c l m =
      ap (λ (x : ℤ). gaps (neg_ℤ x) (list_of space.labels root key t i) (neg_ℤ (t.entry i s))
      (list_of space.labels root key t r))
      (same_entry r s l c)
      ∙ ap (λ xs. gaps (neg_ℤ (u.entry r s)) xs (neg_ℤ (t.entry i s)) (list_of space.labels root key t r))
      (same_list i m)
      ∙ ap (λ (x : ℤ). gaps (neg_ℤ (u.entry r s)) (list_of space.labels root key u i) (neg_ℤ x)
      (list_of space.labels root key t r))
      (same_entry i s m c)
      ∙ ap (λ xs. gaps (neg_ℤ (u.entry r s)) (list_of space.labels root key u i) (neg_ℤ (u.entry i s)) xs)
      (same_list r l)

  pub leaves_too : (s r : ℕ) → Contains key s → Leaves space.labels root key t s r → Leaves space.labels root key u s r
  leaves_too s r c l = record {
    row = l.row;
    negative = subst (λ (x : ℤ). x <ℤ pos 0) (same_entry r s l.row.row c) l.negative;
    least = λ i o h. subst IsNonnegative (same_gaps s r i c l.row.row o.row)
        (l.least i o (subst (λ (x : ℤ). x <ℤ pos 0) (sym (same_entry i s o.row c)) h));
  }

  pub neighbour_too : (s : ℕ) (new : List ℕ) → IsNeighbour space.labels root key t s new →
      IsNeighbour space.labels root key u s new
  neighbour_too s new n =
      record { column = n.column; r = n.r; leaves = leaves_too s n.r n.column n.leaves; exchange = n.exchange }

  same_column : (s : ℕ) → Contains key s → map (λ q. neg_ℤ (t.entry q s)) (backwards (within space.labels root))
      ≡ map (λ q. neg_ℤ (u.entry q s)) (backwards (within space.labels root))
  same_column s c =
      map_backwards (λ q. neg_ℤ (t.entry q s)) (λ q. neg_ℤ (u.entry q s)) (within space.labels root)
      (λ q m. ap neg_ℤ (same_entry q s (filter_only (λ k. is_member k root) (rows_in space.labels) q m).0 c))

  pub enters_too : (s : ℕ) → Enters space.labels root key t s → Enters space.labels root key u s
  enters_too s x = record {
    column = x.column;
    may = subst IsPositive (same_column s x.column) x.may;
    least = λ k c m. x.least k c (subst IsPositive (sym (same_column k c)) m);
  }

  pub parent_too : (parent : List ℕ) → IsParent space.labels root key t parent → IsParent space.labels root key u parent
  parent_too parent p =
      record { s = p.s; enters = enters_too p.s p.enters; neighbour = neighbour_too p.s parent p.neighbour }
