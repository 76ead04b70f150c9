-- The dictionary of a key with a row in the place of a label, and its lists.
use Rattle.std.proofs.Common.{◌≡◌, ◌≢◌, ℕ, List, ℤ, pos, ◌+ℤ◌, ◌-ℤ◌, ◌*ℤ◌, neg_ℤ, map, sym, ap, subst, ◌∙◌, ⊎_elim, arith}
use Rattle.std.specs.Prelude.{Option}
use Rattle.std.specs.List.{Contains}
use Rattle.std.proofs.lemmas.List.Elements.{All-from_recursion}
use Rattle.poly_num.specs.Vectors.{scale}
use Rattle.poly_num.proofs.Ring.{expand, lin}
use Rattle.poly_model.specs.Spaces.{Space}
use Rattle.poly_model.specs.Dictionaries.{Table, IsCobasis, IsDictionary}
use Rattle.poly_model.specs.LexOrder.{rows_in, gaps, list_of}
use Rattle.poly_model.specs.Tree.{IsRowDictionary, IsRowOutside, exchanged_key, ratio_gaps}
use Rattle.dictionary_laws.specs.Keys.{Exchanges}
use Rattle.dictionary_laws.proofs.Members.{all_from, sum_single}
use Rattle.dictionary_laws.proofs.Directions.{times_zero}
use Rattle.dictionary_laws.proofs.Duals.{distinct}
use Rattle.dictionary_laws.proofs.Values.{own_row}
use Rattle.dictionary_laws.proofs.NewCobasis.{exchanged_cobasis}
use Rattle.dictionary_laws.proofs.Existence.{some_dictionary}
use Rattle.dictionary_laws.specs.Numbers.{IsOwnRow}
use Rattle.tree_laws.proofs.ListSums.{map_same, gaps_of_maps, scale_of_map}
use Rattle.tree_laws.proofs.Numbers.{row_is_label, key_row, composed_entry}
use Rattle.tree_laws.proofs.Levels.{level, places, level_list, list_is_levels, own_level}
use Rattle.tree_laws.proofs.KeyLaw.{key_law_but_one}
use Rattle.tree_laws.proofs.ExchangedKeys.{ascending_exchanged, exchanges, leaving_outside}

-- ---- the dictionary
module _ (space : Space) (key : List ℕ) (t : Table) (d : IsRowDictionary space key t) (s r : ℕ) (c : Contains key s)
    (o : IsRowOutside space.labels key r) (n : t.entry r s ≢ pos 0) where
  new_rows : (k : ℕ) → Contains (exchanged_key key s r) k → Contains (rows_in space.labels) k
  new_rows k m =
      ⊎_elim
      (λ (e : k ≡ r). subst (Contains (rows_in space.labels)) (sym e) o.row)
      (λ (h : Contains key k × (k ≢ s)). key_row space key t d k h.0)
      (Exchanges.only (exchanges key s r d.ascending o.outside) k m)

  new_cobasis : IsCobasis space (exchanged_key key s r)
  new_cobasis =
      exchanged_cobasis space key (exchanged_key key s r) t r s d.dictionary.cobasis d.dictionary.writes
      (record { label = row_is_label space r o.row; outside = o.outside; inside = c; nonzero = n })
      (exchanges key s r d.ascending o.outside)

  pub exchanged_dictionary : (u : Table) × IsRowDictionary space (exchanged_key key s r) u
  exchanged_dictionary = with_table (some_dictionary space (exchanged_key key s r) new_cobasis)
    where
      with_table : (u : Table) × IsDictionary space (exchanged_key key s r) u →
          (u : Table) × IsRowDictionary space (exchanged_key key s r) u
      with_table (u, h) = (
        u,
        record {
          points = d.points;
          ascending = ascending_exchanged key s r d.ascending;
          rows = All-from_recursion (Contains (rows_in space.labels)) (exchanged_key key s r)
              (all_from (Contains (rows_in space.labels)) (exchanged_key key s r) new_rows);
          dictionary = h;
        },
      )

-- ---- its lists
-- the gap of row i over row r in the column of s, at each place
abbrev pub gap : List ℕ → Table → ℕ → ℕ → ℕ → Option ℕ → ℤ
gap key t s r i y = neg_ℤ (t.entry r s) *ℤ level key t i y -ℤ neg_ℤ (t.entry i s) *ℤ level key t r y

pub ratio_gaps_are : (space : Space) (root key : List ℕ) (t : Table) (s r i : ℕ) → (Contains key r → ⊥) →
    (Contains key i → ⊥) → ratio_gaps space.labels root key t s r i ≡ map (gap key t s r i) (places space root)
ratio_gaps_are space root key t s r i n m =
    ap (λ xs. gaps (neg_ℤ (t.entry r s)) xs (neg_ℤ (t.entry i s)) (list_of space.labels root key t r))
    (list_is_levels space root key t i m)
    ∙ ap (λ xs. gaps (neg_ℤ (t.entry r s)) (level_list space root key t i) (neg_ℤ (t.entry i s)) xs)
    (list_is_levels space root key t r n)
    ∙ gaps_of_maps (neg_ℤ (t.entry r s)) (level key t i) (neg_ℤ (t.entry i s)) (level key t r) (places space root)

-- row r solved for the list of the label that went out, and put into the others; D and E are the denominators
solved : (D E x v w r : ℤ) → D *ℤ w ≡ E *ℤ v +ℤ x *ℤ r → w ≡ pos 0 → neg_ℤ x *ℤ r ≡ E *ℤ v
solved D E x v w r h z = let f = times_zero D w z in simp expand (omega (arith, lin))

put_in : (D E x y u t v r : ℤ) → D *ℤ u ≡ E *ℤ t +ℤ y *ℤ r → neg_ℤ x *ℤ r ≡ E *ℤ v →
    (neg_ℤ x *ℤ D) *ℤ u ≡ E *ℤ (neg_ℤ x *ℤ t -ℤ neg_ℤ y *ℤ v)
put_in D E x y u t v r h k =
    let f = simp expand at (ap (λ (z : ℤ). x *ℤ z) h) in
    let g = simp expand at (ap (λ (z : ℤ). y *ℤ z) k) in
    simp expand (omega (arith, lin))

module _ (space : Space) (key new : List ℕ) (t u : Table) (d : IsRowDictionary space key t)
    (e : IsRowDictionary space new u) (s r : ℕ) (c : Contains key s) (o : IsRowOutside space.labels key r)
    (x : Exchanges key new r s) where
  -- the entries at the two labels, there and back
  pub back_entry : t.entry r s *ℤ u.entry s r ≡ t.denominator *ℤ u.denominator
  back_entry =
      sym (sum_single s key (λ k. t.entry r k *ℤ u.entry k r) (distinct space key d.dictionary.cobasis) c
      (λ k m n. times_zero (t.entry r k) (u.entry k r)
      (IsOwnRow.elsewhere (own_row space new e.dictionary.cobasis u e.dictionary.writes k (x.kept k m n)) r x.entering
      (λ f. o.outside (subst (Contains key) (sym f) m)))))
      ∙ sym (composed_entry space key new t u d e r (row_is_label space r o.row) r x.entering)
      ∙ ap (λ (z : ℤ). t.denominator *ℤ z)
      (IsOwnRow.here (own_row space new e.dictionary.cobasis u e.dictionary.writes r x.entering))

  pub leaving_level : (y : Option ℕ) → neg_ℤ (t.entry r s) *ℤ level new u s y ≡ u.denominator *ℤ level key t r y
  leaving_level y =
      solved t.denominator u.denominator (t.entry r s) (level key t r y) (level new u r y) (level new u s y)
      (key_law_but_one space key new t u d e s c x.kept r (row_is_label space r o.row) y)
      (own_level space new u e r x.entering y)

  pub exchanged_level : (i : ℕ) → Contains (rows_in space.labels) i → (y : Option ℕ) →
      (neg_ℤ (t.entry r s) *ℤ t.denominator) *ℤ level new u i y
      ≡ u.denominator *ℤ gap key t s r i y
  exchanged_level i l y =
      put_in t.denominator u.denominator (t.entry r s) (t.entry i s) (level new u i y) (level key t i y)
      (level key t r y) (level new u s y)
      (key_law_but_one space key new t u d e s c x.kept i (row_is_label space i l) y) (leaving_level y)

  module _ (root : List ℕ) where
    pub leaving_list :
        scale (neg_ℤ (t.entry r s)) (list_of space.labels root new u s)
        ≡ scale u.denominator (list_of space.labels root key t r)
    leaving_list =
        ap (scale (neg_ℤ (t.entry r s)))
        (list_is_levels space root new u s (leaving_outside key new r s x c o.outside))
        ∙ scale_of_map (neg_ℤ (t.entry r s)) (level new u s) (places space root)
        ∙ map_same (λ y. neg_ℤ (t.entry r s) *ℤ level new u s y) (λ y. u.denominator *ℤ level key t r y)
        leaving_level (places space root)
        ∙ sym (scale_of_map u.denominator (level key t r) (places space root))
        ∙ ap (scale u.denominator) (sym (list_is_levels space root key t r o.outside))

    pub exchanged_list : (i : ℕ) → IsRowOutside space.labels key i → i ≢ r →
        scale (neg_ℤ (t.entry r s) *ℤ t.denominator) (list_of space.labels root new u i)
        ≡ scale u.denominator (ratio_gaps space.labels root key t s r i)
    exchanged_list i q n =
        ap (scale factor) (list_is_levels space root new u i still_outside)
        ∙ scale_of_map factor (level new u i) (places space root)
        ∙ map_same (λ y. factor *ℤ level new u i y) (λ y. u.denominator *ℤ gap key t s r i y)
        (exchanged_level i q.row) (places space root)
        ∙ sym (scale_of_map u.denominator (gap key t s r i) (places space root))
        ∙ ap (scale u.denominator) (sym (ratio_gaps_are space root key t s r i o.outside q.outside))
      where
        factor : ℤ
        factor = neg_ℤ (t.entry r s) *ℤ t.denominator

        still_outside : Contains new i → ⊥
        still_outside m =
            ⊎_elim n (λ (h : Contains key i × (i ≢ s)). q.outside h.0) (x.only i m)
