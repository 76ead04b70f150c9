-- The lists of given rows, one after the other, over the denominator: a strict order of dictionaries. An exchange in a
-- column that is negative at the first of the rows that is not 0 there goes down in it.
use Rattle.std.proofs.Common.{◌≡◌, ◌≢◌, inl, inr, ℕ, Bool, true, false, cond, List, [], ◌∷◌, ◌++◌, ℤ, pos, ◌+ℤ◌, ◌-ℤ◌, ◌*ℤ◌, neg_ℤ, map, length, length-append, refl, sym, ap, subst, ◌∙◌, arith}
use Rattle.std.specs.Prelude.{Option, Some, ◌==◌}
use Rattle.std.specs.List.{Contains}
use Rattle.std.proofs.lemmas.Bool.{eqb-true}
use Rattle.poly_num.specs.Vectors.{IsZero}
use Rattle.poly_num.proofs.Ring.{expand, lin}
use Rattle.poly_model.specs.Spaces.{Space, is_member}
use Rattle.poly_model.specs.Dictionaries.{Table, sum_over}
use Rattle.poly_model.specs.LexOrder.{IsPositive, gaps, rows_in, outside, within, backwards, listed_at, list_of}
use Rattle.poly_model.specs.Tree.{IsRowDictionary, IsLexFeasible, IsParent}
use Rattle.linear_laws.proofs.Members.{Contains-first, Contains-later}
use Rattle.dictionary_laws.specs.Keys.{Exchanges}
use Rattle.dictionary_laws.proofs.Members.{sum_zero}
use Rattle.dictionary_laws.proofs.Directions.{times_zero, zero_times}
use Rattle.tree_laws.specs.Parents.{lists_of, IsBelow}
use Rattle.tree_laws.proofs.ListSums.{map_same, gaps_of_maps, scale_of_map, zero_from}
use Rattle.tree_laws.proofs.LexLemmas.{positive_scale, positive_not_zero}
use Rattle.tree_laws.proofs.GapLemmas.{gaps-append, positive_in_front, positive_behind, zero_behind, length_values, below_transitive}
use Rattle.tree_laws.proofs.Numbers.{row_is_label, key_row}
use Rattle.tree_laws.proofs.Levels.{level, level_list, places, list_is_levels, own_level}
use Rattle.tree_laws.proofs.KeyLaw.{key_law, key_law_but_one}
use Rattle.tree_laws.proofs.OrderLemmas.{outside_only, backwards_within_only}
use Rattle.tree_laws.proofs.ExchangedKeys.{leaving_outside}
use Rattle.tree_laws.proofs.Neighbours.{neighbour_exchanges}

-- the levels of these rows, one after the other
abbrev pub levels_of : Space → List ℕ → List ℕ → Table → List ℕ → List ℤ
levels_of space root key t [] = []
levels_of space root key t (q ∷ qs) = level_list space root key t q ++ levels_of space root key t qs

abbrev pub level_gaps : Space → List ℕ → List ℕ → Table → List ℕ → Table → List ℕ → List ℤ
level_gaps space root key t new u qs =
    gaps u.denominator (levels_of space root key t qs) t.denominator (levels_of space root new u qs)

pub length_levels : (space : Space) (root key : List ℕ) (t : Table) (new : List ℕ) (u : Table) (qs : List ℕ) →
    length (levels_of space root key t qs) ≡ length (levels_of space root new u qs)
length_levels space root key t new u [] = refl
length_levels space root key t new u (q ∷ qs) =
    length-append (level_list space root key t q) (levels_of space root key t qs)
    ∙ omega (
      arith,
      length_values (level key t q) (level new u q) (places space root),
      length_levels space root key t new u qs,
    )
    ∙ sym (length-append (level_list space root new u q) (levels_of space root new u qs))

-- u stands below t, and v below u
pub falls_twice : (space : Space) (root key new last : List ℕ) (t u v : Table) → IsRowDictionary space key t →
    IsRowDictionary space new u → IsRowDictionary space last v → (qs : List ℕ) →
    IsPositive (level_gaps space root new u last v qs) → IsPositive (level_gaps space root key t new u qs) →
    IsPositive (level_gaps space root key t last v qs)
falls_twice space root key new last t u v d e g qs a b =
    below_transitive v.denominator (levels_of space root last v qs) u.denominator (levels_of space root new u qs)
    t.denominator (levels_of space root key t qs) g.dictionary.writes.positive e.dictionary.writes.positive
    d.dictionary.writes.positive (length_levels space root last v new u qs)
    (length_levels space root new u key t qs) a b

module _ (space : Space) (root key new : List ℕ) (t u : Table) where
  -- the gaps of the rows, from those of the first
  first_gaps : (q : ℕ) (qs : List ℕ) (g : Option ℕ → ℤ) →
      ((y : Option ℕ) → u.denominator *ℤ level key t q y -ℤ t.denominator *ℤ level new u q y ≡ g y) →
      map g (places space root) ++ level_gaps space root key t new u qs ≡ level_gaps space root key t new u (q ∷ qs)
  first_gaps q qs g h =
      ap (λ xs. xs ++ level_gaps space root key t new u qs)
      (sym (gaps_of_maps u.denominator (level key t q) t.denominator (level new u q) (places space root)
      ∙ map_same (λ y. u.denominator *ℤ level key t q y -ℤ t.denominator *ℤ level new u q y) g h (places space root)))
      ∙ sym (gaps-append u.denominator (level_list space root key t q) (levels_of space root key t qs) t.denominator
      (level_list space root new u q) (levels_of space root new u qs)
      (length_values (level key t q) (level new u q) (places space root)))

  module _ (d : IsRowDictionary space key t) (e : IsRowDictionary space new u) where
    -- dictionaries of one key do not differ
    no_gap : (a b s : ℤ) → b ≡ a +ℤ s → s ≡ pos 0 → a -ℤ b ≡ pos 0
    no_gap a b s h z = omega (arith, lin)

    same_gaps : ((k : ℕ) → Contains key k → Contains new k) → (qs : List ℕ) →
        ((q : ℕ) → Contains qs q → Contains (rows_in space.labels) q) → IsZero (level_gaps space root key t new u qs)
    same_gaps same [] rows = tt
    same_gaps same (q ∷ qs) rows =
        subst IsZero (first_gaps q qs (λ y. pos 0) none)
        (zero_behind (map (λ y. pos 0) (places space root)) (level_gaps space root key t new u qs)
        (zero_from (λ y. pos 0) (places space root) (λ y _. refl))
        (same_gaps same qs (λ j c. rows j (Contains-later j q qs c))))
      where
        none : (y : Option ℕ) → u.denominator *ℤ level key t q y -ℤ t.denominator *ℤ level new u q y ≡ pos 0
        none y =
            no_gap (u.denominator *ℤ level key t q y) (t.denominator *ℤ level new u q y)
            (sum_over key (λ c. t.entry q c *ℤ level new u c y))
            (key_law space key new t u d e q (row_is_label space q (rows q (Contains-first q qs))) y)
            (sum_zero key (λ c. t.entry q c *ℤ level new u c y)
            (λ c m. times_zero (t.entry q c) (level new u c y) (own_level space new u e c (same c m) y)))

    pub falls_elsewhere : (qs : List ℕ) → ((q : ℕ) → Contains qs q → Contains (rows_in space.labels) q) →
        IsPositive (level_gaps space root key t new u qs) → new ≢ key
    falls_elsewhere qs rows p same =
        positive_not_zero (level_gaps space root key t new u qs) p
        (same_gaps (λ k c. subst (λ l. Contains l k) (sym same) c) qs rows)

  -- r takes the place of s, whose list is positive then
  module _ (d : IsRowDictionary space key t) (g : IsLexFeasible space root new u) (s r : ℕ) (c : Contains key s)
      (n : Contains key r → ⊥) (x : Exchanges key new r s) where
    entering_list : IsPositive (level_list space root new u s)
    entering_list =
        let o = leaving_outside key new r s x c n in
        subst IsPositive (list_is_levels space root new u s o)
        (g.lists s (record { row = key_row space key t d s c; outside = o }))

    fallen : (a b y v : ℤ) → b ≡ a +ℤ y *ℤ v → a -ℤ b ≡ neg_ℤ y *ℤ v
    fallen a b y v h = simp expand (omega (arith, lin))

    fallen_row : (q : ℕ) → Contains (rows_in space.labels) q → (y : Option ℕ) →
        u.denominator *ℤ level key t q y -ℤ t.denominator *ℤ level new u q y ≡ neg_ℤ (t.entry q s) *ℤ level new u s y
    fallen_row q l y =
        fallen (u.denominator *ℤ level key t q y) (t.denominator *ℤ level new u q y) (t.entry q s) (level new u s y)
        (key_law_but_one space key new t u d g.dictionary s c x.kept q (row_is_label space q l) y)

    pub falls : (qs : List ℕ) → ((q : ℕ) → Contains qs q → Contains (rows_in space.labels) q) →
        IsPositive (map (λ q. neg_ℤ (t.entry q s)) qs) → IsPositive (level_gaps space root key t new u qs)
    falls [] rows p = absurd p
    falls (q ∷ qs) rows (inl p) =
        subst IsPositive
        (first_gaps q qs (λ y. neg_ℤ (t.entry q s) *ℤ level new u s y) (fallen_row q (rows q (Contains-first q qs))))
        (positive_in_front (map (λ y. neg_ℤ (t.entry q s) *ℤ level new u s y) (places space root))
        (level_gaps space root key t new u qs)
        (subst IsPositive (scale_of_map (neg_ℤ (t.entry q s)) (level new u s) (places space root))
        (positive_scale (neg_ℤ (t.entry q s)) (level_list space root new u s) p entering_list)))
    falls (q ∷ qs) rows (inr p) =
        subst IsPositive
        (first_gaps q qs (λ y. neg_ℤ (t.entry q s) *ℤ level new u s y) (fallen_row q (rows q (Contains-first q qs))))
        (positive_behind (map (λ y. neg_ℤ (t.entry q s) *ℤ level new u s y) (places space root))
        (level_gaps space root key t new u qs)
        (zero_from (λ y. neg_ℤ (t.entry q s) *ℤ level new u s y) (places space root)
        (λ y _. zero_times (neg_ℤ (t.entry q s)) (level new u s y) p.0))
        (falls qs (λ j i. rows j (Contains-later j q qs i)) p.1))

-- ---- the list of a row of the root is its levels, wherever the row is
module _ (space : Space) (root key : List ℕ) (t : Table) where
  root_listed : (q k : ℕ) → k ≢ q → listed_at key t q k ≡ level key t q (Some k)
  root_listed q k n = by (k == q) refl (is_member k key)
    where
      minus : (m : Bool) (e : ℤ) → cond m (neg_ℤ e) (pos 0) ≡ pos 0 -ℤ cond m e (pos 0)
      minus true e = omega (arith, lin)
      minus false e = omega (arith, lin)

      by : (b : Bool) → (k == q) ≡ b → (m : Bool) →
          cond b t.denominator (cond m (neg_ℤ (t.entry q k)) (pos 0)) ≡
          cond b t.denominator (pos 0) -ℤ cond m (t.entry q k) (pos 0)
      by true e m = absurd (n (eqb-true k q e))
      by false e m = minus m (t.entry q k)

  root_list : (q : ℕ) → Contains root q → list_of space.labels root key t q ≡ level_list space root key t q
  root_list q m =
      ap (λ xs. t.constant q ∷ xs)
      (rows (outside space.labels root) (λ k c e. (outside_only space root k c).1 (subst (Contains root) (sym e) m)))
    where
      rows : (ks : List ℕ) → ((k : ℕ) → Contains ks k → k ≢ q) →
          map (listed_at key t q) ks ≡ map (level key t q) (map Some ks)
      rows [] n = refl
      rows (k ∷ ks) n =
          let a = root_listed q k (n k (Contains-first k ks)) in
          let b = rows ks (λ j c. n j (Contains-later j k ks c)) in
          cc

  pub root_lists : (qs : List ℕ) → ((q : ℕ) → Contains qs q → Contains root q) →
      lists_of space root key t qs ≡ levels_of space root key t qs
  root_lists [] h = refl
  root_lists (q ∷ qs) h =
      let a = root_list q (h q (Contains-first q qs)) in
      let b = root_lists qs (λ j c. h j (Contains-later j q qs c)) in
      cc

-- ---- a parent is below
module _ (space : Space) (root key parent : List ℕ) (t u : Table) (d : IsRowDictionary space key t)
    (g : IsLexFeasible space root parent u) (p : IsParent space.labels root key t parent) where
  pub parent_falls : IsPositive (level_gaps space root key t parent u (backwards (within space.labels root)))
  parent_falls =
      falls space root key parent t u d g p.s p.neighbour.r p.enters.column p.neighbour.leaves.row.outside
      (neighbour_exchanges space root key t p.s parent d p.neighbour) (backwards (within space.labels root))
      (λ q c. (backwards_within_only space root q c).0) p.enters.may

  pub parent_is_below : IsBelow space root key t parent u
  parent_is_below =
      subst (λ xs. IsPositive (gaps u.denominator xs t.denominator (lists_of space root parent u
      (backwards (within space.labels root)))))
      (sym (root_lists space root key t (backwards (within space.labels root)) rows))
      (subst (λ xs. IsPositive (gaps u.denominator (levels_of space root key t (backwards (within space.labels root)))
      t.denominator xs))
      (sym (root_lists space root parent u (backwards (within space.labels root)) rows)) parent_falls)
    where
      rows : (q : ℕ) → Contains (backwards (within space.labels root)) q → Contains root q
      rows q c = (backwards_within_only space root q c).1
