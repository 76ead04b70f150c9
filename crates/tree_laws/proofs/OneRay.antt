-- A ray is shown along one column of one key at most.
use Rattle.std.proofs.Common.{◌≡◌, ◌≢◌, ⊎_elim, ℕ, List, ℤ, pos, ◌+ℤ◌, ◌*ℤ◌, neg_ℤ, sym, subst, ◌∙◌, arith}
use Rattle.std.specs.Prelude.{Option}
use Rattle.std.specs.List.{Contains}
use Rattle.std.proofs.lemmas.Bool.{cases_eq}
use Rattle.poly_num.specs.Vectors.{Vector, ◌·◌}
use Rattle.poly_num.proofs.Ring.{expand, lin}
use Rattle.poly_num.proofs.Order.{positive_nonzero}
use Rattle.poly_model.specs.Spaces.{Space}
use Rattle.poly_model.specs.Dictionaries.{Table}
use Rattle.poly_model.specs.LexOrder.{IsPositive, rows_in}
use Rattle.poly_model.specs.Tree.{IsRowDictionary, IsLexFeasible, ShowsRay, IsAlongColumn}
use Rattle.linear_laws.proofs.Members.{ascending_is_one}
use Rattle.dictionary_laws.proofs.Directions.{times_zero}
use Rattle.tree_laws.proofs.ListSums.{positive_along}
use Rattle.tree_laws.proofs.LexLemmas.{values_not_both}
use Rattle.tree_laws.proofs.Numbers.{row_is_label, key_row}
use Rattle.tree_laws.proofs.Levels.{level, places, list_is_levels, own_level}
use Rattle.tree_laws.proofs.KeyLaw.{key_law_but_one}
use Rattle.tree_laws.proofs.Neighbours.{levels_nonnegative}
use Rattle.tree_laws.proofs.RayValues.{positive_entry}
use Rattle.tree_laws.proofs.ZeroRows.{zero_rows, zero_rows_only, zero_rows_has, columns_up}
use Rattle.tree_laws.proofs.SharedRows.{shared_rows}

opposite : (p e x v w : ℤ) → p ≡ e *ℤ w +ℤ x *ℤ v → p ≡ pos 0 → x *ℤ v ≡ e *ℤ neg_ℤ w
opposite p e x v w h z = simp expand (omega (arith, lin))

module _ (space : Space) (root : List ℕ) (home : Table) (h : IsRowDictionary space root home) (y : Vector) where
  module _ (key other : List ℕ) (t u : Table) (s r : ℕ) (f : IsLexFeasible space root key t)
      (g : IsLexFeasible space root other u) (shown : ShowsRay space.labels root key t s)
      (shows : ShowsRay space.labels root other u r) (along : IsAlongColumn space key s y)
      (there : IsAlongColumn space other r y) where
    -- the other labels are 0 at y, so they are in both keys
    others_in : (k : ℕ) → Contains key k → k ≢ s → Contains other k
    others_in k c n =
        shared_rows space root key other home t u h f g (zero_rows space root y)
        (λ q i. (zero_rows_only space root y q i).0)
        (columns_up space root key t f.dictionary s shown.column y along shown)
        (columns_up space root other u g.dictionary r shows.column y there shows) k
        (zero_rows_has space root y k (key_row space key t f.dictionary k c) (along.nothing k c n)) c

    -- r is not among them, as it is positive at y
    not_in : s ≢ r → Contains key r → ⊥
    not_in n c = positive_nonzero (space.form r · y) there.here (along.nothing r c (λ e. n (sym e)))

    r_row : Contains (rows_in space.labels) r
    r_row = key_row space other u g.dictionary r shows.column

    opposite_lists : (x : Option ℕ) →
        t.entry r s *ℤ level other u s x ≡ u.denominator *ℤ neg_ℤ (level key t r x)
    opposite_lists x =
        opposite (t.denominator *ℤ level other u r x) u.denominator (t.entry r s) (level other u s x) (level key t r x)
        (key_law_but_one space key other t u f.dictionary g.dictionary s shown.column others_in r
        (row_is_label space r r_row) x)
        (times_zero t.denominator (level other u r x) (own_level space other u g.dictionary r shows.column x))

    -- the list of s at the other key would be minus that of r at the key, up to positive factors
    clash : (Contains other s → ⊥) → ⊥
    clash o =
        values_not_both (level key t r) (places space root) (levels_nonnegative space root key t f r r_row)
        (positive_along (t.entry r s) u.denominator
        (positive_entry space key t f.dictionary s shown.column y along r r_row there.here)
        g.dictionary.dictionary.writes.positive (level other u s) (λ x. neg_ℤ (level key t r x)) opposite_lists
        (places space root)
        (subst IsPositive (list_is_levels space root other u s o)
        (g.lists s (record { row = key_row space key t f.dictionary s shown.column; outside = o }))))

  module _ (key other : List ℕ) (t u : Table) (s r : ℕ) (f : IsLexFeasible space root key t)
      (g : IsLexFeasible space root other u) (shown : ShowsRay space.labels root key t s)
      (shows : ShowsRay space.labels root other u r) (along : IsAlongColumn space key s y)
      (there : IsAlongColumn space other r y) where
    pub one_column : s ≡ r
    one_column =
        ⊎_elim
        (λ (e : s ≡ r). e)
        (λ (n : s ≡ r → ⊥). absurd (clash key other t u s r f g shown shows along there
        (not_in other key u t r s g f shows shown there along (λ e. n (sym e)))))
        (cases_eq s r)

    pub one_key : key ≡ other
    one_key = ascending_is_one key other f.dictionary.ascending g.dictionary.ascending to from
      where
        to : (k : ℕ) → Contains key k → Contains other k
        to k c =
            ⊎_elim
            (λ (e : k ≡ s). subst (Contains other) (sym (e ∙ one_column)) shows.column)
            (λ (n : k ≡ s → ⊥). others_in key other t u s r f g shown shows along there k c n)
            (cases_eq k s)

        from : (k : ℕ) → Contains other k → Contains key k
        from k c =
            ⊎_elim
            (λ (e : k ≡ r). subst (Contains key) (sym (e ∙ sym one_column)) shown.column)
            (λ (n : k ≡ r → ⊥). others_in other key u t r s g f shows shown there along k c n)
            (cases_eq k r)
