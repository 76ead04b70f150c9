-- A point is shown at one key at most: two keys that show it have the same rows, from the last of the order on.
use Rattle.std.proofs.Common.{◌≡◌, ◌⊎◌, inl, inr, ⊎_elim, ℕ, List, [], ◌∷◌, ◌++◌, pos, refl, sym, subst, ◌∙◌}
use Rattle.std.specs.List.{Contains}
use Rattle.std.proofs.lemmas.List.{append_assoc}
use Rattle.std.proofs.lemmas.List.Elements.{Contains-append_cases}
use Rattle.poly_num.specs.Vectors.{Vector, ◌·◌}
use Rattle.poly_model.specs.Spaces.{Space}
use Rattle.poly_model.specs.Dictionaries.{Table}
use Rattle.poly_model.specs.LexOrder.{rows_in, order, Precedes}
use Rattle.poly_model.specs.Tree.{IsRowDictionary, ShowsPoint, IsAtPoint}
use Rattle.linear_laws.proofs.Members.{Contains-nil, Contains-first, ascending_is_one}
use Rattle.dictionary_laws.proofs.Members.{contains_or, contains_cases}
use Rattle.dictionary_laws.proofs.Duals.{Dual, dual_of}
use Rattle.tree_laws.proofs.ListOrder.{before_across}
use Rattle.tree_laws.proofs.Numbers.{key_row}
use Rattle.tree_laws.proofs.OrderLemmas.{order_has}
use Rattle.tree_laws.proofs.PointValues.{row_at_direction, is_key_point, zero_constant}

module _ (space : Space) (root : List ℕ) (y : Vector) where
  -- a row of the key is one of the other key, if those after it that are in the other are in the key
  module _ (key other : List ℕ) (t u : Table) (d : IsRowDictionary space key t) (e : IsRowDictionary space other u)
      (shown : ShowsPoint space.labels root other u) (at : IsAtPoint space key y)
      (there : IsAtPoint space other y) where
    one_way : (pre xs : List ℕ) (x : ℕ) → order space.labels root ≡ pre ++ x ∷ xs →
        ((k : ℕ) → Contains xs k → Contains other k → Contains key k) → Contains key x → Contains other x
    one_way pre xs x is later c =
        ⊎_elim (λ (m : Contains other x). m) (λ (n : Contains other x → ⊥). absurd (outside n)) (contains_or other x)
      where
        row : Contains (rows_in space.labels) x
        row = key_row space key t d x c

        outside : (Contains other x → ⊥) → ⊥
        outside n = with_dual (dual_of space key d.dictionary.cobasis x c)
          where
            with_dual : Dual space [] key x → ⊥
            with_dual z = z.here (row_at_direction space other u e x row z.vector z.direction each)
              where
                behind : (k : ℕ) → Contains other k → (k ≡ x) ⊎ Contains xs k →
                    (u.entry x k ≡ pos 0) ⊎ (space.form k · z.vector ≡ pos 0)
                behind k m (inl q) = absurd (n (subst (Contains other) q m))
                behind k m (inr q) = inr (z.elsewhere k (later k q m) (λ r. n (subst (Contains other) r m)))

                place : (k : ℕ) → Contains other k → Contains pre k ⊎ Contains (x ∷ xs) k →
                    (u.entry x k ≡ pos 0) ⊎ (space.form k · z.vector ≡ pos 0)
                place k m (inl q) =
                    inl (shown x (record { row = row; outside = n })
                    (zero_constant space other u e y (is_key_point space other y there) x row (at.nothing x c)) k m
                    (subst (λ (l : List ℕ). Precedes l k x) (sym is)
                    (before_across pre (x ∷ xs) k x q (Contains-first x xs))))
                place k m (inr q) = behind k m (contains_cases x xs k q)

                each : (k : ℕ) → Contains other k → (u.entry x k ≡ pos 0) ⊎ (space.form k · z.vector ≡ pos 0)
                each k m =
                    place k m (Contains-append_cases pre (x ∷ xs) k
                    (subst (λ (l : List ℕ). Contains l k) is (order_has space root k (key_row space other u e k m))))

  module _ (key other : List ℕ) (t u : Table) (d : IsRowDictionary space key t) (e : IsRowDictionary space other u)
      (shown : ShowsPoint space.labels root key t) (shows : ShowsPoint space.labels root other u)
      (at : IsAtPoint space key y) (there : IsAtPoint space other y) where
    -- the two keys have the same rows of each end of the order
    agree : (pre xs : List ℕ) → order space.labels root ≡ pre ++ xs → (k : ℕ) → Contains xs k →
        (Contains key k → Contains other k) × (Contains other k → Contains key k)
    agree pre [] is k m = absurd (Contains-nil k m)
    agree pre (x ∷ xs) is k m =
        let rec : (k : ℕ) → Contains xs k → (Contains key k → Contains other k) × (Contains other k → Contains key k) =
        agree (pre ++ x ∷ []) xs (is ∙ sym (append_assoc pre (x ∷ []) xs)) in
        ⊎_elim
        (λ (q : k ≡ x). subst (λ k. (Contains key k → Contains other k) × (Contains other k → Contains key k)) (sym q) (
          one_way key other t u d e shows at there pre xs x is (λ k c. (rec k c).1),
          one_way other key u t e d shown there at pre xs x is (λ k c. (rec k c).0),
        ))
        (λ (c : Contains xs k). rec k c)
        (contains_cases x xs k m)

    pub one_key : key ≡ other
    one_key =
        ascending_is_one key other d.ascending e.ascending
        (λ k m. (agree [] (order space.labels root) refl k (order_has space root k (key_row space key t d k m))).0 m)
        (λ k m. (agree [] (order space.labels root) refl k (order_has space root k (key_row space other u e k m))).1 m)
