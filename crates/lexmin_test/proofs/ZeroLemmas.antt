-- The greatest row among those that are 0 in a column, along the whole order.
use Rattle.std.proofs.Common.{◌≡◌, ◌≢◌, ◌↔◌, ℕ, zero, suc, ℤ, pos, negsuc, Bool, true, false, cond, List, [], ◌∷◌, ◌++◌, map, refl, sym, ap, ◌∙◌, Ordering}
use Rattle.std.specs.List.{filter}
use Rattle.std.specs.Ordering.{int_eq}
use Rattle.std.specs.declared.cmp.Ordering.TheVariants.{Equal, Greater}
use Rattle.poly_num.specs.Signs.{lex_sign_of}
use Rattle.poly_model.specs.Dictionaries.{Table}
use Rattle.poly_model.specs.LexOrder.{outside, within, order, backwards}
use Rattle.dictionary.specs.Views.{Dictionary, table_of}
use Rattle.lex_pivot.proofs.FirstSigns.{greater}
use Rattle.lexmin_test.specs.Zeros.{IsPositiveOnZeros}

-- ---- two lists, one after the other
append_behind : (xs ys zs : List ℕ) → (xs ++ ys) ++ zs ≡ xs ++ (ys ++ zs)
append_behind [] ys zs = refl
append_behind (x ∷ xs) ys zs = ap (λ ks. x ∷ ks) (append_behind xs ys zs)

append_none : (xs : List ℕ) → xs ++ [] ≡ xs
append_none [] = refl
append_none (x ∷ xs) = ap (λ ys. x ∷ ys) (append_none xs)

backwards_append : (xs ys : List ℕ) → backwards (xs ++ ys) ≡ backwards ys ++ backwards xs
backwards_append [] ys = sym (append_none (backwards ys))
backwards_append (x ∷ xs) ys =
    ap (λ ks. ks ++ x ∷ []) (backwards_append xs ys) ∙ append_behind (backwards ys) (backwards xs) (x ∷ [])

map_append : (f : ℕ → ℤ) (xs ys : List ℕ) → map f (xs ++ ys) ≡ map f xs ++ map f ys
map_append f [] ys = refl
map_append f (x ∷ xs) ys = ap (λ zs. f x ∷ zs) (map_append f xs ys)

sign_append : (xs ys : List ℤ) → (lex_sign_of xs ≡ Equal → lex_sign_of (xs ++ ys) ≡ lex_sign_of ys)
    × (lex_sign_of xs ≢ Equal → lex_sign_of (xs ++ ys) ≡ lex_sign_of xs)
sign_append [] ys = ((λ e. refl), (λ n. absurd (n refl)))
sign_append (pos zero ∷ xs) ys = sign_append xs ys
sign_append (pos (suc n) ∷ xs) ys = ((λ e. absurd cc), (λ n. refl))
sign_append (negsuc n ∷ xs) ys = ((λ e. absurd cc), (λ n. refl))

-- ---- members that do not count
same_head : (z : ℤ) (u v : List ℤ) → lex_sign_of u ≡ lex_sign_of v → lex_sign_of (z ∷ u) ≡ lex_sign_of (z ∷ v)
same_head (pos zero) u v e = e
same_head (pos (suc n)) u v e = refl
same_head (negsuc n) u v e = refl

sign_step : (test : ℕ → Bool) (f : ℕ → ℤ) (k : ℕ) (ks : List ℕ) →
    lex_sign_of (map (λ k. cond (test k) (f k) (pos 0)) ks) ≡ lex_sign_of (map f (filter test ks)) →
    lex_sign_of (map (λ k. cond (test k) (f k) (pos 0)) (k ∷ ks)) ≡ lex_sign_of (map f (filter test (k ∷ ks)))
sign_step test f k ks h = by (test k) refl
  where
    by : (b : Bool) → test k ≡ b →
        lex_sign_of (cond (test k) (f k) (pos 0) ∷ map (λ k. cond (test k) (f k) (pos 0)) ks)
        ≡ lex_sign_of (map f (cond (test k) (k ∷ filter test ks) (filter test ks)))
    by true e =
        ap (λ b. lex_sign_of (cond b (f k) (pos 0) ∷ map (λ k. cond (test k) (f k) (pos 0)) ks)) e
        ∙ same_head (f k) (map (λ k. cond (test k) (f k) (pos 0)) ks) (map f (filter test ks)) h
        ∙ sym (ap (λ b. lex_sign_of (map f (cond b (k ∷ filter test ks) (filter test ks)))) e)
    by false e =
        ap (λ b. lex_sign_of (cond b (f k) (pos 0) ∷ map (λ k. cond (test k) (f k) (pos 0)) ks)) e
        ∙ h ∙ sym (ap (λ b. lex_sign_of (map f (cond b (k ∷ filter test ks) (filter test ks)))) e)

sign_filtered : (test : ℕ → Bool) (f : ℕ → ℤ) (ks : List ℕ) →
    lex_sign_of (map (λ k. cond (test k) (f k) (pos 0)) ks) ≡ lex_sign_of (map f (filter test ks))
sign_filtered test f [] = refl
sign_filtered test f (k ∷ ks) = sign_step test f k ks (sign_filtered test f ks)

module _ (d : Dictionary) (root : List ℕ) (s j : ℕ) where
  abbrev counted : ℕ → ℤ
  counted q = cond (int_eq (Table.entry (table_of d) q s) (pos 0)) (Table.entry (table_of d) q j) (pos 0)

  whole : lex_sign_of (map counted (backwards (within d.labels root)) ++ map counted (backwards (outside d.labels root)))
      ≡ lex_sign_of (map (λ q. Table.entry (table_of d) q j)
      (filter (λ q. int_eq (Table.entry (table_of d) q s) (pos 0)) (backwards (order d.labels root))))
  whole =
      ap lex_sign_of (sym (map_append counted (backwards (within d.labels root)) (backwards (outside d.labels root))))
      ∙ ap (λ ks. lex_sign_of (map counted ks)) (sym (backwards_append (outside d.labels root) (within d.labels root)))
      ∙ sign_filtered (λ q. int_eq (Table.entry (table_of d) q s) (pos 0)) (λ q. Table.entry (table_of d) q j)
      (backwards (order d.labels root))

  pub inside_decides : (o : Ordering) → o ≡ lex_sign_of (map counted (backwards (within d.labels root))) → o ≢ Equal →
      (o ≡ Greater) ↔ IsPositiveOnZeros d root s j
  inside_decides o e n =
      let w = (sign_append (map counted (backwards (within d.labels root)))
      (map counted (backwards (outside d.labels root)))).1 (λ q. n (e ∙ q)) in
      let g = greater (map (λ q. Table.entry (table_of d) q j)
      (filter (λ q. int_eq (Table.entry (table_of d) q s) (pos 0)) (backwards (order d.labels root)))) in
      ((λ q. g.0 (sym whole ∙ w ∙ sym e ∙ q)), (λ h. e ∙ sym w ∙ whole ∙ g.1 h))

  pub outside_decides : (o p : Ordering) → o ≡ lex_sign_of (map counted (backwards (within d.labels root))) → o ≡ Equal →
      p ≡ lex_sign_of (map counted (backwards (outside d.labels root))) → (p ≡ Greater) ↔ IsPositiveOnZeros d root s j
  outside_decides o p e n f =
      let w = (sign_append (map counted (backwards (within d.labels root)))
      (map counted (backwards (outside d.labels root)))).0 (sym e ∙ n) in
      let g = greater (map (λ q. Table.entry (table_of d) q j)
      (filter (λ q. int_eq (Table.entry (table_of d) q s) (pos 0)) (backwards (order d.labels root)))) in
      ((λ q. g.0 (sym whole ∙ w ∙ sym f ∙ q)), (λ h. f ∙ sym w ∙ whole ∙ g.1 h))
