-- Elements at places of a list, where lists are joined and one element is set.
use Rattle.std.proofs.Common.{ℕ, zero, suc, List, ◌≡◌, ◌⊎◌, inl, inr, ⊎_elim, Bool, false, [], ◌∷◌, ◌++◌, refl, sym, ap, subst, slice_get, slice_set, replicate, Some}
use Rattle.std.specs.List.{Contains}
use Rattle.linear_laws.proofs.Members.{Contains-nil, Contains-first, Contains-later, Contains-cons_cases}

pub get-append : {X : Type 0} (xs ys : List X) (i : ℕ) (y : X) → slice_get xs i ≡ Some y → slice_get (xs ++ ys) i ≡ Some y
get-append [] ys i y e = absurd (cc)
get-append (x ∷ xs) ys zero y e = e
get-append (x ∷ xs) ys (suc i) y e = get-append xs ys i y e

pub member-at : {X : Type 0} (xs : List X) (i : ℕ) (y : X) → slice_get xs i ≡ Some y → Contains xs y
member-at [] i y e = absurd (cc)
member-at (x ∷ xs) zero y e = let q : x ≡ y = cc in subst (λ z. Contains (x ∷ xs) z) q (Contains-first x xs)
member-at (x ∷ xs) (suc i) y e = Contains-later y x xs (member-at xs i y e)

pub place-of : {X : Type 0} (xs : List X) (y : X) → Contains xs y → (i : ℕ) × (slice_get xs i ≡ Some y)
place-of [] y c = absurd (Contains-nil y c)
place-of (x ∷ xs) y c = ⊎_elim (λ (e : x ≡ y). (zero, ap Some e)) (λ (d : Contains xs y). let p = place-of xs y d in (suc p.0, p.1)) (Contains-cons_cases y x xs c)

pub get-append_cases : {X : Type 0} (xs ys : List X) (i : ℕ) (y : X) → slice_get (xs ++ ys) i ≡ Some y → (slice_get xs i ≡ Some y) ⊎ Contains ys y
get-append_cases [] ys i y e = inr (member-at ys i y e)
get-append_cases (x ∷ xs) ys zero y e = inl e
get-append_cases (x ∷ xs) ys (suc i) y e = get-append_cases xs ys i y e

pub get-set : {X : Type 0} (xs : List X) (b : ℕ) (v : X) (a : ℕ) (y : X) → slice_get (slice_set xs b v) a ≡ Some y → (slice_get xs a ≡ Some y) ⊎ (a ≡ b)
get-set [] b v a y e = inl e
get-set (z ∷ xs) zero v zero y e = inr refl
get-set (z ∷ xs) zero v (suc a) y e = inl e
get-set (z ∷ xs) (suc b) v zero y e = inl e
get-set (z ∷ xs) (suc b) v (suc a) y e = elim (get-set xs b v a y e) [ inl p ↦ inl p | inr q ↦ inr (ap suc q) ]

pub set-here : {X : Type 0} (xs : List X) (i : ℕ) (v x : X) → slice_get xs i ≡ Some x → slice_get (slice_set xs i v) i ≡ Some v
set-here [] i v x e = absurd (cc)
set-here (z ∷ xs) zero v x e = refl
set-here (z ∷ xs) (suc i) v x e = set-here xs i v x e

pub set-keeps : {X : Type 0} (xs : List X) (i : ℕ) (v : X) (j : ℕ) → slice_get xs j ≡ Some v → slice_get (slice_set xs i v) j ≡ Some v
set-keeps [] i v j e = absurd (cc)
set-keeps (z ∷ xs) zero v zero e = refl
set-keeps (z ∷ xs) zero v (suc j) e = e
set-keeps (z ∷ xs) (suc i) v zero e = e
set-keeps (z ∷ xs) (suc i) v (suc j) e = set-keeps xs i v j e

pub all-false : (n : ℕ) (b : Bool) → Contains (replicate n false) b → b ≡ false
all-false zero b c = absurd (Contains-nil b c)
all-false (suc n) b c = ⊎_elim (λ (e : false ≡ b). sym e) (λ (d : Contains (replicate n false) b). all-false n b d) (Contains-cons_cases b false (replicate n false) c)
