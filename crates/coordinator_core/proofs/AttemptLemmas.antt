-- The table of attempts.
use Rattle.std.proofs.Common.{arith, ℕ, zero, suc, List, ◌≡◌, ◌⊎◌, inl, inr, ◌+◌, ◌-◌, ◌<◌, true, false, nat_lt, [], ◌∷◌, ◌++◌, refl, sym, ap, subst, length, Some, None, slice_set}
use Rattle.std.specs.List.{slice_get}
use Rattle.std.proofs.lemmas.Bool.{cases_Bool, ltb-true}
use Rattle.work_core.specs.declared.budget.Budget.{Budget}
use Rattle.coordinator_core.proofs.KeyCounts.{times, times-here}
use Rattle.coordinator_core.specs.Machine.{Attempt, State, keys_out, sent_at}

-- the attempt, out no more
abbrev pub back : Attempt → Attempt
back t = record { key = t.key; budget = t.budget; is_out = false }

-- an attempt of a number stands one place before it
pub sent_at_place : (s : State) (attempt : ℕ) (t : Attempt) → sent_at s attempt ≡ Some t → (0 < attempt) × (slice_get s.sent (attempt - 1) ≡ Some t)
sent_at_place s attempt t e = elim (cases_Bool (nat_lt 0 attempt)) [
  | inl y ↦ (ltb-true 0 attempt y, rw y at e)
  | inr n ↦ let q : None ≡ Some t = rw n at e in absurd (cc)
]

pub get-push : {X : Type 0} (xs : List X) (x : X) (i : ℕ) (y : X) → slice_get (xs ++ x ∷ []) i ≡ Some y → (slice_get xs i ≡ Some y) ⊎ ((i ≡ length xs) × (y ≡ x))
get-push [] x zero y e = let q : y ≡ x = cc in inr (refl, q)
get-push [] x (suc i) y e = absurd (cc)
get-push (z ∷ xs) x zero y e = inl e
get-push (z ∷ xs) x (suc i) y e = elim (get-push xs x i y e) [ inl a ↦ inl a | inr b ↦ inr (omega (arith, b.0), b.1) ]

pub get-set : {X : Type 0} (xs : List X) (b : ℕ) (v : X) (a : ℕ) (y : X) → slice_get (slice_set xs b v) a ≡ Some y → (slice_get xs a ≡ Some y) ⊎ ((a ≡ b) × (y ≡ v))
get-set [] b v a y e = inl e
get-set (z ∷ xs) zero v zero y e = let q : y ≡ v = cc in inr (refl, q)
get-set (z ∷ xs) zero v (suc a) y e = inl e
get-set (z ∷ xs) (suc b) v zero y e = inl e
get-set (z ∷ xs) (suc b) v (suc a) y e = elim (get-set xs b v a y e) [ inl p ↦ inl p | inr q ↦ inr (ap suc q.0, q.1) ]

pub keys_out-push : (x : List ℕ) (ts : List Attempt) (key : List ℕ) (budget : Budget) →
    times x (keys_out (ts ++ record { key = key; budget = budget; is_out = true } ∷ [])) ≡ times x (keys_out ts) + times x (key ∷ [])
keys_out-push x [] key budget = omega arith
keys_out-push x (t ∷ ts) key budget = elim (cases_Bool t.is_out) [
  | inl y ↦ rw y (omega (arith, keys_out-push x ts key budget))
  | inr n ↦ rw n (keys_out-push x ts key budget)
]

pub length-keys_out-push : (ts : List Attempt) (key : List ℕ) (budget : Budget) →
    length (keys_out (ts ++ record { key = key; budget = budget; is_out = true } ∷ [])) ≡ length (keys_out ts) + 1
length-keys_out-push [] key budget = refl
length-keys_out-push (t ∷ ts) key budget = elim (cases_Bool t.is_out) [
  | inl y ↦ rw y (omega (arith, length-keys_out-push ts key budget))
  | inr n ↦ rw n (length-keys_out-push ts key budget)
]

keys_out-here : (x : List ℕ) (u t : Attempt) (us : List Attempt) → u ≡ t → t.is_out ≡ true → times x (keys_out us) + times x (t.key ∷ []) ≡ times x (keys_out (u ∷ us))
keys_out-here x u t us e y = subst (λ (w : Attempt). times x (keys_out us) + times x (t.key ∷ []) ≡ times x (keys_out (w ∷ us))) (sym e) (rw y (omega arith))

pub keys_out-ended : (x : List ℕ) (sent : List Attempt) (i : ℕ) (t : Attempt) → slice_get sent i ≡ Some t → t.is_out ≡ true →
    times x (keys_out (slice_set sent i (back t))) + times x (t.key ∷ []) ≡ times x (keys_out sent)
keys_out-ended x [] i t e y = absurd (cc)
keys_out-ended x (u ∷ us) zero t e y = let q : u ≡ t = cc in keys_out-here x u t us q y
keys_out-ended x (u ∷ us) (suc i) t e y = elim (cases_Bool u.is_out) [
  | inl o ↦ rw o (omega (arith, keys_out-ended x us i t e y))
  | inr n ↦ rw n (keys_out-ended x us i t e y)
]

length-here : (u t : Attempt) (us : List Attempt) → u ≡ t → t.is_out ≡ true → length (keys_out us) + 1 ≡ length (keys_out (u ∷ us))
length-here u t us e y = subst (λ (w : Attempt). length (keys_out us) + 1 ≡ length (keys_out (w ∷ us))) (sym e) (rw y (omega arith))

pub length-keys_out-ended : (sent : List Attempt) (i : ℕ) (t : Attempt) → slice_get sent i ≡ Some t → t.is_out ≡ true →
    length (keys_out (slice_set sent i (back t))) + 1 ≡ length (keys_out sent)
length-keys_out-ended [] i t e y = absurd (cc)
length-keys_out-ended (u ∷ us) zero t e y = let q : u ≡ t = cc in length-here u t us q y
length-keys_out-ended (u ∷ us) (suc i) t e y = elim (cases_Bool u.is_out) [
  | inl o ↦ rw o (omega (arith, length-keys_out-ended us i t e y))
  | inr n ↦ rw n (length-keys_out-ended us i t e y)
]

-- an attempt that is out has its key among the keys that are out
pub keys_out-has : (sent : List Attempt) (i : ℕ) (t : Attempt) → slice_get sent i ≡ Some t → t.is_out ≡ true → 0 < times t.key (keys_out sent)
keys_out-has sent i t e y = omega (arith, keys_out-ended t.key sent i t e y, times-here t.key t.key [] refl)
