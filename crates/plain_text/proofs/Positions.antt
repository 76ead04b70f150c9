-- What `position` says: the first element that passes, or that none does.
use Rattle.std.proofs.Common.{◌≡◌, ◌<◌, ℕ, Option, Bool, true, false, cond, ltb, List, length, get_or, refl, sym, arith, Some, None}
use Rattle.std.specs.Prelude.{position}
use Rattle.std.specs.List.{position_or_len, All}
use Rattle.std.proofs.lemmas.Bool.{ltb-true, ltb-false, lt-ltb, le-ltb, false_from_ne_true}
use Rattle.std.proofs.lemmas.Option.{cond_some}
use Rattle.std.proofs.lemmas.List.Sums.{passes_at_first, fails_before_first, position_or_len_is}
use Rattle.std.proofs.lemmas.List.Elements.{All-from_get_or}
use Rattle.memchr.specs.Find.{IsFirstByte}

-- n is the place of the first element that passes
pub record IsFirst {X : Type 0} (p : X → Bool) (xs : List X) (n : ℕ) : Type 0 where
  pub is : n ≡ position_or_len p xs
  pub within : n < length xs

pub position_some : {X : Type 0} (p : X → Bool) (xs : List X) (n : ℕ) → position p xs ≡ Some n
    → IsFirst p xs n
position_some p xs n e =
    let h = cond_some (ltb (position_or_len p xs) (length xs)) (position_or_len p xs) n e in
    record { is = sym h.1; within = rw (← h.1) (ltb-true _ _ h.0) }

no_none : (b : Bool) (n : ℕ) → cond b (Some n) None ≡ None → b ≡ false
no_none true n e = absurd cc
no_none false n e = refl

pub passes : {X : Type 0} (p : X → Bool) (xs : List X) (n : ℕ) (d : X) → IsFirst p xs n
    → p (get_or xs n d) ≡ true
passes p xs n d f = rw f.is (passes_at_first p xs d (rw (← f.is) f.within))

pub fails_before : {X : Type 0} (p : X → Bool) (xs : List X) (n k : ℕ) (d : X) → IsFirst p xs n → k < n
    → p (get_or xs k d) ≡ false
fails_before p xs n k d f lt = fails_before_first p xs k d (rw (← f.is) lt)

pub position_none : {X : Type 0} (p : X → Bool) (xs : List X) (k : ℕ) (d : X) → position p xs ≡ None
    → k < length xs → p (get_or xs k d) ≡ false
position_none p xs k d e lt =
    let le = ltb-false _ _ (no_none (ltb (position_or_len p xs) (length xs)) (position_or_len p xs) e) in
    fails_before_first p xs k d (omega arith)

pub none_passes : (p : ℕ → Bool) (xs : List ℕ) → position p xs ≡ None → All (λ x. p x ≡ false) xs
none_passes p xs e = All-from_get_or (λ x. p x ≡ false) xs 0 (λ k lt. position_none p xs k 0 e lt)

-- ---- a search for a byte

is_position : (p : ℕ → Bool) (xs : List ℕ) (n : ℕ) → position_or_len p xs ≡ n → n < length xs → Some n ≡ position p xs
is_position p xs n e lt = rw (e, lt-ltb n (length xs) lt) refl

is_no_position : (p : ℕ → Bool) (xs : List ℕ) → position_or_len p xs ≡ length xs → None ≡ position p xs
is_no_position p xs e = rw (e, le-ltb (length xs) (length xs) (omega arith)) refl

-- what a search answers is the position
pub search_position : (p : ℕ → Bool) (xs : List ℕ) (r : Option ℕ) → IsFirstByte p xs r → r ≡ position p xs
search_position p xs (Some k) h =
    is_position p xs k (position_or_len_is p xs k 0 (omega (arith, h.0.high))
    (λ j less. false_from_ne_true (p (get_or xs j 0)) (h.0.before j (omega arith) less)) (λ _. h.1)) h.0.high
search_position p xs None h =
    is_no_position p xs (position_or_len_is p xs (length xs) 0 (omega arith)
    (λ j less. false_from_ne_true (p (get_or xs j 0)) (h j (omega arith) less))
    (λ lt. absurd (omega arith)))
