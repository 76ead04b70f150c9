-- Each attempt that is out has something to come: what a start and a collect make of that.
use Rattle.std.proofs.Common.{◌≡◌, ◌∙◌, refl, ◌<◌, ◌++◌, ◌∷◌, [], ℕ, List, length, arith, inl, inr, true, false, ap, sym, Bool}
use Rattle.std.specs.Prelude.{Option, Some, None, Result, Ok, Err, IsOk, IsErr, IfOk, OnOk, OnErr}
use Rattle.std.specs.Bool.{MatchBool}
use Rattle.std.specs.List.{AllByRecursion}
use Rattle.std.proofs.lemmas.Bool.{cases_eq, eq-eqb, false≢true, ne_eqb}
use Rattle.workers_io.specs.Collects.{collected_attempt, out_after}
use Rattle.workers_io.specs.Memory.{GivesNext, HasMore, coming_attempt, fated, prompt, spoiled, spoiled_one, without}
use Rattle.workers_io.specs.declared.collected.Collected.{Collected}
use Rattle.workers_io.specs.declared.coming.Coming.{Coming}
use Rattle.workers_io.specs.declared.fate.Fate.{Fate}
use Rattle.workers_io.specs.declared.fate.Fate.TheVariants.{Keep, Lose, Cut, Twice, Late, Replace, Refuse}

-- where an attempt is out, something is to come
pub something : (coming : List Coming) (out : List ℕ) → AllByRecursion (HasMore coming) out → 0 < length out → 0 < length coming
something (c ∷ coming) out all some = omega arith
something [] (a ∷ out) all some = absurd all.0
something [] [] all some = some

-- what is true of each attempt that has more is true of each that is out
pub all_more : (P : ℕ → Type 0) (coming : List Coming) (out : List ℕ) → ((b : ℕ) → HasMore coming b → P b) → AllByRecursion (HasMore coming) out → AllByRecursion P out
all_more P coming [] of all = tt
all_more P coming (b ∷ out) of all = (of b all.0, all_more P coming out of all.1)

pub all_append : (P : ℕ → Type 0) (out : List ℕ) (a : ℕ) → AllByRecursion P out → P a → AllByRecursion P (out ++ a ∷ [])
all_append P [] a all last = (last, tt)
all_append P (b ∷ out) a all last = (all.0, all_append P out a all.1 last)

-- the same of each that is still out
pub all_after : (P Q : ℕ → Type 0) (out : List ℕ) (a : ℕ) → ((b : ℕ) → (b ≡ a → ⊥) → P b → Q b) → AllByRecursion P out → AllByRecursion Q (out_after out a)
all_after P Q [] a of all = tt
all_after P Q (b ∷ out) a of all = elim (cases_eq b a) [
  | inl e ↦ rw (eq-eqb b a e) (all_after P Q out a of all.1)
  | inr n ↦ rw (ne_eqb b a n) (of b n all.0, all_after P Q out a of all.1)
]

-- what is not given is left
pub left_more : (coming : List Coming) (given : Collected) (left : List Coming) (b : ℕ) → GivesNext coming given left → (b ≡ collected_attempt given → ⊥) → HasMore coming b → HasMore left b
left_more [] given left b gives other has = absurd gives
left_more (c ∷ []) given left b gives other (inr m) = absurd m
left_more (c ∷ []) given left b gives other (inl e) = absurd (other (sym e ∙ ap collected_attempt (sym gives.0)))
left_more (c ∷ d ∷ more) given left b gives other has = by_late c.late gives has
  where
    by_late : (late : Bool) → MatchBool late ((given ≡ d.gives) × (left ≡ prompt c.gives ∷ more)) ((given ≡ c.gives) × (left ≡ d ∷ more)) → HasMore (c ∷ d ∷ more) b → HasMore left b
    by_late true g (inl e) = rw g.1 (inl e)
    by_late true g (inr (inl e)) = absurd (other (sym e ∙ ap collected_attempt (sym g.0)))
    by_late true g (inr (inr m)) = rw g.1 (inr m)
    by_late false g (inl e) = absurd (other (sym e ∙ ap collected_attempt (sym g.0)))
    by_late false g (inr m) = rw g.1 m

-- what is to come of another attempt stays
pub without_more : (a : ℕ) (coming : List Coming) (b : ℕ) → (b ≡ a → ⊥) → HasMore coming b → HasMore (without a coming) b
without_more a [] b other m = absurd m
without_more a (c ∷ coming) b other (inl e) = rw (ne_eqb (coming_attempt c) a (λ s. other (sym e ∙ s))) (inl e)
without_more a (c ∷ coming) b other (inr m) = elim (cases_eq (coming_attempt c) a) [
  | inl e ↦ rw (eq-eqb (coming_attempt c) a e) (without_more a coming b other m)
  | inr n ↦ rw (ne_eqb (coming_attempt c) a n) (inr (without_more a coming b other m))
]

pub first_more : (xs ys : List Coming) (b : ℕ) → HasMore xs b → HasMore (xs ++ ys) b
first_more [] ys b m = absurd m
first_more (c ∷ xs) ys b (inl e) = inl e
first_more (c ∷ xs) ys b (inr m) = inr (first_more xs ys b m)

pub last_more : (xs ys : List Coming) (b : ℕ) → HasMore ys b → HasMore (xs ++ ys) b
last_more [] ys b m = m
last_more (c ∷ xs) ys b m = inr (last_more xs ys b m)

-- what is broken is still of its attempt
pub spoiled_attempt : (a : ℕ) (c : Coming) → coming_attempt (spoiled_one a c) ≡ coming_attempt c
spoiled_attempt a c = elim (cases_eq (coming_attempt c) a) [
  | inl e ↦ rw (eq-eqb (coming_attempt c) a e) (sym e)
  | inr n ↦ rw (ne_eqb (coming_attempt c) a n) refl
]

pub spoiled_more : (a : ℕ) (coming : List Coming) (b : ℕ) → HasMore coming b → HasMore (spoiled a coming) b
spoiled_more a [] b m = absurd m
spoiled_more a (c ∷ coming) b (inl e) = inl (spoiled_attempt a c ∙ e)
spoiled_more a (c ∷ coming) b (inr m) = inr (spoiled_more a coming b m)

-- whatever its fate is, something comes of an attempt
pub fated_more : (f : Fate) (others : List (List ℕ)) (a : ℕ) (reply : Option (List ℕ)) → HasMore (fated f others a reply) a
fated_more f others a None = inl refl
fated_more Keep others a (Some reply) = inl refl
fated_more Lose others a (Some reply) = inl refl
fated_more (Cut n) others a (Some reply) = inl refl
fated_more Twice others a (Some reply) = inl refl
fated_more Late others a (Some reply) = inl refl
fated_more (Replace k) others a (Some reply) = inl refl
fated_more Refuse others a (Some reply) = inl refl

-- a start that succeeds
pub started_all : (a : ℕ) (coming more : List Coming) (out : List ℕ) → HasMore more a → AllByRecursion (HasMore coming) out → AllByRecursion (HasMore (without a coming ++ more)) (out ++ a ∷ [])
started_all a coming more out has all = all_append (HasMore (without a coming ++ more)) out a (all_more (HasMore (without a coming ++ more)) coming out each all) (last_more (without a coming) more a has)
  where
    each : (b : ℕ) → HasMore coming b → HasMore (without a coming ++ more) b
    each b m = elim (cases_eq b a) [
      | inl e ↦ rw e (last_more (without a coming) more a has)
      | inr n ↦ first_more (without a coming) more b (without_more a coming b n m)
    ]

pub sent_all : {T V E : Type 0} (result : Result T E) (more : Result V E) (items : V → List Coming) (a : ℕ) (coming new : List Coming) (out sent : List ℕ) → IsOk result
    → IfOk more (λ v. HasMore (items v) a) → OnErr more (IsErr result) → OnOk result (IfOk more (λ v. new ≡ without a coming ++ items v)) → OnOk result (sent ≡ out ++ a ∷ [])
    → AllByRecursion (HasMore coming) out → AllByRecursion (HasMore new) sent
sent_all (Ok x) (Ok v) items a coming new out sent ok has begun left is all = rw (left, is) (started_all a coming (items v) out has all)
sent_all (Ok x) (Err e) items a coming new out sent ok has begun left is all = absurd (false≢true begun)
sent_all (Err e) more items a coming new out sent ok has begun left is all = absurd (false≢true ok)

-- one that fails
pub refused_all : (a : ℕ) (coming : List Coming) (out : List ℕ) → AllByRecursion (HasMore coming) out → AllByRecursion (HasMore (spoiled a coming)) out
refused_all a coming out all = all_more (HasMore (spoiled a coming)) coming out (spoiled_more a coming) all

-- a collect
pub collected_all : (coming : List Coming) (given : Collected) (left : List Coming) (out : List ℕ) → GivesNext coming given left → AllByRecursion (HasMore coming) out → AllByRecursion (HasMore left) (out_after out (collected_attempt given))
collected_all coming given left out gives all = all_after (HasMore coming) (HasMore left) out (collected_attempt given) (λ b other m. left_more coming given left b gives other m) all
