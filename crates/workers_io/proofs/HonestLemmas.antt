-- Honest workers in memory stay honest at a start and at a collect.
use Rattle.std.proofs.Common.{◌≡◌, ◌∙◌, inl, inr, ◌++◌, ◌∷◌, [], ℕ, List, take, drop, refl, sym, append_assoc, Bool, true, false}
use Rattle.std.specs.Prelude.{Option, Some, None, Result, Ok, Err, IsErr, IfOk, IfSome, OnOk, OnErr}
use Rattle.std.specs.Bool.{MatchBool}
use Rattle.std.specs.List.{AllByRecursion}
use Rattle.std.proofs.lemmas.Bool.{cases_eq, eq-eqb, false≢true, ne_eqb}
use Rattle.std.proofs.lemmas.List.{append-nil, take-append-drop}
use Rattle.std.proofs.lemmas.Option.{none-some, same_Some}
use Rattle.workers_io.specs.Collects.{collected_attempt, happening_of}
use Rattle.workers_io.specs.History.{Happening, IsAllowed, IsHonest, StartedTexts, Tells, started, refused, replied, broken, last_text}
use Rattle.workers_io.specs.Memory.{GivesNext, IsFaithful, MemWorkersState, StaysHonest, coming_attempt, fated, first_fate, prompt, spoiled, what_comes, without}
use Rattle.workers_io.specs.MemoryLaws.{first_honest}
use Rattle.workers_io.specs.declared.collected.Collected.{Collected}
use Rattle.workers_io.specs.declared.collected.Collected.TheVariants.{Reply, Broken}
use Rattle.workers_io.specs.declared.coming.Coming.{Coming}
use Rattle.workers_io.specs.declared.fate.Fate.{Fate}
use Rattle.workers_io.specs.declared.fate.Fate.TheVariants.{Keep, Lose, Cut, Twice, Late, Replace, Refuse}

-- the starts, once these happenings have followed
abbrev pub starts_after : StartedTexts → List Happening → StartedTexts
starts_after starts [] = starts
starts_after starts (started a text ∷ more) = starts_after ((a, text) ∷ starts) more
starts_after starts (refused a text ∷ more) = starts_after ((a, text) ∷ starts) more
starts_after starts (replied a bytes ∷ more) = starts_after starts more
starts_after starts (broken a ∷ more) = starts_after starts more

-- a grown history grew by these from a told one
pub grown : (old new : Option (List Happening)) (more all : List Happening) → Tells old new more → new ≡ Some all → (before : List Happening) × (old ≡ Some before) × (all ≡ before ++ more)
grown old None more all tells is = absurd (none-some all is)
grown None (Some x) more all tells is = absurd tells
grown (Some before) (Some x) more all tells is = (before, refl, sym (same_Some x all is) ∙ tells)

pub rest_faithful : (fates : List Fate) → AllByRecursion IsFaithful fates → AllByRecursion IsFaithful (drop 1 fates)
rest_faithful [] all = tt
rest_faithful (f ∷ fates) all = all.1

pub first_faithful : (fates : List Fate) → AllByRecursion IsFaithful fates → IsFaithful (first_fate fates)
first_faithful [] all = tt
first_faithful (f ∷ fates) all = all.0

module _ (allows : List ℕ → List ℕ → Type 0) where
  -- what is given is allowed after these starts
  abbrev pub IsGiven : StartedTexts → Collected → Type 0
  IsGiven starts (Reply a bytes) = IsAllowed allows (last_text a starts) bytes
  IsGiven starts (Broken a) = Unit {0}

  abbrev pub AreGiven : StartedTexts → List Coming → Type 0
  AreGiven starts coming = AllByRecursion (λ c. IsGiven starts c.gives) coming

  pub given_first : (starts : StartedTexts) (g : Collected) (more : List Happening) → IsHonest allows starts (happening_of g ∷ more) → IsGiven starts g × IsHonest allows starts more
  given_first starts (Reply a bytes) more h = (h.0, h.1)
  given_first starts (Broken a) more h = (tt, h)

  pub given_then : (starts : StartedTexts) (g : Collected) (more : List Happening) → IsGiven starts g → IsHonest allows starts more → IsHonest allows starts (happening_of g ∷ more)
  given_then starts (Reply a bytes) more first rest = (first, rest)
  given_then starts (Broken a) more first rest = rest

  pub are_given : (starts : StartedTexts) (coming : List Coming) → IsHonest allows starts (what_comes coming) → AreGiven starts coming
  are_given starts [] h = tt
  are_given starts (c ∷ coming) h =
      let p = given_first starts c.gives (what_comes coming) h in
      (p.0, are_given starts coming p.1)

  pub given_honest : (starts : StartedTexts) (coming : List Coming) → AreGiven starts coming → IsHonest allows starts (what_comes coming)
  given_honest starts [] all = tt
  given_honest starts (c ∷ coming) all = given_then starts c.gives (what_comes coming) all.0 (given_honest starts coming all.1)

  -- a history in two parts
  pub last_honest : (starts : StartedTexts) (first more : List Happening) → IsHonest allows starts (first ++ more) → IsHonest allows (starts_after starts first) more
  last_honest starts [] more h = h
  last_honest starts (started a text ∷ first) more h = last_honest ((a, text) ∷ starts) first more h
  last_honest starts (refused a text ∷ first) more h = last_honest ((a, text) ∷ starts) first more h
  last_honest starts (replied a bytes ∷ first) more h = last_honest starts first more h.1
  last_honest starts (broken a ∷ first) more h = last_honest starts first more h

  pub both_honest : (starts : StartedTexts) (first more : List Happening) → IsHonest allows starts first → IsHonest allows (starts_after starts first) more → IsHonest allows starts (first ++ more)
  both_honest starts [] more h k = k
  both_honest starts (started a text ∷ first) more h k = both_honest ((a, text) ∷ starts) first more h k
  both_honest starts (refused a text ∷ first) more h k = both_honest ((a, text) ∷ starts) first more h k
  both_honest starts (replied a bytes ∷ first) more h k = (h.0, both_honest starts first more h.1 k)
  both_honest starts (broken a ∷ first) more h k = both_honest starts first more h k

  -- one thing more has happened, with which what is to come is honest
  pub stays : (old new : MemWorkersState) (x : Happening) → Tells old.history new.history (x ∷ []) → ((starts : StartedTexts) → AreGiven starts old.coming → IsHonest allows starts (x ∷ what_comes new.coming))
      → (AllByRecursion IsFaithful old.fates → AllByRecursion IsFaithful new.fates) → StaysHonest allows old → StaysHonest allows new
  stays old new x tells step fates honest = record { told = λ all is. one_more all (grown old.history new.history (x ∷ []) all tells is); faithful = fates honest.faithful }
    where
      one_more : (all : List Happening) → (before : List Happening) × (old.history ≡ Some before) × (all ≡ before ++ x ∷ []) → IsHonest allows [] (all ++ what_comes new.coming)
      one_more all (before, was, is) =
          let h = honest.told before was in
          rw (is, append_assoc before (x ∷ []) (what_comes new.coming))
          (both_honest [] before (x ∷ what_comes new.coming) (first_honest allows [] before (what_comes old.coming) h)
          (step (starts_after [] before) (are_given (starts_after [] before) old.coming (last_honest [] before (what_comes old.coming) h))))

  -- a start with another number takes nothing from what may be given
  pub still_given : (starts : StartedTexts) (a : ℕ) (text : List ℕ) (g : Collected) → (collected_attempt g ≡ a → ⊥) → IsGiven starts g → IsGiven ((a, text) ∷ starts) g
  still_given starts a text (Reply b bytes) other given = rw (ne_eqb b a other) given
  still_given starts a text (Broken b) other given = tt

  pub without_given : (starts : StartedTexts) (a : ℕ) (text : List ℕ) (coming : List Coming) → AreGiven starts coming → AreGiven ((a, text) ∷ starts) (without a coming)
  without_given starts a text [] all = tt
  without_given starts a text (c ∷ coming) all = elim (cases_eq (coming_attempt c) a) [
    | inl e ↦ rw (eq-eqb (coming_attempt c) a e) (without_given starts a text coming all.1)
    | inr n ↦ rw (ne_eqb (coming_attempt c) a n) (still_given starts a text c.gives n all.0, without_given starts a text coming all.1)
  ]

  pub spoiled_given : (starts : StartedTexts) (a : ℕ) (text : List ℕ) (coming : List Coming) → AreGiven starts coming → AreGiven ((a, text) ∷ starts) (spoiled a coming)
  spoiled_given starts a text [] all = tt
  spoiled_given starts a text (c ∷ coming) all = elim (cases_eq (coming_attempt c) a) [
    | inl e ↦ rw (eq-eqb (coming_attempt c) a e) (tt, spoiled_given starts a text coming all.1)
    | inr n ↦ rw (ne_eqb (coming_attempt c) a n) (still_given starts a text c.gives n all.0, spoiled_given starts a text coming all.1)
  ]

  -- the first bytes of an allowed reply
  pub part_given : (starts : StartedTexts) (a : ℕ) (text reply bytes rest : List ℕ) → allows text reply → reply ≡ bytes ++ rest → IsGiven ((a, text) ∷ starts) (Reply a bytes)
  part_given starts a text reply bytes rest allowed split = rw (eq-eqb a a refl) (reply, allowed, rest, split)

  pub fated_given : (starts : StartedTexts) (f : Fate) (others : List (List ℕ)) (a : ℕ) (text : List ℕ) (reply : Option (List ℕ)) → IsFaithful f → IfSome reply (allows text)
      → AreGiven ((a, text) ∷ starts) (fated f others a reply)
  fated_given starts f others a text None faithful allowed = (tt, tt)
  fated_given starts Lose others a text (Some reply) faithful allowed = (tt, tt)
  fated_given starts (Cut n) others a text (Some reply) faithful allowed = (part_given starts a text reply (take n reply) (drop n reply) allowed (sym (take-append-drop n reply)), tt)
  fated_given starts (Replace k) others a text (Some reply) faithful allowed = absurd faithful
  fated_given starts Keep others a text (Some reply) faithful allowed = (part_given starts a text reply reply [] allowed (sym (append-nil reply)), tt)
  fated_given starts Late others a text (Some reply) faithful allowed = (part_given starts a text reply reply [] allowed (sym (append-nil reply)), tt)
  fated_given starts Refuse others a text (Some reply) faithful allowed = (part_given starts a text reply reply [] allowed (sym (append-nil reply)), tt)
  fated_given starts Twice others a text (Some reply) faithful allowed =
      let one = part_given starts a text reply reply [] allowed (sym (append-nil reply)) in
      (one, (one, tt))

  pub both_given : (starts : StartedTexts) (xs ys : List Coming) → AreGiven starts xs → AreGiven starts ys → AreGiven starts (xs ++ ys)
  both_given starts [] ys first last = last
  both_given starts (c ∷ xs) ys first last = (first.0, both_given starts xs ys first.1 last)

  -- what is given next, and what is left then
  pub next_given : (starts : StartedTexts) (coming : List Coming) (g : Collected) (left : List Coming) → GivesNext coming g left → AreGiven starts coming → IsGiven starts g × AreGiven starts left
  next_given starts [] g left gives all = absurd gives
  next_given starts (c ∷ []) g left gives all = (rw gives.0 all.0, rw gives.1 tt)
  next_given starts (c ∷ d ∷ more) g left gives all = by_late c.late gives
    where
      by_late : (late : Bool) → MatchBool late ((g ≡ d.gives) × (left ≡ prompt c.gives ∷ more)) ((g ≡ c.gives) × (left ≡ d ∷ more)) → IsGiven starts g × AreGiven starts left
      by_late true p = (rw p.0 all.1.0, rw p.1 (all.0, all.1.1))
      by_late false p = (rw p.0 all.0, rw p.1 all.1)

  -- a collect
  pub collect_stays : (old new : MemWorkersState) (g : Collected) → GivesNext old.coming g new.coming → Tells old.history new.history (happening_of g ∷ []) → new.fates ≡ old.fates
      → StaysHonest allows old → StaysHonest allows new
  collect_stays old new g gives tells same = stays old new (happening_of g) tells step (λ all. rw same all)
    where
      step : (starts : StartedTexts) → AreGiven starts old.coming → IsHonest allows starts (happening_of g ∷ what_comes new.coming)
      step starts all =
          let p = next_given starts old.coming g new.coming gives all in
          given_then starts g (what_comes new.coming) p.0 (given_honest starts new.coming p.1)

  -- a start that succeeds, and one that fails
  pub start_stays : {T V E : Type 0} (begun : Result T E) (more : Result V E) (items : V → List Coming) (others : List (List ℕ)) (a : ℕ) (text : List ℕ) (old new : MemWorkersState)
      → IfOk more (λ v. (reply : Option (List ℕ)) × IfSome reply (allows text) × (items v ≡ fated (first_fate old.fates) others a reply)) → OnErr more (IsErr begun)
      → OnOk begun (IfOk more (λ v. new.coming ≡ without a old.coming ++ items v)) → OnErr begun (new.coming ≡ spoiled a old.coming)
      → OnOk begun (Tells old.history new.history (started a text ∷ [])) → OnErr begun (Tells old.history new.history (refused a text ∷ [])) → new.fates ≡ drop 1 old.fates
      → StaysHonest allows old → StaysHonest allows new
  start_stays (Ok x) (Err e) items others a text old new made fails left spoils tells refuses rest honest = absurd (false≢true fails)
  start_stays (Ok x) (Ok v) items others a text old new (reply, allowed, is) fails left spoils tells refuses rest honest = stays old new (started a text) tells step (λ all. rw rest (rest_faithful old.fates all)) honest
    where
      step : (starts : StartedTexts) → AreGiven starts old.coming → IsHonest allows ((a, text) ∷ starts) (what_comes new.coming)
      step starts all = given_honest ((a, text) ∷ starts) new.coming
          (rw (left, is) (both_given ((a, text) ∷ starts) (without a old.coming) (fated (first_fate old.fates) others a reply) (without_given starts a text old.coming all)
          (fated_given starts (first_fate old.fates) others a text reply (first_faithful old.fates honest.faithful) allowed)))
  start_stays (Err e) more items others a text old new made fails left spoils tells refuses rest honest = stays old new (refused a text) refuses step (λ all. rw rest (rest_faithful old.fates all)) honest
    where
      step : (starts : StartedTexts) → AreGiven starts old.coming → IsHonest allows ((a, text) ∷ starts) (what_comes new.coming)
      step starts all = given_honest ((a, text) ∷ starts) new.coming (rw spoils (spoiled_given starts a text old.coming all))
