-- What a step makes of the images of a file in memory.
use Rattle.std.proofs.Common.{◌≡◌, inl, inr, ◌∙◌, ◌+◌, ◌-◌, ◌≤◌, ◌<◌, ◌^◌, ◌++◌, ◌∷◌, [], ℕ, List, length, take, drop, arith, ap, refl, subst, sym, append_assoc, length-append, length-drop}
use Rattle.std.specs.Prelude.{◌⊎◌}
use Rattle.std.proofs.lemmas.List.{take_at, drop_at, drop-drop, take-append-le, take_all, length-take-le}
use Rattle.std.proofs.lemmas.Bool.{cases_lt}
use Rattle.disk_core.specs.Contents.{Holds, Torn as IsTorn, resized}
use Rattle.disk_core.specs.Images.{ComesFrom, Images, Only}
use Rattle.disk_core.specs.Moments.{Elapses}
use Rattle.disk_core.specs.Memory.{After, History, first_image, images_of, next_history, replayed, since_of, step_images}
use Rattle.disk_core.specs.Real.{IsReal, KeepsReal}
use Rattle.disk_core.specs.declared.steps.Step.{Step}
use Rattle.disk_core.specs.declared.steps.Step.TheVariants.{Written, Resized, Synced}
use Rattle.disk_core.proofs.Moments.{torn_not}

-- the last step's images, by those before it
pub after_push : (images : Images) (steps : List Step) (s : Step) (c : List ℕ) → After images (steps ++ s ∷ []) c → step_images s (After images steps) c
after_push images [] s c left = left
after_push images (t ∷ steps) s c left = after_push (step_images t images) steps s c left

pub after_more : (images : Images) (steps : List Step) (s : Step) (c : List ℕ) → step_images s (After images steps) c → After images (steps ++ s ∷ []) c
after_more images [] s c left = left
after_more images (t ∷ steps) s c left = after_more (step_images t images) steps s c left

pub real_next : (h : History) (s : Step) (bytes : List ℕ) (at len : ℕ) → KeepsReal h s bytes at len → IsReal (next_history h s bytes at len)
real_next h s bytes at len step = record {
  reads = after_more (first_image h.first) h.steps s bytes step.reads;
  old = after_more (first_image h.first) h.steps s h.bytes step.old;
  last = record {
    within = step.last.within;
    small = step.last.small;
    whole = step.last.whole;
    torn = λ some c torn. after_more (first_image h.first) h.steps s c (step.last.torn some c torn);
  };
}

-- a write of fewer bytes is a torn one of more
pub held_is_torn : (f b g : List ℕ) (at n : ℕ) → at ≤ length f → length b ≤ n → Holds f at b g → IsTorn at n f g
held_is_torn f b g at n le few e =
    let front : length (take at f) ≡ at = length-take-le at f le in
    let size : length g ≡ at + (length b + (length f - (at + length b))) = omega (arith, front, ap length e, length-append (take at f) (b ++ drop (at + length b) f), length-append b (drop (at + length b) f), length-drop (at + length b) f) in
    let back : drop (at + length b) g ≡ drop (at + length b) f = ap (drop (at + length b)) (e ∙ sym (append_assoc (take at f) b (drop (at + length b) f)))
    ∙ drop_at (take at f ++ b) (drop (at + length b) f) (at + length b) (omega (arith, front, length-append (take at f) b)) in
    let more : (x : List ℕ) → drop (at + n) x ≡ drop (n - length b) (drop (at + length b) x) = λ x. ap (λ k. drop k x) (omega (arith, few)) ∙ sym (drop-drop (n - length b) (at + length b) x) in
    record {
      before = ap (take at) e ∙ take_at (take at f) (b ++ drop (at + length b) f) at front;
      after = more g ∙ ap (drop (n - length b)) back ∙ sym (more f);
      no_shorter = omega (arith, size);
      no_longer = grind (arith, size, few);
    }

pub step_write : (h : History) (at done : ℕ) (b next : List ℕ) → IsReal h → at ≤ length h.bytes → at + length b < 2 ^ 64 → length (take done b) ≤ length b → Holds h.bytes at (take done b) next
    → KeepsReal h (Written at (length b)) next at (length b)
step_write h at done b next real le small few holds =
    let torn = held_is_torn h.bytes (take done b) next at (length b) le few holds in
    record {
      reads = (h.bytes, real.reads, λ _. torn);
      old = (h.bytes, real.reads, λ _. torn_not at (length b) h.bytes);
      last = record { within = le; small = small; whole = λ _. torn; torn = λ _ c t. (h.bytes, real.reads, λ _. t) };
    }

pub step_cut : (h : History) (len : ℕ) → IsReal h → KeepsReal h (Resized len) (resized len h.bytes) 0 0
step_cut h len real = record {
  reads = (h.bytes, real.reads, inr refl);
  old = (h.bytes, real.reads, inl refl);
  last = record { within = omega arith; small = omega arith; whole = λ some. absurd (omega (arith, some)); torn = λ some. absurd (omega (arith, some)) };
}

pub step_sync : (h : History) → IsReal h → KeepsReal h (Synced h.bytes) h.bytes 0 0
step_sync h real = record {
  reads = refl;
  old = refl;
  last = record { within = omega arith; small = omega arith; whole = λ some. absurd (omega (arith, some)); torn = λ some. absurd (omega (arith, some)) };
}

-- each new image is an old one after the step
pub follows_next : (rel : List ℕ → List ℕ → Type 0) (h : History) (s : Step) (bytes : List ℕ) (at len : ℕ)
    → ((old : Images) (c : List ℕ) → step_images s old c → (d : List ℕ) × old d × rel d c) → rel h.bytes bytes
    → ComesFrom rel (images_of h) (images_of (next_history h s bytes at len))
follows_next rel h s bytes at len step here c (inl now) = (h.bytes, inl refl, subst (rel h.bytes) (sym now) here)
follows_next rel h s bytes at len step here c (inr left) =
    let (d, old, to) = step (replayed h) c (after_push (first_image h.first) h.steps s c left) in
    (d, inr old, to)

-- a step takes time
pub elapses_next : (h : History) (s : Step) (bytes : List ℕ) (at len : ℕ) → replayed h h.bytes
    → Elapses (length h.steps) (length (h.steps ++ s ∷ [])) (since_of h) (since_of (next_history h s bytes at len)) (images_of (next_history h s bytes at len))
elapses_next h s bytes at len reads = record {
  later = omega (arith, length-append h.steps (s ∷ []));
  nothing_else = λ t c le left. split t c left;
  keeps = λ t c le left. keep t c le left;
}
  where
    P : List Step → Images
    P = After (first_image h.first)

    more : List Step
    more = h.steps ++ s ∷ []

    held : (k : ℕ) (c : List ℕ) → k ≤ length h.steps → P (take k h.steps) c → P (take k more) c
    held k c to left = subst (λ l. P l c) (sym (take-append-le k h.steps (s ∷ []) to)) left

    whole : (c : List ℕ) → P h.steps c → P (take (length h.steps) h.steps) c
    whole c left = subst (λ l. P l c) (sym (take_all (length h.steps) h.steps (omega arith))) left

    keep : (t : ℕ) (c : List ℕ) → t ≤ length h.steps → since_of h t c → since_of (next_history h s bytes at len) t c
    keep t c le (inl now) = inr (length h.steps, le, omega (arith, length-append h.steps (s ∷ [])), held (length h.steps) c (omega arith) (whole c (subst (P h.steps) (sym now) reads)))
    keep t c le (inr (k, from, to, left)) = inr (k, from, omega (arith, to, length-append h.steps (s ∷ [])), held k c to left)

    split : (t : ℕ) (c : List ℕ) → since_of (next_history h s bytes at len) t c → since_of h t c ⊎ images_of (next_history h s bytes at len) c
    split t c (inl now) = inr (inl now)
    split t c (inr (k, from, to, left)) = elim (cases_lt (length h.steps) k) [
      | inr le ↦ inl (inr (k, from, le, subst (λ l. P l c) (take-append-le k h.steps (s ∷ []) le) left))
      | inl lt ↦ inr (inr (subst (λ l. P l c) (take_all k more (omega (arith, lt, length-append h.steps (s ∷ [])))) left))
    ]

-- after a sync there is one image
pub only_synced : (h : History) → Only h.bytes (images_of (next_history h (Synced h.bytes) h.bytes 0 0))
only_synced h c (inl now) = now
only_synced h c (inr left) = after_push (first_image h.first) h.steps (Synced h.bytes) c left
