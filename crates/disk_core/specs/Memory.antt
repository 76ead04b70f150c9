-- A file in memory by the steps that were asked of it, and the images that they allow.
use Rattle.std.specs.Prelude.{◌≡◌, ◌⊎◌, ◌≤◌, ◌+◌, ◌-◌, ◌*◌, ◌/◌, ◌%◌, ℕ, zero, suc, nat_lt, if◌then◌else◌, List, [], ◌∷◌, ◌++◌, length, take, set, Some}
use Rattle.std.proofs.Common.{ap, inl, inr, le_refl, subst, sym, unwrap_or}
use Rattle.std.proofs.lemmas.List.{take_all}
use Rattle.disk_core.specs.Contents.{Cut, TornWithin}
use Rattle.disk_core.specs.Images.{Images}
use Rattle.disk_core.specs.declared.steps.Step.{Step}
use Rattle.disk_core.specs.declared.steps.Step.TheVariants.{Written, Resized, Synced}

-- the file at first, the steps since then, what is read now; and of the last write its range, of the last write or cut
-- what was read before it
pub record History : Type 0 where
  pub first : List ℕ
  pub steps : List Step
  pub bytes : List ℕ
  pub before : List ℕ
  pub at : ℕ
  pub len : ℕ

-- a disk in memory: its file, and how often a call has failed
pub record MemState : Type 0 where
  pub file : History
  pub faults : ℕ

abbrev pub first_image : List ℕ → Images
first_image file c = c ≡ file

-- the images after a step, by those before it
abbrev pub step_images : Step → Images → Images
step_images (Written at n) old c = (d : List ℕ) × old d × TornWithin at n d c
step_images (Resized len) old c = (d : List ℕ) × old d × Cut len d c
step_images (Synced file) old c = c ≡ file

-- the images after these steps, the oldest first
abbrev pub After : Images → List Step → Images
After images [] = images
After images (s ∷ steps) = After (step_images s images) steps

-- the images that the steps allow
abbrev pub replayed : History → Images
replayed h = After (first_image h.first) h.steps

-- what is read, and what the steps allow
abbrev pub images_of : History → Images
images_of h c = (c ≡ h.bytes) ⊎ replayed h c

-- the images of the moments from t on: a moment is a number of steps
abbrev pub since_of : History → ℕ → Images
since_of h t c = (c ≡ h.bytes) ⊎ ((k : ℕ) × (t ≤ k) × (k ≤ length h.steps) × After (first_image h.first) (take k h.steps) c)

-- one step more, which leaves these bytes to be read, with the range that it wrote
abbrev pub next_history : History → Step → List ℕ → ℕ → ℕ → History
next_history h step bytes at len = record { first = h.first; steps = h.steps ++ step ∷ []; bytes = bytes; before = h.bytes; at = at; len = len }

-- how many bytes the last write reached past the end of the file
abbrev pub reach : History → ℕ
reach h = h.at + h.len - length h.before

-- what a crash may leave of the last write, as it was whole: with one of its bytes as any value; then with each length
-- below the one that it reached
abbrev pub torn_image : History → ℕ → List ℕ
torn_image h k = if nat_lt (k / 256) h.len then set h.bytes (h.at + k / 256) (k % 256)
    else (if nat_lt (k - 256 * h.len) (reach h) then take (length h.before + (k - 256 * h.len)) h.bytes else h.bytes)

-- the listed image of this number: what was read before the last write or cut, what is read now, and then what a crash may
-- leave of the last write
abbrev pub listed_image : History → ℕ → List ℕ
listed_image h zero = h.before
listed_image h (suc zero) = h.bytes
listed_image h (suc (suc k)) = torn_image h k

abbrev pub listed_count : History → ℕ
listed_count h = 2 + 256 * h.len + reach h

pub reads_an_image : (h : History) (f : List ℕ) → Some h.bytes ≡ Some f → images_of h f
reads_an_image h f is = inl (sym (ap (λ o. unwrap_or o []) is))

pub now_counts : (h : History) (t : ℕ) (c : List ℕ) → t ≤ length h.steps → images_of h c → since_of h t c
now_counts h t c le (inl now) = inl now
now_counts h t c le (inr now) = inr (length h.steps, le, le_refl _, subst (λ l. After (first_image h.first) l c) (sym (take_all (length h.steps) h.steps (le_refl _))) now)

pub now_only : (h : History) (c : List ℕ) → since_of h (length h.steps) c → images_of h c
now_only h c (inl now) = inl now
now_only h c (inr (k, from, to, left)) = inr (subst (λ l. After (first_image h.first) l c) (take_all k h.steps from) left)
