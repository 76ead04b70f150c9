-- What a move of labels leaves of a key in its room.
use Rattle.std.proofs.Common.{◌≡◌, ◌≤◌, ◌<◌, ◌+◌, ◌-◌, ◌++◌, ◌∷◌, [], ℕ, zero, suc, List, length, take, drop, get_or, arith, refl, sym, ap, ◌∙◌, length-append, append_assoc, add-one, drop-cons}
use Rattle.std.specs.Prelude.{remove, insert}
use Rattle.std.specs.List.{copy_within}
use Rattle.std.proofs.Math.ListN.{replicate, set}
use Rattle.std.proofs.Math.Seq.{length_paste_head, take-append_seam, drop-append_seam}
use Rattle.std.proofs.lemmas.List.{take_more, take-take, drop-take, set_at, length-replicate, length-drop, length-take-le, drop-drop, drop-replicate}
use Rattle.std.proofs.lemmas.List.Edits.{length-remove, length-insert}
use Rattle.poly_model.specs.Limits.{most_labels}
use Rattle.poly_model.specs.Keys.{IsKey}
use Rattle.poly_model.specs.KeyRoom.{Fills, taken}
use Rattle.poly_model.proofs.KeyLemmas.{padded, key_without}

-- a key with the rest of its room fills it
pub fills : (room ls : List ℕ) (n : ℕ) → IsKey ls → room ≡ padded ls → n ≡ length ls → Fills room n
fills room ls n h e l = rw (e, l) (record {
  size = length-append ls _ ∙ ap (λ k. length ls + k) (length-replicate (most_labels - length ls) 0) ∙ whole;
  within = h.room;
  rest = drop-append_seam ls _;
  ascending = rw (take-append_seam ls (replicate (most_labels - length ls) 0)) h.ascending;
})
  where
    whole : length ls + (most_labels - length ls) ≡ most_labels
    whole = omega (arith, h.room)

-- and its labels are those
labels_of : (room ls : List ℕ) (n : ℕ) → room ≡ padded ls → n ≡ length ls → take n room ≡ ls
labels_of room ls n e l = rw (e, l) (take-append_seam ls _)

-- the labels behind a place, up to the last, move down over it, and this one comes behind them
moved_down : (xs : List ℕ) (at last y : ℕ) → at ≤ last → last < length xs →
    set (copy_within xs (suc at) (suc last) at) last y ≡ remove (take (suc last) xs) at ++ y ∷ drop (suc last) xs
moved_down xs at last y l r = by (last - at) (omega arith) (omega arith)
  where
    by : (m : ℕ) → suc last - suc at ≡ m → at + m ≡ last → set (copy_within xs (suc at) (suc last) at) last y ≡ remove (take (suc last) xs) at ++ y ∷ drop (suc last) xs
    by m e f =
        let within : at ≤ length xs = omega arith in
        let less : at ≤ suc last = omega arith in
        let room : m ≤ length (drop (suc at) xs) = omega (arith, length-drop (suc at) xs) in
        let sum : suc last ≡ suc at + m = omega arith in
        let head : length (take at xs ++ take m (drop (suc at) xs)) ≡ last = length_paste_head xs at (drop (suc at) xs) m within room ∙ f in
        let rest : remove (take (suc last) xs) at ≡ take at xs ++ take m (drop (suc at) xs) = rw (take-take at (suc last) xs less, sum, drop-take (suc at) m xs) refl in
        rw (rest, e, f, drop-cons xs last 0) (set_at (take at xs ++ take m (drop (suc at) xs)) _ _ y last head)

-- the labels from a place on move up, and this one comes there
moved_up : (xs : List ℕ) (at n y : ℕ) → at ≤ n → n < length xs →
    set (copy_within xs at n (at + 1)) at y ≡ insert (take n xs) at y ++ drop (n + 1) xs
moved_up xs at n y l r = by (n - at) refl (omega arith)
  where
    by : (m : ℕ) → n - at ≡ m → at + m ≡ n → set (copy_within xs at n (at + 1)) at y ≡ insert (take n xs) at y ++ drop (n + 1) xs
    by m e f =
        let place : at < length xs = omega arith in
        let within : at ≤ length xs = omega arith in
        let sum : at + 1 + m ≡ n + 1 = omega arith in
        let rest : drop at (take n xs) ≡ take m (drop at xs) = rw (sym f, drop-take at m xs) refl in
        let split : copy_within xs at n (at + 1) ≡ take at xs ++ get_or xs at 0 ∷ (take m (drop at xs) ++ drop (n + 1) xs) =
        rw (e, sum, take_more xs at 0 place, append_assoc (take at xs) (get_or xs at 0 ∷ []) _, append_assoc (take at xs) _ _) refl in
        rw (split, rest, take-take at n xs l, append_assoc (take at xs) (y ∷ take m (drop at xs)) _) (set_at (take at xs) _ _ y at (length-take-le at xs within))

-- the labels of a room are a key
key_of : (xs : List ℕ) (n : ℕ) → Fills xs n → IsKey (take n xs)
key_of xs n h = record { room = rw (taken xs n h) h.within; ascending = h.ascending }

-- a label less
removed : (xs : List ℕ) (n at : ℕ) → Fills xs n → at < n → set (copy_within xs (at + 1) (n - 1 + 1) at) (n - 1) 0 ≡ padded (remove (take n xs) at)
removed xs zero at h l = absurd (omega arith)
removed xs (suc last) at h l =
    let ls = take (suc last) xs in
    let one : suc last - 1 ≡ last = omega arith in
    let place : at < length ls = omega (arith, taken xs (suc last) h) in
    let count : suc (most_labels - suc last) ≡ most_labels - length (remove ls at) = omega (arith, length-remove ls at place, taken xs (suc last) h, h.within) in
    let rest : 0 ∷ drop (suc last) xs ≡ replicate (most_labels - length (remove ls at)) 0 = ap (λ zs. 0 ∷ zs) h.rest ∙ ap (λ k. replicate k 0) count in
    rw (one, add-one last, add-one at) (moved_down xs at last 0 (omega arith) (omega (arith, h.size, h.within)) ∙ ap (λ zs. remove ls at ++ zs) rest)

-- how many are left
removed_len : (xs : List ℕ) (n at : ℕ) → Fills xs n → at < n → n - 1 ≡ length (remove (take n xs) at)
removed_len xs n at h l =
    let place : at < length (take n xs) = omega (arith, taken xs n h) in
    omega (arith, length-remove (take n xs) at place, taken xs n h)

-- a place among the labels is one in the room
below_len : (xs ls : List ℕ) (n at : ℕ) → Fills xs n → take n xs ≡ ls → at < length ls → at < n
below_len xs ls n at h e l = omega (arith, ap length e, taken xs n h)

-- what is left fills the room, and its labels are the others
pub fills_without : (xs ls : List ℕ) (n at : ℕ) → Fills xs n → take n xs ≡ ls → at < length ls → Fills (set (copy_within xs (at + 1) (n - 1 + 1) at) (n - 1) 0) (n - 1)
fills_without xs ls n at h e l =
    let less = below_len xs ls n at h e l in
    fills _ (remove (take n xs) at) (n - 1) (rw add-one at (key_without at (take n xs) (key_of xs n h))) (removed xs n at h less) (removed_len xs n at h less)

pub labels_without : (xs ls : List ℕ) (n at : ℕ) → Fills xs n → take n xs ≡ ls → at < length ls → take (n - 1) (set (copy_within xs (at + 1) (n - 1 + 1) at) (n - 1) 0) ≡ remove ls at
labels_without xs ls n at h e l =
    let less = below_len xs ls n at h e l in
    labels_of _ (remove (take n xs) at) (n - 1) (removed xs n at h less) (removed_len xs n at h less) ∙ ap (λ zs. remove zs at) e

-- a label more
inserted : (xs : List ℕ) (n at y : ℕ) → Fills xs n → at ≤ n → n < most_labels → set (copy_within xs at n (at + 1)) at y ≡ padded (insert (take n xs) at y)
inserted xs n at y h l r =
    let ls = take n xs in
    let place : at ≤ length ls = omega (arith, taken xs n h) in
    let count : most_labels - n - 1 ≡ most_labels - length (insert ls at y) = omega (arith, length-insert ls at y place, taken xs n h) in
    let behind : drop (n + 1) xs ≡ replicate (most_labels - n - 1) 0 = sym (drop-drop 1 n xs) ∙ ap (drop 1) h.rest ∙ drop-replicate 1 (most_labels - n) 0 in
    let rest : drop (n + 1) xs ≡ replicate (most_labels - length (insert ls at y)) 0 = behind ∙ ap (λ k. replicate k 0) count in
    moved_up xs at n y l (omega (arith, h.size)) ∙ ap (λ zs. insert ls at y ++ zs) rest

-- how many there are then
inserted_len : (xs : List ℕ) (n at y : ℕ) → Fills xs n → at ≤ n → n + 1 ≡ length (insert (take n xs) at y)
inserted_len xs n at y h l =
    let place : at ≤ length (take n xs) = omega (arith, taken xs n h) in
    omega (arith, length-insert (take n xs) at y place, taken xs n h)

-- a place among the labels or right behind them, in the room
within_len : (xs ls : List ℕ) (n at : ℕ) → Fills xs n → take n xs ≡ ls → at ≤ length ls → at ≤ n
within_len xs ls n at h e l = omega (arith, ap length e, taken xs n h)

-- a key with one more has room for it
has_room : (xs ls : List ℕ) (n at y : ℕ) → Fills xs n → take n xs ≡ ls → at ≤ length ls → IsKey (insert ls at y) → n < most_labels
has_room xs ls n at y h e l k = omega (arith, k.room, length-insert ls at y l, ap length e, taken xs n h)

-- what there is then fills the room, and its labels are those and this one
pub fills_with : (xs ls : List ℕ) (n at y : ℕ) → Fills xs n → take n xs ≡ ls → at ≤ length ls → IsKey (insert ls at y) → Fills (set (copy_within xs at n (at + 1)) at y) (n + 1)
fills_with xs ls n at y h e l k =
    let less = within_len xs ls n at h e l in
    fills _ (insert (take n xs) at y) (n + 1) (rw e k) (inserted xs n at y h less (has_room xs ls n at y h e l k)) (inserted_len xs n at y h less)

pub labels_with : (xs ls : List ℕ) (n at y : ℕ) → Fills xs n → take n xs ≡ ls → at ≤ length ls → IsKey (insert ls at y) → take (n + 1) (set (copy_within xs at n (at + 1)) at y) ≡ insert ls at y
labels_with xs ls n at y h e l k =
    let less = within_len xs ls n at h e l in
    labels_of _ (insert (take n xs) at y) (n + 1) (inserted xs n at y h less (has_room xs ls n at y h e l k)) (inserted_len xs n at y h less) ∙ ap (λ zs. insert zs at y) e
