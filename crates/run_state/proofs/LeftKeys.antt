-- Where the keys that are left of a list begin in it, and the next of them.
use Rattle.std.proofs.Common.{◌≡◌, ◌<◌, ◌+◌, ◌-◌, ℕ, suc, List, ◌∷◌, length, drop, get_or, sym, ap, ◌∙◌, arith, drop-cons}
use Rattle.std.proofs.lemmas.List.{length-drop}

-- how many keys were gone through
abbrev pub gone : List (List ℕ) → List (List ℕ) → ℕ
gone keys left = length keys - length left

-- these are left: the last ones
abbrev pub AreLeft : List (List ℕ) → List (List ℕ) → Type 0
AreLeft keys left = drop (gone keys left) keys ≡ left

module _ (keys left behind : List (List ℕ)) (key : List ℕ) (h : AreLeft keys left) (next : left ≡ key ∷ behind) where
  pub within : gone keys left < length keys
  within =
      omega (
        arith,
        ap (λ (l : List (List ℕ)). length l) h,
        ap (λ (l : List (List ℕ)). length l) next,
        length-drop (gone keys left) keys,
      )

  pub one_more_gone : gone keys behind ≡ gone keys left + 1
  one_more_gone =
      omega (
        arith,
        within,
        ap (λ (l : List (List ℕ)). length l) h,
        ap (λ (l : List (List ℕ)). length l) next,
        length-drop (gone keys left) keys,
      )

  split : key ∷ behind ≡ get_or keys (gone keys left) key ∷ drop (suc (gone keys left)) keys
  split = sym next ∙ sym h ∙ drop-cons keys (gone keys left) key within

  pub is_next : key ≡ get_or keys (gone keys left) key
  is_next = ap (λ (l : List (List ℕ)). get_or l 0 key) split

  pub still_left : AreLeft keys behind
  still_left =
      let e : gone keys behind ≡ suc (gone keys left) = omega (arith, one_more_gone) in
      rw e (sym (ap (λ (l : List (List ℕ)). drop 1 l) split))
