-- Blocks of a file.
use Rattle.std.proofs.Common.{◌≡◌, ◌≤◌, inl, inr, ◌∙◌, ◌+◌, ◌-◌, ℕ, List, length, take, drop, ap, sym, arith, length-take-le, take_all, take-take, drop-drop, rules}
use Rattle.std.specs.Prelude.{min}
use Rattle.std.proofs.lemmas.Bool.{cases_lt}
use Rattle.std.proofs.lemmas.Slice.{between_is}

-- a block that is asked for at its length, or to the end of the text
pub block_is : (text : List ℕ) (n : ℕ) → n ≡ min (length text) 65536 → take n text ≡ take 65536 text
block_is text n is = elim (cases_lt 65536 (length text)) [
  | inl more ↦ (let whole : n ≡ 65536 = grind (arith, is, more) in ap (λ k. take k text) whole)
  | inr less ↦ take_all n text (grind (arith, is, less)) ∙ sym (take_all 65536 text less)
]

-- the front of a text is as long as it says
pub front_is : (text : List ℕ) (n : ℕ) → take n text ≡ take (length (take n text)) text
front_is text n = elim (cases_lt n (length text)) [
  | inl more ↦ (let long : n ≡ length (take n text) = sym (length-take-le n text (omega (arith, more))) in ap (λ k. take k text) long)
  | inr less ↦ (let whole : take n text ≡ text = take_all n text less in whole ∙ sym (take_all (length (take n text)) text (omega (arith, ap length whole))))
]

-- some bytes within the front of a text
pub within_front : (text : List ℕ) (i k n : ℕ) → i + k ≤ n → take k (drop i (take n text)) ≡ take k (drop i text)
within_front text i k n le =
    let inner : take (n - i) (drop i text) ≡ drop i (take n text) = search (rules, between_is) in
    ap (take k) (sym inner) ∙ take-take k (n - i) (drop i text) (omega (arith, le))

-- the head of a record, in a window that holds it
pub head_within : (bytes file : List ℕ) (from at : ℕ) → bytes ≡ take (length bytes) (drop from file) → from ≤ at → at + 15 ≤ from + length bytes
    → take 15 (drop (at - from) bytes) ≡ take 15 (drop at file)
head_within bytes file from at is le long =
    let there : drop (at - from) (drop from file) ≡ drop at file = drop-drop (at - from) from file ∙ (let e : from + (at - from) ≡ at = omega (arith, le) in ap (λ k. drop k file) e) in
    ap (λ l. take 15 (drop (at - from) l)) is ∙ within_front (drop from file) (at - from) 15 (length bytes) (omega (arith, le, long)) ∙ ap (take 15) there

-- and in a block that begins with it
pub head_first : (bytes file : List ℕ) (from at : ℕ) → bytes ≡ take 65536 (drop at file) → from ≡ at → take 15 (drop (at - from) bytes) ≡ take 15 (drop at file)
head_first bytes file from at is same =
    let none : at - from ≡ 0 = omega (arith, same) in
    rw (none, is) (take-take 15 65536 (drop at file) (omega arith))
