-- Numbers that are written at one place after the other.
use Rattle.std.proofs.Common.{◌≡◌, ◌≢◌, ℕ, ℤ, ◌+◌, ◌<◌, pos, List, length, get_or, set, arith, sym, subst, ◌∙◌, get_or-set_same, get_or-set_other, below_more}

-- what is true of the numbers at i places from `base` on is true of one more
pub places_more : (base : ℕ) (P : ℕ → ℤ → Type 0) (i : ℕ) (new : List ℤ) (q : ℤ) → base + i < length new → P i q →
    ((k : ℕ) → k < i → P k (get_or new (base + k) (pos 0))) →
    (k : ℕ) → k < i + 1 → P k (get_or (set new (base + i) q) (base + k) (pos 0))
places_more base P i new q lt h u =
    below_more _ _
    (λ k l.
    let ne : base + k ≢ base + i = omega arith in
    subst (P k) (sym (get_or-set_other new (base + i) (base + k) q (pos 0) ne)) (u k l))
    (subst (P i) (sym (get_or-set_same new (base + i) q (pos 0) lt)) h)

-- the numbers before `base` are kept
pub kept_more : (base i : ℕ) (old new : List ℤ) (q : ℤ) →
    ((k : ℕ) → k < base → get_or new k (pos 0) ≡ get_or old k (pos 0)) →
    (k : ℕ) → k < base → get_or (set new (base + i) q) k (pos 0) ≡ get_or old k (pos 0)
kept_more base i old new q u k l =
    let ne : k ≢ base + i = omega arith in
    get_or-set_other new (base + i) k q (pos 0) ne ∙ u k l
