-- One less in digits of 64 bits: digits that are 0 become the greatest, and the next one that is not falls by one.
use Rattle.std.proofs.Common.{◌≡◌, ◌≤◌, ◌<◌, ℕ, zero, suc, ◌+◌, ◌*◌, ◌^◌, List, [], ◌∷◌, length, get_or, drop, set, refl, sym, ap, ◌∙◌, arith}
use Rattle.std.proofs.Common.{mul_assoc, add-one, add-zero, drop-cons}
use Rattle.std.proofs.lemmas.List.{get_or-drop, drop-set-lt, length-set, drop_all}
use Rattle.std.proofs.Math.Nat.{mul_left_comm}
use Rattle.countdown.specs.Digits.{digits_value}

-- the weight of digit i
pub unit_of : ℕ → ℕ
unit_of zero = 1
unit_of (suc i) = 2 ^ 64 * unit_of i

pub unit_more : (i : ℕ) → unit_of (i + 1) ≡ 2 ^ 64 * unit_of i
unfolding unit_of
unit_more i = let e : i + 1 ≡ suc i = omega arith in ap unit_of e

pub unit_first : unit_of 0 ≡ 1
unfolding unit_of
unit_first = refl

-- the first i digits were 0, and now they are the greatest
pub record IsBorrowed (old now : List ℕ) (i : ℕ) : Type 0 where
  pub same_length : length now ≡ length old
  pub rest : drop i now ≡ drop i old
  pub low : digits_value old ≡ unit_of i * digits_value (drop i old)
  pub gain : digits_value now + 1 ≡ unit_of i + digits_value old

pub value_set : (ws : List ℕ) (i v : ℕ) → i < length ws →
    digits_value (set ws i v) + unit_of i * get_or ws i 0 ≡ digits_value ws + unit_of i * v
unfolding unit_of
value_set [] i v l = absurd (omega arith)
value_set (w ∷ ws) zero v l = omega arith
value_set (w ∷ ws) (suc i) v l =
    let h = value_set ws i v (omega arith) in
    let a = mul_assoc (2 ^ 64) (unit_of i) (get_or ws i 0) in
    let b = mul_assoc (2 ^ 64) (unit_of i) v in
    omega (arith, h, a, b)

pub start_borrow : (old : List ℕ) → IsBorrowed old old 0
unfolding unit_of
start_borrow old = record { same_length = refl; rest = refl; low = omega arith; gain = omega arith }

first_left : (ws : List ℕ) (i : ℕ) → i < length ws → drop i ws ≡ get_or ws i 0 ∷ drop (i + 1) ws
first_left ws i l = rw (add-one, drop-cons ws i 0) refl

first_value : (ws : List ℕ) (i : ℕ) → i < length ws → get_or ws i 0 ≡ 0 →
    digits_value (drop i ws) ≡ 2 ^ 64 * digits_value (drop (i + 1) ws)
first_value ws i l e = let h = ap digits_value (first_left ws i l) in omega (arith, h, e)

same_first : (old now : List ℕ) (i : ℕ) → IsBorrowed old now i → get_or old i 0 ≡ get_or now i 0
same_first old now i h =
    sym (get_or_drop_first old i) ∙ ap (λ ws. get_or ws 0 0) (sym h.rest) ∙ get_or_drop_first now i
  where
    get_or_drop_first : (ws : List ℕ) (i : ℕ) → get_or (drop i ws) 0 0 ≡ get_or ws i 0
    get_or_drop_first ws i = get_or-drop i ws 0 0 ∙ ap (λ j. get_or ws j 0) (add-zero i)

pub more_borrow : (old now : List ℕ) (i : ℕ) → i < length now → get_or now i 0 ≡ 0 → IsBorrowed old now i →
    IsBorrowed old (set now i 18446744073709551615) (i + 1)
more_borrow old now i l e h =
    let same : length (set now i 18446744073709551615) ≡ length now = length-set now i 18446744073709551615 in
    let v = value_set now i 18446744073709551615 l in
    let u = unit_more i in
    let f = first_value old i lt (same_first old now i h ∙ e) in
    let low = h.low in
    let gain = h.gain in
    record {
      same_length = same ∙ h.same_length;
      rest = drop-set-lt (i + 1) now i 18446744073709551615 (omega arith) ∙ behind;
      low = low ∙ ap (λ x. unit_of i * x) f ∙ shift (unit_of i) (digits_value (drop (i + 1) old)) ∙ ap (λ x. x * digits_value (drop (i + 1) old)) (sym u);
      gain = omega (arith, v, u, gain, e, ap (λ x. unit_of i * x) e);
    }
  where
    lt : i < length old
    lt = omega (arith, h.same_length)

    behind : drop (i + 1) now ≡ drop (i + 1) old
    behind = sym (ap (drop 1) (first_left now i l)) ∙ ap (drop 1) h.rest ∙ ap (drop 1) (first_left old i lt)

    shift : (u v : ℕ) → u * (2 ^ 64 * v) ≡ (2 ^ 64 * u) * v
    shift u v = mul_left_comm u (2 ^ 64) v ∙ sym (mul_assoc (2 ^ 64) u v)

pub end_borrow : (old now : List ℕ) (i v : ℕ) → i < length now → get_or now i 0 ≡ suc v → IsBorrowed old now i →
    digits_value old ≡ digits_value (set now i v) + 1
end_borrow old now i v l e h =
    let g = value_set now i v l in
    let f = ap (λ x. unit_of i * x) e in
    let m : unit_of i * suc v ≡ unit_of i * v + unit_of i = omega arith in
    let gain = h.gain in
    omega (arith, g, f, m, gain)

pub not_all : (old now : List ℕ) (i : ℕ) → length now ≤ i → IsBorrowed old now i → 0 < digits_value old → ⊥
not_all old now i l h p =
    let d : drop i old ≡ [] = drop_all i old (omega (arith, h.same_length)) in
    let low = h.low in
    let z : digits_value old ≡ unit_of i * 0 = low ∙ ap (λ ws. unit_of i * digits_value ws) d in
    omega (arith, z)
