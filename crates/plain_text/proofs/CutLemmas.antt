-- Texts that are cut at a byte are cut in one way.
use Rattle.std.proofs.Common.{◌≡◌, ◌<◌, ◌+◌, ℕ, zero, suc, false, List, [], ◌∷◌, ◌++◌, Some, None, length, take, drop, get_or, refl, sym, ap, ◌∙◌, subst, arith, length-take-le, get_or-take, take-append-drop, append-nil, add-one}
use Rattle.std.specs.Prelude.{◌==◌, position}
use Rattle.std.specs.List.{list_any}
use Rattle.std.proofs.lemmas.Bool.{eqb-true, eqb-false, or_parts}
use Rattle.plain_text.specs.Cuts.{Lacks, GoesOnWith, CutsLine, CutsWord}
use Rattle.plain_text.proofs.Positions.{position_some, position_none, passes, fails_before}

-- two texts that begin in one way and go on at the byte are equal piece by piece
pub one_cut : (byte : ℕ) (front rest other more : List ℕ) → Lacks byte front → GoesOnWith byte rest → Lacks byte other
    → GoesOnWith byte more → front ++ rest ≡ other ++ more → (front ≡ other) × (rest ≡ more)
one_cut byte [] rest [] more a b c d e = (refl, e)
one_cut byte [] rest (x ∷ other) more a b c d e =
    let is : x ≡ byte = subst (λ (l : List ℕ). GoesOnWith byte l) e b in absurd (c.0 is)
one_cut byte (x ∷ front) rest [] more a b c d e =
    let is : x ≡ byte = subst (λ (l : List ℕ). GoesOnWith byte l) (sym e) d in absurd (a.0 is)
one_cut byte (x ∷ front) rest (y ∷ other) more a b c d e =
    let head : x ≡ y = ap (λ (l : List ℕ). get_or l 0 0) e in
    let k = one_cut byte front rest other more a.1 b c.1 d (ap (λ (l : List ℕ). drop 1 l) e) in
    ((λ i. head i ∷ k.0 i), k.1)

-- so are lines
pub one_line : (line rest other more : List ℕ) → Lacks 10 line → Lacks 10 other → line ++ 10 ∷ rest ≡ other ++ 10 ∷ more
    → (line ≡ other) × (rest ≡ more)
one_line line rest other more a b e =
    let k = one_cut 10 line (10 ∷ rest) other (10 ∷ more) a refl b refl e in
    (k.0, ap (λ (l : List ℕ). drop 1 l) k.1)

-- a text without the byte has none behind a front
pub lacks_none : (byte : ℕ) (front rest : List ℕ) → Lacks byte (front ++ byte ∷ rest) → ⊥
lacks_none byte [] rest h = h.0 refl
lacks_none byte (x ∷ front) rest h = lacks_none byte front rest h.1

pub lacks_append : (byte : ℕ) (front rest : List ℕ) → Lacks byte front → Lacks byte rest → Lacks byte (front ++ rest)
lacks_append byte [] rest a b = b
lacks_append byte (x ∷ front) rest a b = (a.0, lacks_append byte front rest a.1 b)

-- ---- the first such byte

lacks_from_places : (byte : ℕ) (text : List ℕ) → ((k : ℕ) → k < length text → (get_or text k 0 == byte) ≡ false) → Lacks byte text
lacks_from_places byte [] h = tt
lacks_from_places byte (x ∷ text) h =
    (eqb-false x byte (h 0 (omega arith)), lacks_from_places byte text (λ k lt. h (suc k) (omega arith)))

pub lacks_all : (byte : ℕ) (text : List ℕ) → position (λ b. b == byte) text ≡ None → Lacks byte text
lacks_all byte text e = lacks_from_places byte text (λ k lt. position_none (λ b. b == byte) text k 0 e lt)

pub lacks_before : (byte : ℕ) (text : List ℕ) (n : ℕ) → position (λ b. b == byte) text ≡ Some n → Lacks byte (take n text)
lacks_before byte text n e =
    let f = position_some (λ b. b == byte) text n e in
    lacks_from_places byte (take n text) (λ k lt.
    let less : k < n = omega (arith, lt, length-take-le n text (omega (arith, f.within))) in
    rw (get_or-take n text k 0 less) (fails_before (λ b. b == byte) text n k 0 f less))

pub found_at : (byte : ℕ) (text : List ℕ) (n : ℕ) → position (λ b. b == byte) text ≡ Some n
    → drop n text ≡ byte ∷ drop (n + 1) text
found_at byte text n e =
    let f = position_some (λ b. b == byte) text n e in
    let is : get_or text n 0 ≡ byte = eqb-true (get_or text n 0) byte (passes (λ b. b == byte) text n 0 f) in
    at text n f.within is
  where
    at : (text : List ℕ) (n : ℕ) → n < length text → get_or text n 0 ≡ byte → drop n text ≡ byte ∷ drop (n + 1) text
    at [] n lt is = absurd (omega arith)
    at (x ∷ text) zero lt is = ap (λ (y : ℕ). y ∷ text) is
    at (x ∷ text) (suc n) lt is = rw add-one (rw add-one at (at text n (omega arith) is))

pub cuts_line : (text : List ℕ) (n : ℕ) → position (λ b. b == 10) text ≡ Some n → CutsLine text (take n text) (drop (n + 1) text)
cuts_line text n e = record {
  whole = sym (take-append-drop n text) ∙ ap (λ (l : List ℕ). take n text ++ l) (found_at 10 text n e);
  lacks = lacks_before 10 text n e;
}

pub cuts_word : (text : List ℕ) (n : ℕ) → position (λ b. b == 32) text ≡ Some n → CutsWord text (take n text) (drop n text)
cuts_word text n e = record {
  whole = sym (take-append-drop n text);
  lacks = lacks_before 32 text n e;
  goes_on = rw (found_at 32 text n e) refl;
}

pub cuts_last_word : (text : List ℕ) → position (λ b. b == 32) text ≡ None → CutsWord text text []
cuts_last_word text e = record { whole = sym (append-nil text); lacks = lacks_all 32 text e; goes_on = tt }

-- ---- known texts

-- a text in which a test does not find the byte
pub lacks_tested : (byte : ℕ) (text : List ℕ) → list_any (λ (b : ℕ). b == byte) text ≡ false → Lacks byte text
lacks_tested byte [] h = tt
lacks_tested byte (b ∷ text) h =
    let k = or_parts (b == byte) (list_any (λ (x : ℕ). x == byte) text) h in
    (eqb-false b byte k.0, lacks_tested byte text k.1)
