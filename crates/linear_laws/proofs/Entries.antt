-- Entries of vectors, and the forms that read them.
use Rattle.std.proofs.Common.{◌≡◌, ◌≢◌, ℕ, zero, suc, ◌<◌, ℤ, pos, ◌+ℤ◌, ◌*ℤ◌, [], ◌∷◌, length, refl, sym, ap, ◌∙◌, arith}
use Rattle.std.proofs.lemmas.Int.{ints}
use Rattle.poly_num.specs.Vectors.{Vector, ◌·◌, scale, IsZero}
use Rattle.poly_num.proofs.Ring.{lin, zero_mul}
use Rattle.poly_num.proofs.VectorLemmas.{dot-scale}
use Rattle.poly_model.specs.Cones.{at, coordinate}
use Rattle.linear_laws.proofs.Combinations.{combination, dot-combination}

-- the vector of n zeros
abbrev pub zeros : ℕ → Vector
zeros zero = []
zeros (suc n) = pos 0 ∷ zeros n

pub at-nil : (j : ℕ) → at j [] ≡ pos 0
at-nil zero = refl
at-nil (suc j) = refl

pub at-zeros : (n i : ℕ) → at i (zeros n) ≡ pos 0
at-zeros zero i = at-nil i
at-zeros (suc n) zero = refl
at-zeros (suc n) (suc i) = at-zeros n i

pub length-zeros : (n : ℕ) → length (zeros n) ≡ n
length-zeros zero = refl
length-zeros (suc n) = ap suc (length-zeros n)

pub IsZero-zeros : (n : ℕ) → IsZero (zeros n)
IsZero-zeros zero = tt
IsZero-zeros (suc n) = (refl, IsZero-zeros n)

pub zeros-dot : (n : ℕ) (g : Vector) → zeros n · g ≡ pos 0
zeros-dot zero g = refl
zeros-dot (suc n) [] = refl
zeros-dot (suc n) (x ∷ g) = omega (arith, lin, zero_mul x, zeros-dot n g)

-- the form with 1 in front and zeros after it reads the first entry
pub first_reads : (n : ℕ) (y : Vector) → (pos 1 ∷ zeros n) · y ≡ at 0 y
first_reads n [] = refl
first_reads n (x ∷ y) = omega (arith, ints, zeros-dot n y)

pub coordinate_reads : (j : ℕ) (y : Vector) → coordinate j · y ≡ at j y
coordinate_reads zero y = first_reads zero y
coordinate_reads (suc j) [] = refl
coordinate_reads (suc j) (x ∷ y) = omega (arith, lin, zero_mul x, coordinate_reads j y)

pub at-scale : (j : ℕ) (p : ℤ) (v : Vector) → at j (scale p v) ≡ p *ℤ at j v
at-scale j p v =
    sym (coordinate_reads j (scale p v)) ∙ dot-scale (coordinate j) p v
    ∙ ap (λ t. p *ℤ t) (coordinate_reads j v)

pub at-combination : (j : ℕ) (p : ℤ) (u : Vector) (q : ℤ) (v : Vector) →
    at j (combination p u q v) ≡ p *ℤ at j u +ℤ q *ℤ at j v
at-combination j p u q v =
    sym (coordinate_reads j (combination p u q v)) ∙ dot-combination (coordinate j) p u q v
    ∙ ap (λ t. p *ℤ t +ℤ q *ℤ (coordinate j · v)) (coordinate_reads j u)
    ∙ ap (λ t. p *ℤ at j u +ℤ q *ℤ t) (coordinate_reads j v)

pub at-zero : (j : ℕ) (v : Vector) → IsZero v → at j v ≡ pos 0
at-zero j [] z = at-nil j
at-zero zero (x ∷ v) z = z.0
at-zero (suc j) (x ∷ v) z = at-zero j v z.1

-- an entry that is not 0 lies within
pub within_from_entry : (v : Vector) (j : ℕ) → at j v ≢ pos 0 → j < length v
within_from_entry [] j n = absurd (n (at-nil j))
within_from_entry (x ∷ v) zero n = omega arith
within_from_entry (x ∷ v) (suc j) n = let h : j < length v = within_from_entry v j n in omega arith

-- what holds of each (a, b, c) holds of each vector of width 3
pub by_three : (P : Vector → Type 0) → ((a b c : ℤ) → P (a ∷ b ∷ c ∷ [])) → (z : Vector) → length z ≡ 3 → P z
by_three P h [] w = absurd (omega arith)
by_three P h (a ∷ []) w = absurd (omega arith)
by_three P h (a ∷ b ∷ []) w = absurd (omega arith)
by_three P h (a ∷ b ∷ c ∷ []) w = h a b c
by_three P h (a ∷ b ∷ c ∷ x ∷ z) w = absurd (omega arith)
