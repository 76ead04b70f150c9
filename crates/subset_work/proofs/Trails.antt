-- The labels of a list, at the first places of those that all levels share.
use Rattle.std.proofs.Common.{◌≡◌, ℕ, ◌+◌, List, [], ◌∷◌, ◌++◌, take, sym, ap, ◌∙◌, arith}
use Rattle.std.proofs.lemmas.List.{take-take}

pub shorter : (n : ℕ) (xs ys : List ℕ) → take (n + 1) xs ≡ take (n + 1) ys → take n xs ≡ take n ys
shorter n xs ys e = sym (take-take n (n + 1) xs (omega arith)) ∙ ap (take n) e ∙ take-take n (n + 1) ys (omega arith)

-- a visit of a list with one label more leaves those before it
pub kept_on : (n : ℕ) (old now put new : List ℕ) → take n now ≡ take n old → take n put ≡ take n now →
    take (n + 1) new ≡ take (n + 1) put → take n new ≡ take n old
kept_on n old now put new kept puts goes = shorter n new put goes ∙ puts ∙ kept

-- the list with a row more, the row i
pub child_at : (n row : ℕ) (old now put : List ℕ) → take n now ≡ take n old →
    take (n + 1) put ≡ take n now ++ row ∷ [] → take (n + 1) put ≡ take n old ++ row ∷ []
child_at n row old now put kept puts = puts ∙ ap (λ ks. ks ++ row ∷ []) kept

pub child_is : (n i row : ℕ) (old now put : List ℕ) → take n now ≡ take n old →
    take (n + 1) put ≡ take n now ++ row ∷ [] → row ≡ i → take (n + 1) put ≡ take n old ++ i ∷ []
child_is n i row old now put kept puts same =
    child_at n row old now put kept puts ∙ ap (λ k. take n old ++ k ∷ []) same
