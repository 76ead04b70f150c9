-- Known histories, which hold the definitions to account.
use Rattle.std.proofs.Common.{◌≡◌, ℕ, List, [], ◌∷◌, Some, None, refl}
use Rattle.workers_io.specs.History.{IsHonest, started, refused, replied, broken, last_text}
use Rattle.workers_io.specs.Collects.{out_after}

-- each text allows itself alone
abbrev Echoes : List ℕ → List ℕ → Type 0
Echoes text reply = reply ≡ text

-- the last start with a number counts, also where it was refused
last : last_text 1 ((1, 8 ∷ []) ∷ (2, 9 ∷ []) ∷ (1, 7 ∷ []) ∷ []) ≡ Some (8 ∷ [])
last = refl

never : last_text 3 ((1, 8 ∷ []) ∷ []) ≡ None
never = refl

-- a reply may come cut, twice and late
honest : IsHonest Echoes [] (started 1 (7 ∷ 8 ∷ []) ∷ started 2 [] ∷ replied 1 (7 ∷ []) ∷ broken 2 ∷ replied 1 (7 ∷ 8 ∷ []) ∷ [])
honest = ((7 ∷ 8 ∷ [], refl, 8 ∷ [], refl), ((7 ∷ 8 ∷ [], refl, [], refl), tt))

-- of an attempt that was never started nothing may come
dishonest : IsHonest Echoes [] (started 1 (7 ∷ []) ∷ replied 2 [] ∷ []) → ⊥
dishonest h = h.0

-- a start that is refused counts as the last one
refused_counts : IsHonest Echoes [] (started 1 (7 ∷ []) ∷ refused 1 [] ∷ replied 1 [] ∷ [])
refused_counts = (([], refl, [], refl), tt)

less : out_after (1 ∷ 2 ∷ 3 ∷ []) 2 ≡ 1 ∷ 3 ∷ []
less = refl

same : out_after (1 ∷ 2 ∷ []) 4 ≡ 1 ∷ 2 ∷ []
same = refl
