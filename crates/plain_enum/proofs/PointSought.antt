-- What is told of the vectors that a search for one with a positive first entry has visited.
use Rattle.std.proofs.Common.{◌≡◌, ⊎_elim, pos, ◌<ℤ◌, List, [], ◌∷◌, sym, subst}
use Rattle.std.specs.List.{Contains}
use Rattle.std.proofs.lemmas.List.Elements.{Contains-append_right}
use Rattle.poly_num.specs.Vectors.{Vector}
use Rattle.poly_model.specs.Cones.{at}
use Rattle.linear_laws.proofs.Members.{Contains-nil, Contains-first, Contains-cons_cases}
use Rattle.plain_enum.specs.Visits.{Visited, EndedAtLast}

module _ {V O : Type 0} where
  -- the search goes on at a vector
  abbrev goes_on : V → O → Vector → V → O → Type 0
  goes_on v o y w q = ¬ (pos 0 <ℤ at 0 y)

  pub none_positive : (v : V) (o : O) (xs : List Vector) (w : V) (q : O) → Visited goes_on v o xs w q →
      (y : Vector) → Contains xs y → ¬ (pos 0 <ℤ at 0 y)
  none_positive v o [] w q h y c = absurd (Contains-nil y c)
  none_positive v o (x ∷ xs) w q (u, m, n, t) y c =
      ⊎_elim (λ (e : x ≡ y). subst (λ z. ¬ (pos 0 <ℤ at 0 z)) e n) (λ r. none_positive u m xs w q t y r)
      (Contains-cons_cases y x xs c)

-- the vector at which a search ended is among those that were visited
pub last_inside : {V O E : Type 0} (visits : V → O → Vector → V → O → Type 0) (ends : V → O → Vector → E → O → Type 0)
    (v : V) (o : O) (xs : List Vector) (e : E) (q : O) → (h : EndedAtLast visits ends v o xs e q) → Contains xs h.last
last_inside visits ends v o xs e q h =
    subst (λ ys. Contains ys h.last) (sym h.split)
    (Contains-append_right h.before (h.last ∷ []) h.last (Contains-first h.last []))
