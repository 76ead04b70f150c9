-- Two lists in which no member stands twice, one behind the other.
use Rattle.std.proofs.Common.{List, [], ◌∷◌, ◌++◌, ⊎_elim}
use Rattle.std.specs.List.{Contains}
use Rattle.std.proofs.lemmas.List.Elements.{Contains-append_cases}
use Rattle.linear_laws.specs.Distinct.{AreDistinct}
use Rattle.linear_laws.proofs.Members.{Contains-first, Contains-later}

module _ {X : Type 0} where
  pub distinct_append : (xs ys : List X) → AreDistinct xs → AreDistinct ys →
      ((x : X) → Contains xs x → Contains ys x → ⊥) → AreDistinct (xs ++ ys)
  distinct_append [] ys d e apart = e
  distinct_append (x ∷ xs) ys d e apart = (
    λ c. ⊎_elim d.0 (apart x (Contains-first x xs)) (Contains-append_cases xs ys x c),
    distinct_append xs ys d.1 e (λ y a b. apart y (Contains-later y x xs a) b),
  )
