-- What a search does with the vectors that it finds, one after the other: `visits` is what a visitor does where the
-- search goes on, and `ends` where it ends it.
use Rattle.std.specs.Prelude.{◌≡◌, ℕ, Bool, List, [], ◌∷◌, ◌++◌, Result, IfOk, IfErr}
use Rattle.poly_num.specs.Vectors.{Vector}
use Rattle.poly_model.specs.Systems.{System, Polyhedron}
use Rattle.dictionary.specs.Views.{Dictionary}
use Rattle.listing_laws.specs.ListedCone.{ListedCone}
use Rattle.listing_laws.specs.Lists.{Lists, Begins}
use Rattle.listing_laws.specs.Prefixes.{IsCornerUnder}
use Rattle.plain_enum.specs.declared.prefix.Ended.{Ended}
use Rattle.plain_enum.specs.declared.prefix.Ended.TheVariants.{Overflow, Stopped}
use Rattle.plain_enum.specs.Listed.{IsAt}

-- these vectors in turn were visited
abbrev pub Visited : {V O : Type 0} → (V → O → Vector → V → O → Type 0) → V → O → List Vector → V → O → Type 0
Visited visits v o [] w q = (v ≡ w) × (o ≡ q)
Visited visits v o (y ∷ ys) w q = (u : _) × (m : _) × visits v o y u m × Visited visits u m ys w q

-- the search ended at the last of these vectors
pub record EndedAtLast {V O E : Type 0} (visits : V → O → Vector → V → O → Type 0)
    (ends : V → O → Vector → E → O → Type 0)
    (v : V) (o : O) (xs : List Vector) (e : E) (q : O) : Type 0 where
  pub before : List Vector
  pub last : Vector
  pub split : xs ≡ before ++ last ∷ []
  pub visitor : V
  pub middle : O
  pub visited : Visited visits v o before visitor middle
  pub ended : ends visitor middle last e q

-- the search ended behind these vectors, or at the last of them
abbrev pub Broke : {V O E : Type 0} → (V → O → Vector → V → O → Type 0) → (V → O → Vector → E → O → Type 0) →
    V → O → List Vector → Ended E → O → Type 0
Broke visits ends v o xs (Overflow x) q = (w : _) × Visited visits v o xs w q
Broke visits ends v o xs (Stopped e) q = EndedAtLast visits ends v o xs e q

-- the vectors with P were visited, each once; where the search ended, those of the beginning of a list of them
pub record VisitsEach {V O E : Type 0} (visits : V → O → Vector → V → O → Type 0)
    (ends : V → O → Vector → E → O → Type 0)
    (v : V) (o q : O) (result : Result V (Ended E)) (P : Vector → Type 0) : Type 0 where
  pub whole : IfOk result (λ w. (xs : List Vector) × Lists P xs × Visited visits v o xs w q)
  pub part : IfErr result (λ e. (xs : List Vector) × Begins P xs × Broke visits ends v o xs e q)

-- some vectors were visited, one after the other
abbrev pub HasVisited : {V O : Type 0} → (V → O → Vector → V → O → Type 0) → V → O → V → O → Type 0
HasVisited visits v o w q = (xs : List Vector) × Visited visits v o xs w q

-- so it is where the search went to its end, and where it ended before
pub record VisitsSome {V O E : Type 0} (visits : V → O → Vector → V → O → Type 0)
    (ends : V → O → Vector → E → O → Type 0)
    (v : V) (o q : O) (result : Result V (Ended E)) : Type 0 where
  pub whole : IfOk result (λ w. HasVisited visits v o w q)
  pub part : IfErr result (λ e. (xs : List Vector) × Broke visits ends v o xs e q)

-- wherever the dictionary stands, what is under the prefix is visited
abbrev pub VisitsUnder : {V O E : Type 0} → (V → O → Vector → V → O → Type 0) → (V → O → Vector → E → O → Type 0) →
    System → List ℕ → Dictionary → ℕ → ℕ → V → O → O → Result V (Ended E) → Type 0
VisitsUnder visits ends sys free d from depth v o q result =
    (p : Polyhedron) (cone : ListedCone) (fixed left : List ℕ) (marks : List Bool) →
    IsAt sys free d from depth p cone fixed left marks → VisitsEach visits ends v o q result (IsCornerUnder cone marks)
