-- Phase one: a feasible root from any cobasis of rows, in the space with one unknown more, t, which is row 0.
use Rattle.std.specs.Prelude.{ℕ, pos, ◌<ℤ◌, ◌≤ℤ◌, List, ◌∷◌}
use Rattle.std.specs.List.{Contains}
use Rattle.poly_num.specs.Vectors.{Vector, ◌·◌}
use Rattle.poly_model.specs.Spaces.{Space, IsInside, lifted}
use Rattle.poly_model.specs.Dictionaries.{Table}
use Rattle.poly_model.specs.LexOrder.{rows_in}
use Rattle.poly_model.specs.PhaseOne.{IsWorst}
use Rattle.poly_model.specs.Tree.{IsRowDictionary, IsFeasibleRoot, exchanged_key}
use Rattle.dictionary_laws.specs.WithT.{with_t}

-- the number 0 is left to t
abbrev pub HasNoRowZero : Space → Type 0
HasNoRowZero space = Contains space.labels 0 → ⊥

-- some vector is positive at infinity, and no row is negative there
pub record MeetsRows (space : Space) : Type 0 where
  pub vector : Vector
  pub inside : IsInside space vector
  pub finite : pos 0 <ℤ (space.infinity · vector)
  pub rows : (i : ℕ) → Contains (rows_in space.labels) i → pos 0 ≤ℤ (space.form i · vector)

-- ---- the beginning
-- t and the start cobasis are a cobasis of the lifted space, with these numbers
abbrev pub StartWithT : Type 0
StartWithT =
    (space : Space) (start : List ℕ) (t : Table) → HasNoRowZero space → IsRowDictionary space start t →
    IsRowDictionary (lifted space start) (0 ∷ start) (with_t start t)

-- the key has a dictionary, at which no constant of a row is negative
pub record GivesRoot (space : Space) (key : List ℕ) : Type 0 where
  pub some : (t : Table) × IsRowDictionary space key t
  pub feasible : (t : Table) → IsRowDictionary space key t → IsFeasibleRoot space key t

-- with such a row in the place of t they are a feasible root
abbrev pub FirstRoot : Type 0
FirstRoot =
    (space : Space) (start : List ℕ) (t : Table) → HasNoRowZero space → IsRowDictionary space start t → (r : ℕ) →
    IsWorst space start t r → GivesRoot (lifted space start) (exchanged_key (0 ∷ start) 0 r)
