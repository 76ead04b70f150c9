-- The end of phase one: no vector meets all rows, or a feasible root is at hand; and for which files.
use Rattle.std.specs.Prelude.{◌≡◌, ◌≢◌, ◌⊎◌, ◌↔◌, ℕ, pos, ◌<ℤ◌, List, ◌∷◌, length}
use Rattle.std.specs.List.{Contains}
use Rattle.poly_model.specs.declared.kind.Kind.TheVariants.{H, V}
use Rattle.poly_model.specs.Systems.{Polyhedron, cone_of}
use Rattle.poly_model.specs.FreeColumns.{AreFreeColumns}
use Rattle.poly_model.specs.Extreme.{IsFeasible}
use Rattle.poly_model.specs.Spaces.{Space, lifted, main_space}
use Rattle.poly_model.specs.Dictionaries.{Table, Writes}
use Rattle.poly_model.specs.Tree.{IsRowDictionary, IsRowOutside, IsFeasibleRoot, exchanged_key}
use Rattle.poly_model.specs.Lowering.{IsLowest}
use Rattle.poly_model.specs.Labels.{IsRow}
use Rattle.search_laws.specs.PhaseOne.{HasNoRowZero, MeetsRows, GivesRoot}

-- where t is lowest and its constant is positive, no vector meets all rows
abbrev pub NoneMeetsRows : Type 0
NoneMeetsRows =
    (space : Space) (start key : List ℕ) (t : Table) → HasNoRowZero space → IsRowDictionary (lifted space start) key t →
    IsLowest key t 0 → pos 0 <ℤ t.constant 0 → MeetsRows space → ⊥

-- in some column the entry of t is not 0
abbrev pub SomeColumnOfT : Type 0
SomeColumnOfT =
    (space : Space) (start key : List ℕ) (t : Table) → IsRowDictionary (lifted space start) key t →
    (s : ℕ) × Contains key s × (t.entry 0 s ≢ pos 0)

-- a row with the constant 0 takes the place of a label at which its entry is not 0: no constant becomes negative
abbrev pub ExchangeAtZero : Type 0
ExchangeAtZero =
    (space : Space) (key : List ℕ) (t : Table) → IsFeasibleRoot space key t → (q s : ℕ) →
    IsRowOutside space.labels key q → t.constant q ≡ pos 0 → Contains key s → t.entry q s ≢ pos 0 →
    GivesRoot space (exchanged_key key s q)

-- t is the first label of a key; its numbers write the labels of the space over the others, which give a feasible root
pub record IsWithT (space : Space) (key : List ℕ) (t : Table) : Type 0 where
  pub rest : List ℕ
  pub first : key ≡ 0 ∷ rest
  pub writes : Writes space rest t
  pub root : GivesRoot space rest

abbrev pub RootWithoutT : Type 0
RootWithoutT =
    (space : Space) (start key : List ℕ) (t : Table) → HasNoRowZero space → IsFeasibleRoot (lifted space start) key t →
    Contains key 0 → IsWithT space key t

-- ---- together
abbrev pub HasRoot : Space → Type 0
HasRoot space = (root : List ℕ) × (home : Table) × IsFeasibleRoot space root home

-- there is a feasible root exactly where some vector meets all rows, and one of the two is known
pub record IsDecided (space : Space) : Type 0 where
  pub answer : HasRoot space ⊎ (MeetsRows space → ⊥)
  pub exactly : HasRoot space ↔ MeetsRows space

-- so it is in a space that has a cobasis of rows
abbrev pub PhaseOneDecides : Type 0
PhaseOneDecides =
    (space : Space) (start : List ℕ) (t : Table) → HasNoRowZero space → IsRowDictionary space start t → IsDecided space

-- ---- files
-- the number 0 is that of no row of a polyhedron
abbrev pub MainHasNoRowZero : Type 0
MainHasNoRowZero = (p : Polyhedron) (free : List ℕ) → HasNoRowZero (main_space p free)

-- an H file is feasible exactly where some vector of its main space meets all rows. No label of a row may be that of a
-- coordinate
abbrev pub FeasibleFiles : Type 0
FeasibleFiles =
    (p : Polyhedron) (free : List ℕ) → p.kind ≡ H → AreFreeColumns (cone_of p) free →
    IsRow (length (cone_of p).rows) → IsFeasible (cone_of p) ↔ MeetsRows (main_space p free)

-- of a V file all constants are 0: each cobasis of rows is a feasible root
abbrev pub RootsOfPoints : Type 0
RootsOfPoints =
    (p : Polyhedron) (free key : List ℕ) (t : Table) → p.kind ≡ V → IsRowDictionary (main_space p free) key t →
    IsFeasibleRoot (main_space p free) key t
