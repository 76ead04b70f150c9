-- The root that phase one gives. It is the start cobasis, where no constant is negative there. Elsewhere an unknown t,
-- which is row 0, is added to the rows outside the start cobasis; the row of least constant takes its place, steps lower
-- the row of t as long as it is negative in some column, and what is left of the last cobasis without t is the root.
use Rattle.std.specs.Prelude.{◌≡◌, ◌≢◌, ◌⊎◌, ℕ, ◌≤◌, pos, ◌<ℤ◌, ◌≤ℤ◌, List, ◌∷◌}
use Rattle.std.specs.List.{Contains}
use Rattle.poly_model.specs.Systems.{Polyhedron, cone_of}
use Rattle.poly_model.specs.FreeColumns.{AreFreeColumns}
use Rattle.poly_model.specs.Spaces.{Space, IsStartCobasis, main_space, lifted}
use Rattle.poly_model.specs.Dictionaries.{Table, IsDictionary}
use Rattle.poly_model.specs.LexOrder.{IsEarlier}
use Rattle.poly_model.specs.Tree.{IsRowDictionary, IsRowOutside, IsFeasibleRoot, exchanged_key}
use Rattle.poly_model.specs.Lowering.{IsLowest, IsDescent}

-- the constant of r is negative, and none is less
pub record IsWorst (space : Space) (start : List ℕ) (t : Table) (r : ℕ) : Type 0 where
  pub row : IsRowOutside space.labels start r
  pub negative : t.constant r <ℤ pos 0
  pub least : (i : ℕ) → IsRowOutside space.labels start i → t.constant r ≤ℤ t.constant i

-- of the rows with that constant r has the least number
pub record IsFirstWorst (space : Space) (start : List ℕ) (t : Table) (r : ℕ) : Type 0 where
  pub worst : IsWorst space start t r
  pub first : (i : ℕ) → IsWorst space start t i → r ≤ i

-- r in the place of t, beside the start cobasis: the root of the order while t is lowered
abbrev pub lowering_root : List ℕ → ℕ → List ℕ
lowering_root start r = exchanged_key (0 ∷ start) 0 r

-- s is the least column in which t is not 0
pub record IsLastColumn (labels root key : List ℕ) (t : Table) (s : ℕ) : Type 0 where
  pub column : Contains key s
  pub nonzero : t.entry 0 s ≢ pos 0
  pub least : (k : ℕ) → Contains key k → t.entry 0 k ≢ pos 0 → (k ≡ s) ⊎ IsEarlier labels root s k

-- t is not in the key, its constant is 0, and it takes the place of the least column in which it is not 0
pub record IsLastExchange (labels root key : List ℕ) (t : Table) (new : List ℕ) : Type 0 where
  pub outside : Contains key 0 → ⊥
  pub constant : t.constant 0 ≡ pos 0
  pub s : ℕ
  pub column : IsLastColumn labels root key t s
  pub exchange : new ≡ exchanged_key key s 0

-- t is lowered to 0, and what stands beside it is the root
pub record IsLowered (space : Space) (start : List ℕ) (home : Table) (root : List ℕ) : Type 0 where
  pub r : ℕ
  pub worst : IsFirstWorst space start home r
  pub steps : ℕ
  pub end : List ℕ
  pub descent : IsDescent (lifted space start) (lowering_root start r) 0 steps (lowering_root start r) end
  pub table : Table
  pub dictionary : IsDictionary (lifted space start) end table
  pub lowest : IsLowest end table 0
  pub last : (end ≡ 0 ∷ root) ⊎ IsLastExchange (lifted space start).labels (lowering_root start r) end table (0 ∷ root)

-- the root that phase one gives from a start cobasis with this dictionary
pub record GivesByPhaseOne (space : Space) (start : List ℕ) (root : List ℕ) : Type 0 where
  pub home : Table
  pub dictionary : IsRowDictionary space start home
  pub root_is : (IsFeasibleRoot space start home × (root ≡ start)) ⊎ IsLowered space start home root

-- the root of the search of a polyhedron
pub record IsSearchRoot (p : Polyhedron) (root : List ℕ) : Type 0 where
  pub free : List ℕ
  pub columns : AreFreeColumns (cone_of p) free
  pub start : List ℕ
  pub is_start : IsStartCobasis (main_space p free) start
  pub given : GivesByPhaseOne (main_space p free) start root
