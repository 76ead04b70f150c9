-- The test of a child without a pivot.
use Rattle.std.specs.Prelude.{◌≡◌, ◌≢◌, ◌↔◌, ℕ, Bool, List}
use Rattle.std.specs.Bool.{IsTrue}
use Rattle.std.specs.List.{Contains}
use Rattle.poly_model.specs.Spaces.{Space}
use Rattle.poly_model.specs.Dictionaries.{Table}
use Rattle.poly_model.specs.LexOrder.{IsEarlier}
use Rattle.poly_model.specs.Tree.{IsRowDictionary, IsLexFeasible, exchanged_key}
use Rattle.dictionary.specs.Views.{Dictionary, table_of}
use Rattle.search_laws.specs.Shares.{IsChild}
use Rattle.search_laws.specs.ChildTest.{WouldEnter, downward}

-- in each space in which the dictionary is lexicographically feasible for the root: the neighbour in the column of s, where
-- row r leaves, is a child
abbrev pub DecidesChild : Dictionary → List ℕ → ℕ → ℕ → Bool → Type 0
DecidesChild d root s r b =
    (space : Space) (home : Table) → d.labels ≡ space.labels → IsRowDictionary space root home →
    IsLexFeasible space root d.key (table_of d) → IsTrue b ↔ IsChild space root d.key (exchanged_key d.key s r)

-- after the exchange of s and r another label j, which is earlier than r, would enter in its place
pub record EntersInPlace (d : Dictionary) (root : List ℕ) (s r j : ℕ) : Type 0 where
  pub other : j ≢ s
  pub before : IsEarlier d.labels root j r
  pub enters : WouldEnter (table_of d) s r j (downward d.labels root)

-- no label of the cobasis would
abbrev pub NoneInPlace : Dictionary → List ℕ → ℕ → ℕ → Type 0
NoneInPlace d root s r = (j : ℕ) → Contains d.key j → EntersInPlace d root s r j → ⊥
