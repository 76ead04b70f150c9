-- The first independent list of the rows that are tight at a vector, and its test over a frame.
use Rattle.std.specs.Prelude.{◌≡◌, ◌↔◌, ℕ, Bool, true, false, pos, List, [], ◌∷◌}
use Rattle.poly_num.specs.Vectors.{Vector, ◌·◌}
use Rattle.poly_model.specs.Independence.{Follows, IsNew}
use Rattle.linear_laws.specs.Frames.{Column, EntriesVanish}

-- marks for the first so many of the rows: a marked row is tight at y and new over `before` and the
-- rows marked before it; a row that is tight and not marked follows from them
abbrev pub AreFirstTight : ℕ → List Vector → Vector → List Vector → List Bool → Type 0
AreFirstTight n before y gs [] = Unit {0}
AreFirstTight n before y [] (m ∷ ms) = ⊥
AreFirstTight n before y (g ∷ gs) (true ∷ ms) =
    (g · y ≡ pos 0) × IsNew n before g × AreFirstTight n (g ∷ before) y gs ms
AreFirstTight n before y (g ∷ gs) (false ∷ ms) =
    (g · y ≡ pos 0 → Follows n before g) × AreFirstTight n before y gs ms

-- the marked rows, in their order
abbrev pub marked_rows : List Vector → List Bool → List Vector
marked_rows [] ms = []
marked_rows (g ∷ gs) [] = []
marked_rows (g ∷ gs) (true ∷ ms) = g ∷ marked_rows gs ms
marked_rows (g ∷ gs) (false ∷ ms) = marked_rows gs ms

-- all but the first
abbrev pub rest_of : List Column → List Column
rest_of [] = []
rest_of (c ∷ cs) = cs

-- the test over the columns c and those of the marked rows, in their order: each row that is not
-- marked and is 0 in column c is 0 in the column of each marked row that stands after it
abbrev pub PassesTest : Column → List Column → List Vector → List Bool → Type 0
PassesTest c later gs [] = Unit {0}
PassesTest c later [] (m ∷ ms) = Unit {0}
PassesTest c later (g ∷ gs) (true ∷ ms) = PassesTest c (rest_of later) gs ms
PassesTest c later (g ∷ gs) (false ∷ ms) =
    (g · c.dual ≡ pos 0 → EntriesVanish g later) × PassesTest c later gs ms

-- the same forms are 0 at y and at z
abbrev pub HaveSameZeros : Vector → Vector → Type 0
HaveSameZeros y z = (g : Vector) → (g · y ≡ pos 0) ↔ (g · z ≡ pos 0)
