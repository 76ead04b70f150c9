-- Laws of the rows that are tight at a vector, and of corners.
use Rattle.std.specs.Prelude.{◌≡◌, ◌↔◌, ℕ, ◌+◌, ◌≤◌, Bool, ℤ, pos, ◌<ℤ◌, List, ◌∷◌, ◌++◌, length}
use Rattle.poly_num.specs.Vectors.{Vector, ◌·◌, IsZero}
use Rattle.poly_model.specs.Independence.{Vanish, Follows, taken}
use Rattle.linear_laws.specs.Frames.{Column, rows_of, IsFrame, EntriesVanish}
use Rattle.linear_laws.specs.NewRows.{AreNew}
use Rattle.linear_laws.specs.LocalTest.{AreFirstTight, marked_rows, PassesTest, HaveSameZeros}
use Rattle.linear_laws.specs.Corners.{IsInConeOf, IsPointed, IsAloneOnTight, IsCorner}

-- each vector has one first independent list of the rows tight at it
abbrev pub FirstTightIsOne : Type 0
FirstTightIsOne = (n : ℕ) (before : List Vector) (y : Vector) (rows : List Vector) →
    AreNew n before →
    (marks : List Bool) × (length marks ≡ length rows) × AreFirstTight n before y rows marks
    × ((others : List Bool) → length others ≡ length rows → AreFirstTight n before y rows others →
    others ≡ marks)

-- a vector that is not zero is alone on what is tight at it exactly where the rows before and the
-- first independent list of the rows tight at it are one row less than the width
abbrev pub AloneByTightCount : Type 0
AloneByTightCount = (n : ℕ) (before rows : List Vector) (y : Vector) (marks : List Bool) →
    AreNew n before → length marks ≡ length rows → AreFirstTight n before y rows marks →
    length y ≡ n → Vanish before y → (IsZero y → ⊥) →
    IsAloneOnTight n before rows y ↔ (length (taken before rows marks) + 1 ≡ n)

-- over a frame of the columns c, later and before: a form that is 0 in column c is 0 in the later
-- ones exactly where it follows from the rows of those before
abbrev pub RowTest : Type 0
RowTest = (n : ℕ) (D : ℤ) (c : Column) (later before : List Column) (g : Vector) →
    IsFrame n D ((c ∷ later) ++ before) → g · c.dual ≡ pos 0 →
    EntriesVanish g later ↔ Follows n (rows_of before) g

-- over a frame of a column c, those of the marked rows, and those before: the test holds exactly
-- where the marks are those of the first independent list of the rows tight at c
abbrev pub LocalTest : Type 0
LocalTest = (n : ℕ) (D : ℤ) (c : Column) (later before : List Column) (y : Vector)
    (rows : List Vector) (marks : List Bool) →
    IsFrame n D ((c ∷ later) ++ before) → rows_of later ≡ marked_rows rows marks →
    length marks ≤ length rows → HaveSameZeros y c.dual →
    PassesTest c later rows marks ↔ AreFirstTight n (rows_of before) y rows marks

-- if a cone holds no line and a form is positive at a vector of it, it is positive at a corner
abbrev pub PositiveCorner : Type 0
PositiveCorner = (n : ℕ) (fixed rows : List Vector) (form y : Vector) →
    IsPointed n fixed rows → IsInConeOf n fixed rows y → pos 0 <ℤ (form · y) →
    (z : Vector) × IsCorner n fixed rows z × (pos 0 <ℤ (form · z))
