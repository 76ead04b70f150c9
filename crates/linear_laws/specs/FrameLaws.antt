-- Laws of frames and their rows.
use Rattle.std.specs.Prelude.{◌≡◌, ◌≢◌, ◌↔◌, ℕ, ℤ, pos, ◌*ℤ◌, List, ◌∷◌, ◌++◌, map, length}
use Rattle.poly_num.specs.Vectors.{Vector, ◌·◌, scale}
use Rattle.poly_model.specs.Independence.{Vanish}
use Rattle.linear_laws.specs.Frames.{Column, rows_of, IsFrameOn, IsFrame, scaled, pivoted}
use Rattle.linear_laws.specs.NewRows.{AreNew}

-- a row whose entry in the first column of a frame is not 0 takes the place of the first row
abbrev pub PivotIsFrame : Type 0
PivotIsFrame = (n : ℕ) (fixed : List Vector) (D : ℤ) (g : Vector) (c : Column) (cs : List Column) →
    IsFrameOn n fixed D (c ∷ cs) → g · c.dual ≢ pos 0 →
    IsFrameOn n fixed ((g · c.dual) *ℤ D) (pivoted D g c cs)

-- a frame stays one where its dual vectors and its denominator are multiplied by one number other
-- than 0, or divided by it
abbrev pub ScaledFrame : Type 0
ScaledFrame = (n : ℕ) (fixed : List Vector) (p D : ℤ) (cs : List Column) → p ≢ pos 0 →
    IsFrameOn n fixed D cs ↔ IsFrameOn n fixed (p *ℤ D) (map (scaled p) cs)

-- as many rows as the width, new one over another, have a frame
abbrev pub NewRowsHaveFrame : Type 0
NewRowsHaveFrame = (n : ℕ) (rows : List Vector) → AreNew n rows → length rows ≡ n →
    (D : ℤ) × (cs : List Column) × IsFrame n D cs × (rows_of cs ≡ rows)

-- the rows of a frame are new one over another, and as many as the width
abbrev pub FrameRowsAreNew : Type 0
FrameRowsAreNew = (n : ℕ) (D : ℤ) (cs : List Column) → IsFrame n D cs →
    AreNew n (rows_of cs) × (length cs ≡ n)

-- two frames of the same rows have the same dual vectors, but for their denominators
abbrev pub DualVectorIsOne : Type 0
DualVectorIsOne = (n : ℕ) (fixed : List Vector) (D E : ℤ) (c e : Column) (cs es : List Column) →
    IsFrameOn n fixed D (c ∷ cs) → IsFrameOn n fixed E (e ∷ es) →
    c.row ≡ e.row → rows_of cs ≡ rows_of es → scale D e.dual ≡ scale E c.dual

-- a frame without some of its columns is one of the space on which their rows are 0
abbrev pub RestrictedFrame : Type 0
RestrictedFrame = (n : ℕ) (fixed more : List Vector) (D : ℤ) (bs cs : List Column) →
    IsFrameOn n fixed D (bs ++ cs) →
    ((y : Vector) → length y ≡ n → Vanish more y ↔ (Vanish fixed y × Vanish (rows_of bs) y)) →
    IsFrameOn n more D cs
