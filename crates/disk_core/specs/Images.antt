-- The images of a disk: the files that a crash at some moment may leave, as a property of files.
use Rattle.std.specs.Prelude.{◌≡◌, ℕ, List}

abbrev pub Images : Type 1
Images = List ℕ → Type 0

-- each image now is one from before, after a step
abbrev pub ComesFrom : (List ℕ → List ℕ → Type 0) → Images → Images → Type 0
ComesFrom step old new = (c : List ℕ) → new c → (d : List ℕ) × old d × step d c

-- no image is new
abbrev pub NothingNew : Images → Images → Type 0
NothingNew old new = (c : List ℕ) → new c → old c

-- this is the one image
abbrev pub Only : List ℕ → Images → Type 0
Only file images = (c : List ℕ) → images c → c ≡ file
