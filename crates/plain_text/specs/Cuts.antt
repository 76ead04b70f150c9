-- Texts that are cut at a byte: lines at LF, words at one blank.
use Rattle.std.specs.Prelude.{◌≡◌, ◌≢◌, ℕ, Bool, ◌==◌, List, [], ◌∷◌, ◌++◌}
use Rattle.std.specs.List.{AllByRecursion}

-- LF, which ends a line
abbrev pub is_newline : ℕ → Bool
is_newline b = b == 10

-- a single blank, which parts words
abbrev pub is_space : ℕ → Bool
is_space b = b == 32

-- the byte is nowhere in the text
abbrev pub Lacks : ℕ → List ℕ → Type 0
Lacks byte text = AllByRecursion (λ b. b ≢ byte) text

-- the text has this byte in front, or is empty
abbrev pub GoesOnWith : ℕ → List ℕ → Type 0
GoesOnWith byte [] = Unit {0}
GoesOnWith byte (b ∷ text) = b ≡ byte

-- the text is a line, its LF, and the rest
pub record CutsLine (text line rest : List ℕ) : Type 0 where
  pub whole : text ≡ line ++ 10 ∷ rest
  pub lacks : Lacks 10 line

-- the text is a word and the rest, which is empty or has a blank in front
pub record CutsWord (text word rest : List ℕ) : Type 0 where
  pub whole : text ≡ word ++ rest
  pub lacks : Lacks 32 word
  pub goes_on : GoesOnWith 32 rest
