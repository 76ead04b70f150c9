-- What workers did, and which of it is honest.
use Rattle.std.specs.Prelude.{◌≡◌, ℕ, ◌==◌, if◌then◌else◌, List, [], ◌∷◌, ◌++◌, Option, Some, None}

-- a start or a collect, with what it gave
pub data Happening : Type 0 where
  -- a text was given to this attempt
  started : ℕ → List ℕ → Happening
  -- the start of this attempt with a text failed
  refused : ℕ → List ℕ → Happening
  -- these bytes came for this attempt
  replied : ℕ → List ℕ → Happening
  -- this attempt failed
  broken : ℕ → Happening

-- a told history grew by these; who tells may stop to tell, and does not begin
abbrev pub Tells : Option (List Happening) → Option (List Happening) → List Happening → Type 0
Tells old None more = Unit {0}
Tells None (Some all) more = ⊥
Tells (Some before) (Some all) more = all ≡ before ++ more

-- the starts, whether they succeeded or not, each with the attempt's number and the text: the last one stands first
abbrev pub StartedTexts : Type 0
StartedTexts = List (ℕ × List ℕ)

-- the text of the last start with this number
abbrev pub last_text : ℕ → StartedTexts → Option (List ℕ)
last_text attempt [] = None
last_text attempt (s ∷ starts) = if attempt == s.0 then Some s.1 else last_text attempt starts

-- the bytes begin a reply that this text allows; an attempt that was never started is allowed nothing
abbrev pub IsAllowed : (List ℕ → List ℕ → Type 0) → Option (List ℕ) → List ℕ → Type 0
IsAllowed allows None bytes = ⊥
IsAllowed allows (Some text) bytes = (reply : List ℕ) × allows text reply × (rest : List ℕ) × (reply ≡ bytes ++ rest)

-- after these starts, each reply begins one that the text of the last start with its number allows
abbrev pub IsHonest : (List ℕ → List ℕ → Type 0) → StartedTexts → List Happening → Type 0
IsHonest allows starts [] = Unit {0}
IsHonest allows starts (started a text ∷ more) = IsHonest allows ((a, text) ∷ starts) more
IsHonest allows starts (refused a text ∷ more) = IsHonest allows ((a, text) ∷ starts) more
IsHonest allows starts (replied a bytes ∷ more) =
    IsAllowed allows (last_text a starts) bytes × IsHonest allows starts more
IsHonest allows starts (broken a ∷ more) = IsHonest allows starts more
