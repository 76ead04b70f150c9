-- Records in a file: an open gate before each, and a closed gate behind the last.
use Rattle.std.specs.Prelude.{◌≡◌, ◌⊎◌, ◌<◌, ◌+◌, ◌/◌, ◌%◌, ◌^◌, ℕ, zero, suc, List, [], ◌∷◌, ◌++◌, length}
use Rattle.std.specs.List.{All}

-- so many decimal digits of a number, with leading zeros
unfoldable pub digits : ℕ → ℕ → List ℕ
digits zero n = []
digits (suc k) n = digits k (n / 10) ++ (48 + n % 10) ∷ []

-- the length of a payload, as it stands before it
abbrev pub header : ℕ → List ℕ
header size = digits 13 size ++ 10 ∷ []

-- a payload, as it stands behind its gate
abbrev pub frame : List ℕ → List ℕ
frame payload = header (length payload) ++ payload

-- open gates, each with its record
abbrev pub layout : List (List ℕ) → List ℕ
layout [] = []
layout (p ∷ payloads) = 245 ∷ (frame p ++ layout payloads)

-- 13 digits can say how long it is
abbrev pub IsShort : List ℕ → Type 0
IsShort payload = length payload < 10 ^ 13

-- the payloads up to the first closed gate; any bytes may stand behind it
pub record Records (payloads : List (List ℕ)) (file : List ℕ) : Type 0 where
  pub short : All IsShort payloads
  pub gate : ℕ
  pub rest : List ℕ
  pub split : file ≡ layout payloads ++ gate ∷ rest
  pub closed : gate ≡ 245 → ⊥

-- the records, with one more or without it
abbrev pub RecordsOldOrNew : List (List ℕ) → List ℕ → List ℕ → Type 0
RecordsOldOrNew payloads new file = Records payloads file ⊎ Records (payloads ++ new ∷ []) file

-- the first gate is open
abbrev pub IsOpen : List ℕ → Type 0
IsOpen file = (rest : List ℕ) × (file ≡ 245 ∷ rest)

-- no run: the file is empty, or its first gate is closed
abbrev pub HasNoRun : List ℕ → Type 0
HasNoRun file = IsOpen file → ⊥

-- no record stands here with a gate behind it
abbrev pub HasNoFrame : List ℕ → Type 0
HasNoFrame text = (payload : List ℕ) (gate : ℕ) (rest : List ℕ) → IsShort payload → text ≡ frame payload ++ gate ∷ rest → ⊥

-- the record of this number, from 1, is the first whose layout is broken
pub record IsBrokenAt (number : ℕ) (file : List ℕ) : Type 0 where
  pub payloads : List (List ℕ)
  pub short : All IsShort payloads
  pub behind : List ℕ
  pub split : file ≡ layout payloads ++ 245 ∷ behind
  pub none : HasNoFrame behind
  pub count : number ≡ length payloads + 1

-- a file is empty, or has one list of records, or has one first record that is broken; and not two of these
pub record HasOneLayout (file : List ℕ) : Type 0 where
  pub some : (file ≡ []) ⊎ (((payloads : List (List ℕ)) × Records payloads file) ⊎ ((number : ℕ) × IsBrokenAt number file))
  pub one : (a b : List (List ℕ)) → Records a file → Records b file → a ≡ b
  pub one_break : (m n : ℕ) → IsBrokenAt m file → IsBrokenAt n file → m ≡ n
  pub not_both : (a : List (List ℕ)) (n : ℕ) → Records a file → IsBrokenAt n file → ⊥
