-- What a ledger knows of its file.
use Rattle.std.specs.Prelude.{◌≡◌, ◌<◌, ◌+◌, ◌-◌, ◌^◌, min, ℕ, List, [], ◌∷◌, ◌++◌, length, map, take, drop, get_or, Option, Some}
use Rattle.disk_core.specs.Images.{Images, Only}
use Rattle.job_ledger.specs.Records.{Records}

-- the sizes of its payloads, and the most bytes that its file may have
pub record Known : Type 0 where
  pub limit : ℕ
  pub sizes : List ℕ

abbrev pub payload_sizes : List (List ℕ) → List ℕ
payload_sizes payloads = map length payloads

-- where the first closed gate stands
abbrev pub end_of : List ℕ → ℕ
end_of [] = 0
end_of (size ∷ sizes) = (15 + size) + end_of sizes

-- how many bytes the file has once a payload of this size is appended: a gate, 13 digits, LF, the payload, a gate
abbrev pub need_of : Known → ℕ → ℕ
need_of ledger size = end_of ledger.sizes + size + 16

-- the file is as the ledger's last call left it: it has these records, of the sizes that the ledger knows, and a crash
-- leaves it as it is
pub record IsLedgerAt (ledger : Known) (payloads : List (List ℕ)) (seen : Option (List ℕ)) (images : Images) : Type 0 where
  pub file : List ℕ
  pub told : seen ≡ Some file
  pub has : Records payloads file
  pub sizes : ledger.sizes ≡ payload_sizes payloads
  pub settled : Only file images

-- refused for its size: the need is that of the ledger, as a number of 64 bits, and past the limit
pub record IsPastLimit (ledger : Known) (size need limit : ℕ) : Type 0 where
  pub past : ledger.limit < need_of ledger size
  pub its_need : need ≡ min (need_of ledger size) (2 ^ 64 - 1)
  pub its_limit : limit ≡ ledger.limit

-- one record more
abbrev pub grown : Known → ℕ → Known
grown ledger size = record { limit = ledger.limit; sizes = ledger.sizes ++ size ∷ [] }

abbrev pub new_ledger : ℕ → Known
new_ledger limit = record { limit = limit; sizes = [] }

-- the bytes at the place of a payload, by its number from 0; those that there are, where the file ends early
abbrev pub bytes_of : Known → ℕ → List ℕ → List ℕ
bytes_of ledger i file = take (get_or ledger.sizes i 0) (drop (end_of (take i ledger.sizes) + 15) file)
