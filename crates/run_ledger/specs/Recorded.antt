-- What the records of a file say: a ledger text, or the first record that breaks it.
use Rattle.std.specs.Prelude.{◌≡◌, ◌⊎◌, ◌<◌, ◌≤◌, ◌-◌, ℕ, List, length, Option, Some, slice_get, take}
use Rattle.work_core.specs.Searches.{Search}
use Rattle.job_text.specs.declared.first_payload.FirstPayload.{FirstPayload}
use Rattle.job_text.specs.declared.reply.Reply.{Reply}
use Rattle.job_text.specs.Replies.{IsWholeReply}
use Rattle.disk_core.specs.Images.{Images}
use Rattle.job_ledger.specs.Ledgers.{IsLedgerAt, Known}
use Rattle.job_ledger.specs.Records.{IsBrokenAt, Records}
use Rattle.run_state.specs.Payloads.{IsBrokenPayload, IsLedgerText, SaysEnd}
use Rattle.run_state.specs.Runs.{IsRunOf, Run}

-- the records of the file are this ledger text
pub record IsLedgerOf (s : Search) (replies : List Reply) (payloads : List (List ℕ)) (file : List ℕ) : Type 0 where
  pub has : Records payloads file
  pub is_text : IsLedgerText s replies payloads

-- the layout of the file is whole, and the payload of this number, from 1, is the first that breaks the ledger text
pub record IsBrokenIn (number : ℕ) (file : List ℕ) (payloads : List (List ℕ)) : Type 0 where
  pub has : Records payloads file
  pub broken : IsBrokenPayload number payloads

-- the file is no ledger text: the first record whose layout is broken; where there is none, the first whose payload is
abbrev pub IsBadLedger : ℕ → List ℕ → Type 0
IsBadLedger number file = IsBrokenAt number file ⊎ ((payloads : List (List ℕ)) × IsBrokenIn number file payloads)

-- the payload of this number, from 0, is this reply, which ends in `end`, of rows of n numbers
pub record IsReplyAt (n : ℕ) (payloads : List (List ℕ)) (i : ℕ) (r : Reply) : Type 0 where
  pub payload : List ℕ
  pub at : slice_get payloads i ≡ Some payload
  pub whole : IsWholeReply n r payload
  pub ends : SaysEnd r.tail

-- the payload of this number, from 1, stands behind the first and is no such reply
pub record IsNoReplyAt (n : ℕ) (payloads : List (List ℕ)) (number : ℕ) : Type 0 where
  pub behind : 1 < number
  pub within : number ≤ length payloads
  pub none : (r : Reply) → IsReplyAt n payloads (number - 1) r → ⊥

-- the search that a first payload tells
abbrev pub search_in : FirstPayload → Search
search_in f = record { work = f.work; polyhedron = f.poly; root = f.root.key }

-- this is the payload of this number, from 0, of a ledger
abbrev pub IsPayloadAt : ℕ → List ℕ → Known → Option (List ℕ) → Images → Type 0
IsPayloadAt i payload ledger seen images =
    (payloads : List (List ℕ)) → IsLedgerAt ledger payloads seen images → slice_get payloads i ≡ Some payload

-- the run is that of the first payloads of a ledger, so many
pub record IsRunOfFirst (run : Run) (count : ℕ) (ledger : Known) (seen : Option (List ℕ)) (images : Images) :
    Type 0 where
  pub payloads : List (List ℕ)
  pub is_run : IsRunOf run payloads
  pub size : length payloads ≡ count
  pub are_first : (all : List (List ℕ)) → IsLedgerAt ledger all seen images → payloads ≡ take count all
