-- What a call that runs a work does.
use Rattle.std.specs.Prelude.{◌≤◌, ◌^◌, ℕ, List, Option, Result}
use Rattle.poly_model.specs.declared.listed.Listed.{Listed}
use Rattle.poly_model.specs.Equations.{AreConsistent}
use Rattle.poly_reader.specs.Reading.{IsOfItsText}
use Rattle.work_core.specs.Searches.{Search}
use Rattle.job_text.specs.declared.first_payload.FirstPayload.{FirstPayload}
use Rattle.job_text.specs.declared.reply.Reply.{Reply}
use Rattle.job_text.specs.FirstPayloads.{IsRootText}
use Rattle.disk_core.specs.Contents.{Told}
use Rattle.job_ledger.specs.Records.{Records}
use Rattle.run_state.specs.Payloads.{IsLedgerText}
use Rattle.run_state.specs.Runs.{first_run, run_of}
use Rattle.run_ledger.specs.Printing.{WritesRun}
use Rattle.coordinator_core.specs.declared.options.Options.{Options}
use Rattle.coordinator_core.specs.Machine.{AreOptions, State, start_of}
use Rattle.coordinator.specs.declared.terms.Terms.{Terms}

-- the options are in their ranges, and the ledger's limit is
pub record AreTerms (terms : Terms) : Type 0 where
  pub options : AreOptions terms.options
  pub limit : terms.limit ≤ 2 ^ 40

-- what may be searched in a new run: the file has a text, and the root too, and the equations have a common point
pub record MayRun (first : FirstPayload) : Type 0 where
  pub root : IsRootText first.work first.root.key
  pub file : IsOfItsText first.poly
  pub consistent : AreConsistent first.poly

-- where a call goes on from: the state after these replies
abbrev pub state_after : Options → Search → List Reply → State
state_after options s replies = start_of options (run_of (first_run s) replies)

-- these records are a ledger text, and what they record is printed
pub record PrintsRecords {E : Type 0} (s : Search) (records : List (List ℕ)) (old new : Option (List ℕ)) (result : Result Listed E) : Type 0 where
  pub replies : List Reply
  pub is_text : IsLedgerText s replies records
  pub writes : WritesRun s replies old new result

-- the records of a file, and what they tell
pub record RecordedRun (seen : Option (List ℕ)) : Type 0 where
  pub search : Search
  pub replies : List Reply
  pub payloads : List (List ℕ)
  pub is_text : IsLedgerText search replies payloads
  pub has : Told seen (Records payloads)

-- where a call goes on from them
abbrev pub state_at : {seen : Option (List ℕ)} → Options → RecordedRun seen → State
state_at options r = state_after options r.search r.replies
