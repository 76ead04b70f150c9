-- How far a run is: how many jobs are done, how many wait, and how many rows are recorded.
use Rattle.std.specs.Prelude.{◌≡◌, ℕ, List, [], ◌∷◌, ◌++◌, length, codes, decimal}
use Rattle.work_core.specs.Searches.{Search}
use Rattle.job_text.specs.declared.reply.Reply.{Reply}
use Rattle.run_state.specs.Runs.{first_run, run_of}
use Rattle.run_ledger.specs.declared.progress.Progress.{Progress}
use Rattle.run_ledger.specs.Recorded.{IsLedgerOf}

-- a word and a number, as a line
abbrev pub number_line : List ℕ → ℕ → List ℕ
number_line word n = word ++ (decimal n ++ 10 ∷ [])

-- a line for each number
abbrev pub progress_text : Progress → List ℕ
progress_text p =
    number_line (codes "done ") p.done
    ++ (number_line (codes "waiting ") p.waiting ++ number_line (codes "rows ") p.rows)

-- so far is the run whose ledger the file is
pub record IsProgressOf (p : Progress) (file : List ℕ) : Type 0 where
  pub search : Search
  pub replies : List Reply
  pub payloads : List (List ℕ)
  pub is_ledger : IsLedgerOf search replies payloads file
  pub done_are : p.done ≡ length replies
  pub waiting_are : p.waiting ≡ length (run_of (first_run search) replies).keys.waiting
  pub rows_are : p.rows ≡ (run_of (first_run search) replies).rows
