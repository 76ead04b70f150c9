-- What is known after the records of a run: which keys came, which of them wait and which are done, and how many rows
-- are recorded.
use Rattle.std.specs.Prelude.{◌≡◌, ℕ, List, [], ◌∷◌, ◌++◌, length}
use Rattle.poly_num.specs.Vectors.{Vector}
use Rattle.row_printer.specs.Rows.{counted}
use Rattle.work_core.specs.Searches.{Search, meaning_of}
use Rattle.job_text.specs.declared.reply.Reply.{Reply}
use Rattle.run_state.specs.KeyLists.{KnownKeys}
use Rattle.run_state.specs.Payloads.{IsLedgerText, first_keys, keys_after}

-- the keys that came stand in their order, so that a place names a key for good. The count of rows stands still at
-- 2^64 - 1
pub record Run : Type 0 where
  pub search : Search
  pub came : List (List ℕ)
  pub keys : KnownKeys
  pub rows : ℕ

-- before any reply
abbrev pub first_run : Search → Run
first_run s = record { search = s; came = (meaning_of s).first_key ∷ []; keys = first_keys s; rows = 0 }

-- after one more reply
abbrev pub run_after : Run → Reply → Run
run_after run r = record {
  search = run.search;
  came = run.came ++ r.keys;
  keys = keys_after run.keys r;
  rows = counted run.rows (length r.rows);
}

-- after these replies, one after the other
abbrev pub run_of : Run → List Reply → Run
run_of run [] = run
run_of run (r ∷ replies) = run_of (run_after run r) replies

-- the payloads are a ledger text, and this is the run that they tell
pub record IsRunOf (run : Run) (payloads : List (List ℕ)) : Type 0 where
  pub search : Search
  pub replies : List Reply
  pub is_text : IsLedgerText search replies payloads
  pub is_run : run ≡ run_of (first_run search) replies

-- the rows that are recorded, in order
abbrev pub recorded_rows : List Reply → List Vector
recorded_rows [] = []
recorded_rows (r ∷ replies) = r.rows ++ recorded_rows replies
