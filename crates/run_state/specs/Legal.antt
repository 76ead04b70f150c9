-- Legal records: those that honest workers leave.
use Rattle.std.specs.Prelude.{◌≡◌, ℕ, List}
use Rattle.std.specs.List.{AllByRecursion, Contains}
use Rattle.poly_model.specs.Systems.{cone_of}
use Rattle.poly_model.specs.Extreme.{IsFeasible}
use Rattle.work_core.specs.Meanings.{StandsUnder}
use Rattle.work_core.specs.Searches.{Search, MayBegin, meaning_of}
use Rattle.work_core.specs.Splits.{Splits}
use Rattle.job_text.specs.declared.reply.Reply.{Reply}
use Rattle.run_state.specs.KeyLists.{KnownKeys}
use Rattle.run_state.specs.Payloads.{IsLedgerText}

-- the rows and keys of the reply part the share of its job
abbrev pub IsLegalReply : Search → Reply → Type 0
IsLegalReply s r = Splits (meaning_of s) r.key r.rows r.keys

-- a ledger text of a feasible polyhedron and a root at which its search may begin, whose replies part the shares of
-- their jobs
pub record AreLegal (s : Search) (replies : List Reply) (payloads : List (List ℕ)) : Type 0 where
  pub is_text : IsLedgerText s replies payloads
  pub feasible : IsFeasible (cone_of s.polyhedron)
  pub root : MayBegin s
  pub legal : AllByRecursion (IsLegalReply s) replies

-- of some search and replies
abbrev pub IsLegal : List (List ℕ) → Type 0
IsLegal payloads = (s : Search) × (replies : List Reply) × AreLegal s replies payloads

-- no waiting key lies under another, and no done key under a waiting one
pub record AreSideBySide (s : Search) (keys : KnownKeys) : Type 0 where
  pub waiting : (j k : List ℕ) → Contains keys.waiting j → Contains keys.waiting k → StandsUnder (meaning_of s) j k →
      j ≡ k
  pub done : (d k : List ℕ) → Contains keys.done d → Contains keys.waiting k → StandsUnder (meaning_of s) d k → ⊥
