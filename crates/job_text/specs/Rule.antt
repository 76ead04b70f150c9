-- Which replies a job may be given.
use Rattle.std.specs.Prelude.{◌≡◌, ℕ, List}
use Rattle.poly_num.specs.Vectors.{Vector}
use Rattle.poly_model.specs.Overflows.{Passes}
use Rattle.work_core.specs.declared.budget.Budget.{Budget}
use Rattle.work_core.specs.Searches.{Search, meaning_of}
use Rattle.work_core.specs.Splits.{Splits, IsWithinBudget, AreWithin}
use Rattle.job_text.specs.declared.job.Job.{Job}
use Rattle.job_text.specs.declared.reply.Reply.{Reply}
use Rattle.job_text.specs.declared.reply.Tail.{Tail}
use Rattle.job_text.specs.declared.reply.Tail.TheVariants.{End, Overflow, Memory}
use Rattle.job_text.specs.Replies.{IsWholeReply}
use Rattle.job_text.specs.Jobs.{IsJobText}

-- the search of which it is a job
abbrev pub search_of : Job → Search
search_of job = record { work = job.head.work; polyhedron = job.poly; root = job.head.root.key }

-- at `end` the rows and keys part the share within the budget; before `overflow` and `memory` they lie in it
abbrev pub Obeys : Search → List ℕ → Budget → List Vector → List (List ℕ) → Tail → Type 0
Obeys s key budget rows keys (End count) =
    Splits (meaning_of s) key rows keys × IsWithinBudget (meaning_of s) key budget keys count.bases
Obeys s key budget rows keys (Overflow o) = Passes s.polyhedron o × AreWithin (meaning_of s) key rows keys
Obeys s key budget rows keys Memory = AreWithin (meaning_of s) key rows keys

-- the text is a whole reply of the job, and obeys its rule
pub record IsReply (job : Job) (text : List ℕ) : Type 0 where
  pub reply : Reply
  pub whole : IsWholeReply job.poly.n reply text
  pub key : reply.key ≡ job.head.key
  pub rule : Obeys (search_of job) job.head.key job.head.budget reply.rows reply.keys reply.tail

-- a reply that a text may be given: where the text is a job, one of that job
abbrev pub IsReplyFor : List ℕ → List ℕ → Type 0
IsReplyFor text reply = (job : Job) → IsJobText job text → IsReply job reply
