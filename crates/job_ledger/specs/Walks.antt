-- A walk through the records of a file.
use Rattle.std.specs.Prelude.{◌≡◌, ◌<◌, ℕ, List, ◌++◌, length, drop}
use Rattle.std.specs.List.{All}
use Rattle.job_ledger.specs.Ledgers.{payload_sizes}
use Rattle.job_ledger.specs.Records.{IsShort, Records, layout}
use Rattle.job_ledger.specs.Spans.{sizes_in}
use Rattle.job_ledger.specs.declared.span.Span.{Span}

-- the gates before this one are open, each with its record
pub record HasReached (spans : List Span) (at : ℕ) (file : List ℕ) : Type 0 where
  pub payloads : List (List ℕ)
  pub short : All IsShort payloads
  pub split : file ≡ layout payloads ++ drop at file
  pub place : at ≡ length (layout payloads)
  pub sizes : sizes_in spans ≡ payload_sizes payloads

-- records at these places, and there are some
pub record HasSpans (spans : List Span) (file : List ℕ) : Type 0 where
  pub payloads : List (List ℕ)
  pub some : 0 < length payloads
  pub has : Records payloads file
  pub sizes : sizes_in spans ≡ payload_sizes payloads

-- the records stand in the file, and their closed gate at end
pub record Stand (payloads : List (List ℕ)) (file : List ℕ) (end : ℕ) : Type 0 where
  pub has : Records payloads file
  pub place : end ≡ length (layout payloads)
