-- Where the payloads of a file lie.
use Rattle.std.specs.Prelude.{◌≡◌, ◌+◌, ℕ, List, [], ◌∷◌, map}
use Rattle.job_ledger.specs.Ledgers.{end_of}
use Rattle.job_ledger.specs.declared.span.Span.{Span}

abbrev pub sizes_in : List Span → List ℕ
sizes_in spans = map (λ (s : Span). s.len) spans

-- payloads of these sizes, with the first gate at an offset
abbrev pub spans_of : ℕ → List ℕ → List Span
spans_of at [] = []
spans_of at (n ∷ sizes) = record { at = at + 15; len = n } ∷ spans_of (at + 15 + n) sizes

-- each payload lies behind the one before it, and the closed gate behind the last
pub record ArePlaced (spans : List Span) (end : ℕ) : Type 0 where
  pub each : spans ≡ spans_of 0 (sizes_in spans)
  pub last : end ≡ end_of (sizes_in spans)
