-- The input and the output of a call.
use Rattle.std.specs.Prelude.{ℕ, List, Option}
use Rattle.poly_io.specs.declared.sink.Sink.{Ghosts as Sink}
use Rattle.poly_io.specs.declared.source.Source.{Ghosts as Source}

-- the input and the output at a moment: the bytes that are left and that were written, where they are told, and how
-- often a read and a write has failed
pub record Streams : Type 0 where
  pub left : Option (List ℕ)
  pub read_faults : ℕ
  pub written : Option (List ℕ)
  pub write_faults : ℕ

abbrev pub streams : Option (List ℕ) → ℕ → Option (List ℕ) → ℕ → Streams
streams left read_faults written write_faults = record {
  left = left;
  read_faults = read_faults;
  written = written;
  write_faults = write_faults;
}

-- what this input and this output tell
abbrev pub streams_at : {I O : Type 0} → Source I → Sink O → I → O → Streams
streams_at source sink input out =
    streams (source.left input) (source.faults input) (sink.written out) (sink.faults out)
