-- What went out at a call that prints a text.
use Rattle.std.specs.Prelude.{◌≡◌, ℕ, List, ◌++◌, Result, OnOk, OnErr, Option}
use Rattle.std.specs.Io.KnownBytes.{Appends}
use Rattle.poly_io.specs.declared.sink.Sink.{Ghosts as Sink}
use Rattle.poly_io.specs.Causes.{HasCause}

-- known bytes grow by the first bytes of a text
pub record AppendsPart (old new : Option (List ℕ)) (text : List ℕ) : Type 0 where
  pub sent : List ℕ
  pub unsent : List ℕ
  pub split : text ≡ sent ++ unsent
  pub bytes : Appends old new sent

-- a sink's bytes grow by the whole text at Ok, and by its first bytes at Err, which comes where a write has failed
pub record Prints {O T E : Type 0} (sink : Sink O) (old new : O) (result : Result T E) (text : List ℕ) : Type 0 where
  pub whole : OnOk result (Appends (sink.written old) (sink.written new) text)
  pub part : OnErr result (AppendsPart (sink.written old) (sink.written new) text)
  pub cause : HasCause (sink.faults old) (sink.faults new) result
