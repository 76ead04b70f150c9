-- What a reader took from a source.
use Rattle.std.specs.Prelude.{◌≡◌, ◌⊎◌, ◌+◌, ℕ, List, Option, length}
use Rattle.std.specs.Io.KnownBytes.{Consumes, IsAtEnd}
use Rattle.poly_model.specs.Systems.{Polyhedron}
use Rattle.poly_reader.specs.declared.bad.BadFile.{BadFile}
use Rattle.poly_reader.specs.Limits.{most_file_bytes}
use Rattle.poly_reader.specs.Reading.{IsFirstFault, IsOfItsText}

-- the source was read to its end, and what was taken is the text of this polyhedron
pub record FindsPolyhedron (old new : Option (List ℕ)) (p : Polyhedron) : Type 0 where
  pub taken : Consumes old new p.text
  pub ends : IsAtEnd new
  pub read : IsOfItsText p

-- the source was read to its end, or to one byte past the longest file, and this is the fault of what was taken
pub record FindsFault (old new : Option (List ℕ)) (f : BadFile) : Type 0 where
  pub text : List ℕ
  pub taken : Consumes old new text
  pub enough : IsAtEnd new ⊎ (length text ≡ most_file_bytes + 1)
  pub read : IsFirstFault text f
