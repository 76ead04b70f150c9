-- What is printed of a run: the lines of the file, and then the recorded rows.
use Rattle.std.specs.Prelude.{◌≡◌, ℕ, List, length, Option, Result, IfOk, OnErr}
use Rattle.std.specs.List.{flat_map}
use Rattle.std.specs.Io.KnownBytes.{Appends}
use Rattle.poly_num.specs.Vectors.{Vector}
use Rattle.poly_model.specs.declared.listed.Listed.{Listed}
use Rattle.poly_model.specs.FreeColumns.{AreLines}
use Rattle.poly_model.specs.Listing.{listing_text}
use Rattle.poly_model.specs.ListingText.{row_text}
use Rattle.poly_model.specs.Systems.{cone_of}
use Rattle.poly_io.specs.Written.{AppendsPart}
use Rattle.row_printer.specs.Rows.{counted}
use Rattle.work_core.specs.Searches.{Search}
use Rattle.job_text.specs.declared.reply.Reply.{Reply}
use Rattle.run_state.specs.Runs.{recorded_rows}
use Rattle.run_ledger.specs.declared.printed.Printed.{Printed}

-- the text lists the lines of the file, and then the recorded rows
pub record IsRunListing (s : Search) (replies : List Reply) (text : List ℕ) : Type 0 where
  pub lines : List Vector
  pub are_lines : AreLines (cone_of s.polyhedron) lines
  pub is_text : text ≡ listing_text s.polyhedron.kind s.polyhedron.n lines (recorded_rows replies)

-- with so many rows and lines
pub record IsCountedRunListing (s : Search) (replies : List Reply) (text : List ℕ) (listed : Listed) : Type 0 where
  pub listing : IsRunListing s replies text
  pub rows : listed.rows ≡ counted 0 (length (recorded_rows replies))
  pub lines : listed.lines ≡ length listing.lines

-- known bytes grow by that listing at Ok, and by first bytes of it at Err
pub record WritesRun {E : Type 0} (s : Search) (replies : List Reply) (old new : Option (List ℕ))
    (result : Result Listed E) : Type 0 where
  pub whole : IfOk result (λ listed. (text : List ℕ) × IsCountedRunListing s replies text listed × Appends old new text)
  pub part : OnErr result ((text : List ℕ) × IsRunListing s replies text × AppendsPart old new text)

-- rows were written and counted at Ok, and first bytes of them at Err
pub record PrintsRows {E : Type 0} (rows : List Vector) (before : Printed) (old new : Option (List ℕ))
    (result : Result Printed E) : Type 0 where
  pub count : IfOk result (λ now. now.rows ≡ counted before.rows (length rows))
  pub whole : IfOk result (λ now. Appends old new (flat_map (row_text before.listing) rows))
  pub part : OnErr result (AppendsPart old new (flat_map (row_text before.listing) rows))
