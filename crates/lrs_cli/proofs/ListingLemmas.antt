-- What a call has listed whose records are legal and whose workers are trusted.
use Rattle.std.proofs.Common.{ℕ, List, ◌++◌, refl, length, Option}
use Rattle.poly_model.specs.declared.listed.Listed.{Listed}
use Rattle.row_printer.specs.Rows.{counted}
use Rattle.work_core.specs.Searches.{Search}
use Rattle.job_text.specs.declared.reply.Reply.{Reply}
use Rattle.run_state.specs.Payloads.{AreShort}
use Rattle.run_state.specs.Runs.{recorded_rows}
use Rattle.workers_io.specs.History.{Happening}
use Rattle.coordinator_core.specs.declared.options.Options.{Options}
use Rattle.run_ledger.specs.Printing.{IsCountedRunListing}
use Rattle.coordinator.specs.Calls.{state_after}
use Rattle.coordinator.specs.Following.{Finishes}
use Rattle.run_laws.specs.Laws.{IsHonestCall}
use Rattle.run_laws.proofs.RunLaws.{finished_calls_list}
use Rattle.lrs_cli.specs.Answers.{WritesPart, WritesWhole}
use Rattle.lrs_cli.specs.Ledgers.{WritesRecords, WritesRecordsPart}

-- the call that finishes from legal records
module _ (options : Options) (s : Search) (replies : List Reply) (payloads texts : List (List ℕ)) (old new : Option (List Happening))
    (honest : IsHonestCall options s replies payloads new) (finishes : Finishes (state_after options s replies) old new texts) (short : AreShort (payloads ++ texts)) where
  pub lists_whole : (written now : Option (List ℕ)) (rows lines : ℕ) → WritesRecords s (payloads ++ texts) written now rows lines → WritesWhole written now rows lines s.polyhedron
  lists_whole written now rows lines w = record {
    feasible = honest.legal.feasible;
    listing = w.text;
    counted = finished_calls_list options s replies payloads texts old new honest finishes short w.replies w.text (record { rows = rows; lines = lines }) w.is_text w.counted;
    written = w.written;
  }

  pub lists_part : (written now : Option (List ℕ)) → WritesRecordsPart s (payloads ++ texts) written now → WritesPart written now s.polyhedron
  lists_part written now w =
      let listed : Listed = record { rows = counted 0 (length (recorded_rows w.replies)); lines = length w.is_listing.lines } in
      let whole : IsCountedRunListing s w.replies w.text listed = record { listing = w.is_listing; rows = refl; lines = refl } in
      record {
        listing = w.text;
        is_listing = (finished_calls_list options s replies payloads texts old new honest finishes short w.replies w.text listed w.is_text whole).listing;
        written = w.written;
      }
