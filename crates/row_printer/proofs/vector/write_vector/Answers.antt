use Rattle.std.proofs.Common.{[], ◌∷◌}
use Rattle.poly_io.proofs.Parts.{prints_cut, prints_then}
use Rattle.poly_model.specs.ListingText.{vector_text}
use Rattle.row_printer.proofs.vector.write_vector.Goals as goal

pub returns-in_err-write_entries : goal.returns-in_err-write_entries
unfolding vector_text
returns-in_err-write_entries g c = prints_cut (10 ∷ []) c.from_residual.ensures.0 c.in_err-write_entries.ensures

pub returns : goal.returns
unfolding vector_text
returns g c = prints_then c.in_ok-write_entries.ensures c.write_all.ensures
