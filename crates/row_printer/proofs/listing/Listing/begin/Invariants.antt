use Rattle.std.proofs.Common.{◌≡◌, ◌++◌, drop, length}
use Rattle.std.specs.List.{flat_map}
use Rattle.poly_io.proofs.Parts.{Owes}
use Rattle.poly_model.specs.ListingText.{head_text, vector_text}
use Rattle.row_printer.proofs.listing.Listing.begin.Given as goal

-- all but the lines from this one on went out
abbrev pub invariant-lines : goal.invariant-lines
invariant-lines g l = record {
  owes : Owes g.S.Sink l.fn.out l.out (head_text l.fn.kind l.fn.n (length l.lines) ++ flat_map vector_text l.lines)
      (flat_map vector_text (drop l.line-index l.lines));
  kind : l.listing ≡ l.fn.kind;
}
