use Rattle.std.proofs.Common.{◌≡◌, ℕ, suc, ◌+◌, ◌<◌, List, ◌∷◌, ◌++◌, length, drop, get_or, add-one, drop-cons, ap, sym, ◌∙◌, arith}
use Rattle.std.specs.List.{flat_map}
use Rattle.poly_num.specs.Vectors.{Vector}
use Rattle.poly_io.proofs.Parts.{owes_cut, owes_less, prints_cut}
use Rattle.poly_model.specs.ListingText.{vector_text}
use Rattle.row_printer.proofs.listing.Listing.begin.Goals as goal

-- the lines from one on are that one and the others
next_line : (lines : List Vector) (i : ℕ) (line given : Vector) → i < length lines → line ≡ get_or lines i line →
    given ≡ line → flat_map vector_text (drop i lines) ≡ vector_text given ++ flat_map vector_text (drop (i + 1) lines)
next_line lines i line given l e f =
    rw (add-one i) (ap (flat_map vector_text) (drop-cons lines i line l ∙ ap (λ v. v ∷ drop (suc i) lines) (sym e))
    ∙ ap (λ v. vector_text v ++ flat_map vector_text (drop (suc i) lines)) (sym f))

pub returns-in_err-listing-clause-prints : goal.returns-in_err-listing-clause-prints
returns-in_err-listing-clause-prints g c =
    prints_cut (flat_map vector_text c.args.lines.now) c.from_residual.ensures.0 c.in_err-listing.ensures.prints

pub returns-in_err-listing-2-clause-prints : goal.returns-in_err-listing-2-clause-prints
returns-in_err-listing-2-clause-prints g c =
    owes_cut _ c.lines.invariant.owes
    (next_line c.args.lines.now c.lines.line-index _ _ (let t = c.lines-test.true in omega arith) c.line-item.is
    c.as_slice.ensures)
    c.from_residual-in_err-listing-2.ensures.0 c.in_err-listing-2.ensures.prints

pub lines-preserved : goal.lines-preserved
lines-preserved g c =
    record {
      owes = owes_less c.lines.invariant.owes
          (next_line c.args.lines.now c.lines.line-index _ _ (let t = c.lines-test.true in omega arith) c.line-item.is
          c.as_slice.ensures)
          c.in_ok-listing-2.ensures.prints;
      kind = c.in_ok-listing-2.ensures.kind ∙ c.lines.invariant.kind;
    }
