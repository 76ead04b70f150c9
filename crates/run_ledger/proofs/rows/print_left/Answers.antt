use Rattle.std.proofs.Common.{◌≡◌, ◌∷◌, ◌∙◌, [], List, ℕ, length, append-nil, refl, sym, subst}
use Rattle.std.proofs.lemmas.List.Concat.{flat_map-cons}
use Rattle.std.specs.Io.KnownBytes.{Appends}
use Rattle.std.specs.List.{flat_map}
use Rattle.poly_num.specs.Vectors.{Vector}
use Rattle.poly_model.specs.ListingText.{row_text}
use Rattle.poly_model.specs.declared.kind.Kind.{Kind}
use Rattle.poly_io.specs.Written.{AppendsPart}
use Rattle.job_text.specs.LeftRows.{TakesRow}
use Rattle.run_ledger.proofs.RowsOwed.{owes_fewer, owes_nothing, stops_within}
use Rattle.run_ledger.proofs.rows.print_left.Goals as goal

-- the text of one row, as that of some
one_row : (listing : Kind) (next : Vector) → row_text listing next ≡ flat_map (row_text listing) (next ∷ [])
one_row listing next = sym (flat_map-cons (row_text listing) next [] ∙ append-nil (row_text listing next))

pub returns-in_err-printed-in-Ok-Some-clause-rows : goal.returns-in_err-printed-in-Ok-Some-clause-rows
returns-in_err-printed-in-Ok-Some-clause-rows g c rows left =
    let (rest, at, owes) = c.rows.invariant.owes rows left in
    let takes : TakesRow (length c.args.row.now) rest c.in-Ok-Some.line.now c.in-Ok-Some.rest.now =
    (rw c.in-Ok-Some.field-0-is at c.in-Ok-Some.ensures.row) (length c.args.row.now) rest at in
    let next = takes.row in
    stops_within g.O.Sink rows c.args.printed c.args.out.now rest c.rows.printed c.rows.out owes (next ∷ []) takes.others
    takes.first c.print_row.new.out
    (subst (λ (t : List ℕ). AppendsPart (g.O.Sink.written c.rows.out) (g.O.Sink.written c.print_row.new.out) t)
    (one_row c.rows.printed.listing next)
    (c.in_err-printed-in-Ok-Some.ensures.prints next (takes.width ∙ sym c.rows.invariant.size) takes.nums takes.is_text).part)
    c.from_residual.result c.from_residual.ensures.0

pub rows-preserved : goal.rows-preserved
rows-preserved g c =
    let inv = c.rows.invariant in
    let same = c.in_ok-printed-in-Ok-Some.ensures.cause.same in
    record {
      kind = c.in_ok-printed-in-Ok-Some.ensures.kind ∙ inv.kind;
      size = c.in_ok-printed-in-Ok-Some.ensures.size ∙ inv.size;
      same = same ∙ inv.same;
      owes = λ rows left.
          let (rest, at, owes) = inv.owes rows left in
          let takes : TakesRow (length c.args.row.now) rest c.in-Ok-Some.line.now c.in-Ok-Some.rest.now =
          (rw c.in-Ok-Some.field-0-is at c.in-Ok-Some.ensures.row) (length c.args.row.now) rest at in
          let next = takes.row in (
            takes.others,
            takes.left,
            owes_fewer g.O.Sink rows c.args.printed c.args.out.now rest c.rows.printed c.rows.out owes (next ∷ []) takes.others
                takes.first c.in_ok-printed-in-Ok-Some.printed c.print_row.new.out
                (subst (λ (t : List ℕ). Appends (g.O.Sink.written c.rows.out) (g.O.Sink.written c.print_row.new.out) t)
                (one_row c.rows.printed.listing next)
                (c.in_ok-printed-in-Ok-Some.ensures.prints next (takes.width ∙ sym inv.size) takes.nums takes.is_text).whole)
                c.in_ok-printed-in-Ok-Some.ensures.kind c.in_ok-printed-in-Ok-Some.ensures.count same,
          );
    }

pub returns-in-Ok-None-clause-rows : goal.returns-in-Ok-None-clause-rows
returns-in-Ok-None-clause-rows g c rows left =
    let (rest, at, owes) = c.rows.invariant.owes rows left in
    owes_nothing g.O.Sink rows c.args.printed c.args.out.now rest c.rows.printed c.rows.out owes
    ((rw c.in-Ok-None.field-0-is at c.in-Ok-None.ensures.end) refl (length c.args.row.now) rest at)

pub returns-in-Err-clause-rows : goal.returns-in-Err-clause-rows
returns-in-Err-clause-rows g c rows left =
    let (rest, at, owes) = c.rows.invariant.owes rows left in
    absurd (c.in-Err.ensures.bad (length c.args.row.now) rest at)

pub returns-in-Err-clause-bad : goal.returns-in-Err-clause-bad
returns-in-Err-clause-bad g c number e =
    let same : number ≡ c.args.place = cc in (
      same,
      λ rows left. let (rest, at, owes) = c.rows.invariant.owes rows left in
          c.in-Err.ensures.bad (length c.args.row.now) rest at,
    )
