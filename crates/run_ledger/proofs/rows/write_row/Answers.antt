use Rattle.std.proofs.Common.{◌≡◌, ◌∙◌, ◌++◌, ◌∷◌, ◌-◌, [], ℕ, List, inl, inr, length, length-append, take, sym, ap, subst, append-nil, arith}
use Rattle.std.proofs.Math.Seq.{take-append_seam}
use Rattle.std.proofs.lemmas.Bool.{cases_Bool}
use Rattle.poly_num.specs.Vectors.{Vector}
use Rattle.poly_model.specs.ListingText.{row_text, vector_text, entries_text}
use Rattle.poly_io.specs.Written.{Prints}
use Rattle.job_text.proofs.EntryLemmas.{entries_tell}
use Rattle.run_ledger.proofs.rows.write_row.Goals as goal

-- a line without its line feed
entries_in : (line entries : List ℕ) → line ≡ entries ++ 10 ∷ [] → take (length line - 1) line ≡ entries
entries_in line entries e =
    let n : length line - 1 ≡ length entries = omega (arith, ap (λ (l : List ℕ). length l) e, length-append entries (10 ∷ [])) in
    rw (n, e) (take-append_seam entries (10 ∷ []))

entries_of : (line : List ℕ) (v : Vector) → line ≡ vector_text v → take (length line - 1) line ≡ entries_text v
unfolding vector_text
entries_of line v e = entries_in line (entries_text v) e

pub read_entries-requires : goal.read_entries-requires
read_entries-requires g c = rw (entries_in c.args.line.now c.requires.entries c.requires.whole) c.requires.blank

pub returns-then-is_line-clause-prints : goal.returns-then-is_line-clause-prints
returns-then-is_line-clause-prints g c v count nums e =
    let line : c.args.line.now ≡ row_text c.args.listing v =
    e ∙ sym (c.is_line.ensures c.if-is_line.true v nums (entries_of c.args.line.now v e))
    ∙ ap (λ k. row_text k v) c.kind.ensures in
    subst (λ (t : List ℕ). Prints g.O.Sink c.args.out.now c.row_by_text.new.out c.row_by_text.result t) line
    c.row_by_text.ensures.prints

pub returns-else-is_line-clause-prints : goal.returns-else-is_line-clause-prints
returns-else-is_line-clause-prints g c v count nums e = elim (cases_Bool c.read_entries.result) [
  | inl read ↦
      let is = c.read_entries.ensures.yes read in
      let same = entries_tell v c.read_entries.new.row [] nums is.0 tt (count ∙ sym c.read_entries.ensures.size)
      (append-nil (entries_text v) ∙ sym (entries_of c.args.line.now v e) ∙ is.1) in
      subst (λ (w : Vector). Prints g.O.Sink c.args.out.now c.row.new.out c.row.result (row_text c.args.listing w))
      (sym same.0) c.row.ensures.prints
  | inr unread ↦ absurd (c.read_entries.ensures.no unread v count nums (entries_of c.args.line.now v e))
]
