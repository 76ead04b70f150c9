use Rattle.std.proofs.Common.{◌≡◌, inl, inr, sym, subst}
use Rattle.poly_model.specs.declared.kind.Kind.{Kind}
use Rattle.poly_model.specs.ListingText.{row_text, vector_text}
use Rattle.run_ledger.proofs.EntryLines.{facet_line, line_of_entries}
use Rattle.run_ledger.proofs.rows.is_line.Goals as goal

pub returns-in-V : goal.returns-in-V
returns-in-V c t v nums e = subst (λ (k : Kind). row_text k v ≡ vector_text v) (sym c.in-V.is) (facet_line v)

pub returns-then-is_text : goal.returns-then-is_text
returns-then-is_text c t v nums e =
    let cut = c.in-Some.ensures in
    subst (λ (k : Kind). row_text k v ≡ vector_text v) (sym c.in-H.is)
    (line_of_entries c.args.entries.now cut.0 c.in-Some.first.now c.in-Some.field-0-1.now cut.1 cut.2
    (inl (c.is_text.ensures.0 c.if-is_text.true)) v nums e)

pub returns-else-is_text : goal.returns-else-is_text
returns-else-is_text c one v nums e =
    let cut = c.in-Some.ensures in
    subst (λ (k : Kind). row_text k v ≡ vector_text v) (sym c.in-H.is)
    (line_of_entries c.args.entries.now cut.0 c.in-Some.first.now c.in-Some.field-0-1.now cut.1 cut.2
    (inr (c.is_text-else-is_text.ensures.0 one)) v nums e)
