use Rattle.std.proofs.Common.{◌≡◌, ap, subst, arith, length, ℕ}
use Rattle.poly_model.specs.Dictionaries.{Table}
use Rattle.dictionary.specs.Views.{table_of}
use Rattle.lex_pivot.specs.Scans.{IsLead}
use Rattle.lex_pivot.proofs.LeadLemmas.{one_lead_more, have_leads, have_tops}
use Rattle.lex_pivot.proofs.leads.read_in_words.Goals as goal

pub put_lead-requires-clause-top : goal.put_lead-requires-clause-top
put_lead-requires-clause-top c =
    let i = c.root_lead_in_words-lead.ensures.top.behind.inside in
    let v = c.root_count-count.ensures.value in
    let r = c.root_count-count.ensures.room in
    omega (arith, i, v, r)

pub columns-preserved : goal.columns-preserved
columns-preserved c =
    let d = c.args.table.now.dict.now in
    let root = c.args.table.now.order.now in
    let n : length c.columns-j-end.result.now ≡ length d.columns = ap length c.columns-j-end.ensures.value in
    let t = c.columns-test.true in
    one_lead_more d root c.columns.j c.columns.signs c.put_lead.new.signs c.columns.tops c.put_lead.new.tops
    c.root_lead_in_words-lead.result (omega (arith, t, n)) c.columns.invariant
    (subst (λ (k : ℕ). IsLead d root (λ q. Table.entry (table_of d) q k) c.root_lead_in_words-lead.result)
    c.label_of_column-col.ensures.value c.root_lead_in_words-lead.ensures) c.put_lead.ensures.signs c.put_lead.ensures.tops

pub returns-clause-signs : goal.returns-clause-signs
returns-clause-signs c =
    let n : length c.columns-j-end.result.now ≡ length c.args.table.now.dict.now.columns = ap length c.columns-j-end.ensures.value in
    let t = c.columns-test.false in
    have_leads c.args.table.now.dict.now c.args.table.now.order.now c.columns.j c.columns.signs c.columns.tops (omega (arith, t, n))
    c.columns.invariant

pub returns-clause-tops : goal.returns-clause-tops
returns-clause-tops c =
    let n : length c.columns-j-end.result.now ≡ length c.args.table.now.dict.now.columns = ap length c.columns-j-end.ensures.value in
    let t = c.columns-test.false in
    have_tops c.args.table.now.dict.now c.args.table.now.order.now c.columns.j c.columns.signs c.columns.tops (omega (arith, t, n))
    c.columns.invariant
