use Rattle.std.proofs.Common.{◌≡◌, ◌∙◌, ap, rules, neg_ℤ, map, get_or}
use Rattle.std.specs.Prelude.{FitsSigned}
use Rattle.std.specs.Int.{w64}
use Rattle.std.proofs.lemmas.Int.{to_z-of_z}
use Rattle.poly_num.specs.Signs.{lex_sign_of}
use Rattle.search_laws.specs.ChildTest.{downward}
use Rattle.dictionary.specs.Views.{table_of}
use Rattle.lex_pivot.specs.Leads.{IsZeroBehind}
use Rattle.lex_pivot.proofs.NeighbourLemmas.{sum_is, sum_was}
use Rattle.lex_pivot.proofs.word_child.scanned_sign.Goals as goal

pub lead_from-requires-clause-behind : goal.lead_from-requires-clause-behind
lead_from-requires-clause-behind c =
    let d = c.args.table.now.dict.now in
    let a : FitsSigned w64 c.row_entry.result = search rules in
    let p : FitsSigned w64 c.negated.result = search rules in
    let f : FitsSigned w64 c.row_entry-2.result = search rules in
    let e = simp to_z-of_z at c.negated.ensures in
    simp to_z-of_z
    (sum_is (table_of d) c.args.pivot.now.col c.args.pivot.now.row (get_or d.columns c.args.j 0)
    c.label_of_column-other.result c.negated.result c.row_entry-2.result (e ∙ ap neg_ℤ c.row_entry.ensures.value)
    c.row_entry-2.ensures.value c.label_of_column-other.ensures.value
    (λ φ. IsZeroBehind d c.args.table.now.order.now φ c.args.top) c.requires.behind)

pub returns : goal.returns
returns c =
    let d = c.args.table.now.dict.now in
    let a : FitsSigned w64 c.row_entry.result = search rules in
    let p : FitsSigned w64 c.negated.result = search rules in
    let f : FitsSigned w64 c.row_entry-2.result = search rules in
    let e = simp to_z-of_z at c.negated.ensures in
    let s = simp to_z-of_z at c.lead_from.ensures.sign in
    sum_was (table_of d) c.args.pivot.now.col c.args.pivot.now.row (get_or d.columns c.args.j 0)
    c.label_of_column-other.result c.negated.result c.row_entry-2.result (e ∙ ap neg_ℤ c.row_entry.ensures.value)
    c.row_entry-2.ensures.value c.label_of_column-other.ensures.value
    (λ φ. c.lead_from.result.sign ≡ lex_sign_of (map φ (downward d.labels c.args.table.now.order.now))) s
