use Rattle.std.proofs.Common.{◌≡◌, ◌∙◌, subst, arith, ◌-◌, List, ℕ}
use Rattle.std.specs.List.{Contains}
use Rattle.dictionary_laws.specs.Keys.{place_in}
use Rattle.lex_pivot.proofs.LeadLemmas.{lead_of_label}
use Rattle.lex_pivot.proofs.leads.Leads.sign.Goals as goal

pub returns : goal.returns
returns c =
    let n : c.column_of.result - 1 ≡ place_in c.args.dict.now.columns c.args.col =
    (let v = c.column_of.ensures.value in omega (arith, v)) in
    c.at.ensures
    ∙ lead_of_label c.args.dict.now c.args.order.now c.args.self.now.signs c.requires.leads.leads c.args.col (c.column_of.result - 1)
    (subst (λ (ks : List ℕ). Contains ks c.args.col) c.columns-columns.ensures.value
    (c.columns-columns.ensures.key.there c.args.col c.requires.column)) n
