use Rattle.std.proofs.Common.{ap, subst, arith, length, ℕ, List}
use Rattle.linear_laws.specs.Distinct.{AreDistinct}
use Rattle.poly_model.specs.Keys.{IsAscending}
use Rattle.dictionary_laws.specs.Keys.{HaveSameLabels}
use Rattle.lex_pivot.specs.Leads.{Outlook}
use Rattle.lex_pivot.proofs.LeadLemmas.{as_many}
use Rattle.lex_pivot.proofs.leads.Leads.read.Goals as goal

pub gather-self-inside-requires : goal.gather-self-inside-requires
gather-self-inside-requires c =
    let columns = c.columns-columns.ensures in
    let key = c.cobasis-cobasis.ensures in
    let many = as_many c.args.dict.now.key c.args.dict.now.columns (subst IsAscending key.value key.ascending)
    (subst AreDistinct columns.value columns.once)
    (subst (λ (ks : List ℕ). HaveSameLabels c.args.dict.now.key ks) columns.value columns.key) in
    let room = c.deref_mut-2.ensures.len in
    let signs = c.self.invariant.0 in
    let view = ap (λ (o : Outlook). length o.signs) c.self.view_is in
    let all = c.requires in
    omega (arith, many, room, signs, view, all)
