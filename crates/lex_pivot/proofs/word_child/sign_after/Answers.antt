use Rattle.std.proofs.Common.{◌≡◌, ◌∙◌, refl, true≢false, sym, subst, ap, rules, arith, get_or, ◌-◌, ℕ, List}
use Rattle.std.specs.Prelude.{FitsSigned}
use Rattle.std.specs.Int.{w64}
use Rattle.std.specs.List.{Contains}
use Rattle.std.proofs.lemmas.Int.{to_z-of_z}
use Rattle.poly_num.specs.Signs.{sign_of}
use Rattle.search_laws.specs.ChildTest.{downward}
use Rattle.poly_model.specs.Keys.{IsAscending}
use Rattle.poly_model.specs.Dictionaries.{Table}
use Rattle.dictionary_laws.specs.Keys.{place_in}
use Rattle.dictionary.specs.Views.{table_of}
use Rattle.dictionary.proofs.PlaceLemmas.{place_within, at_place}
use Rattle.lex_pivot.specs.Leads.{IsTop}
use Rattle.lex_pivot.proofs.NeighbourLemmas.{stays, theirs_decides, ours_decides, zero_after}
use Rattle.lex_pivot.proofs.word_child.sign_after.Goals.{After-row_entry-f, After-top-theirs}
use Rattle.lex_pivot.proofs.word_child.sign_after.Goals as goal

up : (c : After-row_entry-f) → IsAscending c.args.table.now.dict.now.labels
up c = subst IsAscending c.labels-all.ensures.value c.labels-all.ensures.ascending

root_up : (c : After-row_entry-f) → IsAscending c.args.table.now.order.now
root_up c = subst IsAscending c.root_labels-root.ensures.value c.root_labels-root.ensures.ascending

-- the entering column has a place among the columns
entering : (c : After-top-theirs) → Contains c.args.table.now.dict.now.columns c.args.pivot.now.col
entering c =
    subst (λ (ks : List ℕ). Contains ks c.args.pivot.now.col) c.columns-columns.ensures.value
    (c.columns-columns.ensures.key.there c.args.pivot.now.col c.requires.at.column)

-- the entry of the row that leaves in the column
entry_is : (c : After-row_entry-f) → Table.entry (table_of c.args.table.now.dict.now) c.args.pivot.now.row
    (get_or c.args.table.now.dict.now.columns c.args.j 0) ≡ c.row_entry-f.result
entry_is c =
    ap (λ (k : ℕ). Table.entry (table_of c.args.table.now.dict.now) c.args.pivot.now.row k) (sym c.label_of_column-other.ensures.value)
    ∙ sym c.row_entry-f.ensures.value

ours : (c : After-top-theirs) → IsTop c.args.table.now.dict.now c.args.table.now.order.now
    (λ q. Table.entry (table_of c.args.table.now.dict.now) q c.args.pivot.now.col) c.top-own.result
ours c =
    let d = c.args.table.now.dict.now in
    let col = c.args.pivot.now.col in
    let m = entering c in
    let v = c.column_of.ensures.value in
    let n : c.column_of.result - 1 ≡ place_in d.columns col = omega (arith, v) in
    subst (λ (k : ℕ). IsTop d c.args.table.now.order.now (λ q. Table.entry (table_of d) q k) c.top-own.result)
    (at_place d.columns col 0 m)
    (subst (IsTop d c.args.table.now.order.now (λ q. Table.entry (table_of d) q (get_or d.columns (place_in d.columns col) 0)))
    (sym (c.top-own.ensures ∙ ap (λ (i : ℕ). get_or c.args.leads.now.tops i 0) n))
    (c.requires.at.leads.tops.each (place_in d.columns col) (place_within d.columns col m)))

theirs : (c : After-top-theirs) → IsTop c.args.table.now.dict.now c.args.table.now.order.now
    (λ q. Table.entry (table_of c.args.table.now.dict.now) q (get_or c.args.table.now.dict.now.columns c.args.j 0)) c.top-theirs.result
theirs c =
    let d = c.args.table.now.dict.now in
    subst (IsTop d c.args.table.now.order.now (λ q. Table.entry (table_of d) q (get_or d.columns c.args.j 0)))
    (sym c.top-theirs.ensures) (c.requires.at.leads.tops.each c.args.j c.requires.other)

pub returns-then-is_zero : goal.returns-then-is_zero
returns-then-is_zero c =
    let a = (goal.at.returns-then-is_zero c).After-row_entry-f in
    let fits : FitsSigned w64 c.row_entry-f.result = search rules in
    let d = c.args.table.now.dict.now in
    c.at.ensures ∙ c.requires.at.leads.leads.signs c.args.j c.requires.other
    ∙ stays (table_of d) c.args.pivot.now.col c.args.pivot.now.row (get_or d.columns c.args.j 0)
    (downward d.labels c.args.table.now.order.now) c.requires.at.leaves.negative (entry_is a ∙ sym (to_z-of_z w64 c.row_entry-f.result fits) ∙ c.if-is_zero.ensures.0 refl)

pub returns-then-own-theirs : goal.returns-then-own-theirs
returns-then-own-theirs c =
    let a = (goal.at.returns-then-own-theirs c).After-top-theirs in
    let b = (goal.at.returns-then-own-theirs c).After-row_entry-f in
    let d = c.args.table.now.dict.now in
    c.at-then-own-theirs.ensures ∙ c.requires.at.leads.leads.signs c.args.j c.requires.other
    ∙ theirs_decides d c.args.table.now.order.now (up b) (root_up b) c.args.pivot.now.col c.args.pivot.now.row
    (get_or d.columns c.args.j 0) c.top-own.result c.top-theirs.result c.requires.at.leaves.negative (ours a) (theirs a)
    c.if-own-theirs.true

pub returns-then-theirs-own : goal.returns-then-theirs-own
returns-then-theirs-own c =
    let a = (goal.at.returns-then-theirs-own c).After-top-theirs in
    let b = (goal.at.returns-then-theirs-own c).After-row_entry-f in
    let d = c.args.table.now.dict.now in
    let fits : FitsSigned w64 c.row_entry-f.result = search rules in
    let order = simp to_z-of_z at c.order_of_words.ensures in
    order ∙ ap sign_of (sym (entry_is b))
    ∙ ours_decides d c.args.table.now.order.now (up b) (root_up b) c.args.pivot.now.col c.args.pivot.now.row
    (get_or d.columns c.args.j 0) c.top-own.result c.top-theirs.result c.requires.at.leaves.negative (ours a) (theirs a)
    c.if-theirs-own.true c.requires.at.up (λ z. true≢false (sym (c.if-is_zero.ensures.1 (to_z-of_z w64 c.row_entry-f.result fits ∙ sym (entry_is b) ∙ z))))

pub scanned_sign-requires-clause-behind : goal.scanned_sign-requires-clause-behind
scanned_sign-requires-clause-behind c =
    let a = (goal.at.scanned_sign-requires-clause-behind c).After-top-theirs in
    let b = (goal.at.scanned_sign-requires-clause-behind c).After-row_entry-f in
    let d = c.args.table.now.dict.now in
    record {
      inside = (ours a).behind.inside;
      zero = zero_after d c.args.table.now.order.now (up b) (root_up b) c.args.pivot.now.col c.args.pivot.now.row
          (get_or d.columns c.args.j 0) c.top-own.result c.top-theirs.result c.requires.at.leaves.negative (ours a) (theirs a)
          c.top-own.result (omega arith) c.if-own-theirs.false;
    }
