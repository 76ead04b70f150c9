use Rattle.std.proofs.Common.{◌≡◌, ◌↔◌, ◌∙◌, refl, sym, ap, subst, true≢false, Bool, true, false, not, get_or, add-one, suc, ◌+◌, ℕ}
use Rattle.std.specs.Bool.{IsTrue}
use Rattle.linear_laws.specs.Distinct.{AreDistinct}
use Rattle.poly_model.specs.LexOrder.{IsEarlier}
use Rattle.dictionary_laws.specs.Keys.{place_in}
use Rattle.dictionary.specs.Views.{number}
use Rattle.dictionary.proofs.PlaceLemmas.{place_at}
use Rattle.lexmin_test.proofs.word_points.is_zero_if_earlier.Goals.{After-is_zero_at}
use Rattle.lexmin_test.proofs.word_points.is_zero_if_earlier.Goals as goal

-- the row's entry at the label of column j is its cell there
cell : (c : After-is_zero_at) → number c.args.table.now.dict.now c.args.row
    (suc (place_in c.args.table.now.dict.now.columns (get_or c.args.table.now.dict.now.columns c.args.j 0)))
    ≡ number c.args.table.now.dict.now (get_or c.args.table.now.dict.now.rows c.args.place 0) (c.args.j + 1)
cell c =
    let d = c.args.table.now.dict.now in
    let once = subst AreDistinct c.columns-columns.ensures.value c.columns-columns.ensures.once in
    ap (λ (i : ℕ). number d i (suc (place_in d.columns (get_or d.columns c.args.j 0)))) (sym c.requires.row.place_is.label_is)
    ∙ ap (λ (n : ℕ). number d (get_or d.rows c.args.place 0) n)
    (ap suc (place_at d.columns c.args.j 0 once c.requires.column) ∙ sym (add-one c.args.j))

-- where it is not 0, a test of the order answers for it
by_order : (b : Bool) (E Z : Type 0) → IsTrue b ↔ E → (Z → ⊥) → (IsTrue (not b) → E → Z) × ((E → Z) → IsTrue (not b))
by_order true E Z h n = ((λ t. absurd (true≢false (sym t))), (λ f. absurd (n (f (h.0 refl)))))
by_order false E Z h n = ((λ t e. absurd (true≢false (sym (h.1 e)))), (λ f. refl))

pub returns-then-is_zero_at : goal.returns-then-is_zero_at
returns-then-is_zero_at c =
    let a = (goal.at.returns-then-is_zero_at c).After-is_zero_at in
    ((λ _ _. cell a ∙ c.if-is_zero_at.ensures.0 refl), (λ _. refl))

pub returns : goal.returns
returns c =
    let a = (goal.at.returns c).After-is_zero_at in
    let d = c.args.table.now.dict.now in
    by_order c.comes_before.result _ _
    (subst (λ (k : ℕ). IsTrue c.comes_before.result ↔ IsEarlier d.labels c.args.table.now.order.now k c.args.row)
    c.label_of_column.ensures.value c.comes_before.ensures)
    (λ z. true≢false (sym (c.if-is_zero_at.ensures.1 (sym (cell a) ∙ z))))
