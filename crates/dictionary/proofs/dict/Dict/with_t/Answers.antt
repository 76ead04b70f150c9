use Rattle.std.proofs.Common.{◌≡◌, List, ℕ, [], ◌∷◌, ◌++◌, arith, sym, ap, subst, ◌∙◌, ⊎_elim}
use Rattle.std.specs.List.{Contains}
use Rattle.std.proofs.lemmas.Result.{IfOk-weaker}
use Rattle.poly_model.specs.declared.overflow.Phase.TheVariants.{First}
use Rattle.poly_model.specs.Keys.{with_label}
use Rattle.dictionary_laws.proofs.Members.{contains_cases}
use Rattle.dictionary.specs.Views.{Dictionary, IsWhole}
use Rattle.dictionary.specs.FirstPhase.{AddsT}
use Rattle.dictionary.proofs.AddedT.{with_t_added, whole_with_t, adds_t, made_with_t}
use Rattle.dictionary.proofs.dict.Dict.with_t.Goals as goal
use Rattle.dictionary.proofs.dict.Dict.with_t.Goals.{In_ok-cells}

whole : (c : In_ok-cells) → IsWhole c.args.self.now
whole c = subst (λ (d : Dictionary). IsWhole d) c.self.view_is c.self.invariant.2

labels_are : (c : In_ok-cells) → c.in_ok-labels.labels.items ≡ 0 ∷ c.args.self.now.labels
labels_are c = c.in_ok-labels.ensures ∙ ap (λ (d : Dictionary). 0 ∷ d.labels) c.self.view_is

made : (c : In_ok-cells) (key : List ℕ) → key ≡ with_label 0 c.self.inside.key →
    ◌≡◌ {A = Dictionary} (record {
      phase = First;
      labels = c.in_ok-labels.labels.items;
      key = key;
      columns = c.in_ok-columns.columns.items;
      rows = c.in_ok-rows.rows.items;
      denominator = c.self.inside.denominator;
      cells = c.in_ok-cells.cells.items;
    }) (with_t_added c.args.self.now (whole c) c.requires)
made c key e =
    let view = c.self.view_is in
    made_with_t c.args.self.now (whole c) c.requires _ key _ _ _ _ (labels_are c)
    (e ∙ ap (λ (d : Dictionary). with_label 0 d.key) view)
    (c.in_ok-columns.ensures ∙ ap (λ (d : Dictionary). d.columns ++ 0 ∷ []) view)
    (c.in_ok-rows.ensures ∙ ap (λ (d : Dictionary). d.rows) view)
    (ap (λ (d : Dictionary). d.denominator) view) c.in_ok-cells.ensures

pub arranged-requires-clause-whole : goal.arranged-requires-clause-whole
arranged-requires-clause-whole c =
    let all = (goal.at.arranged-requires-clause-whole c).In_ok-cells in
    subst (λ (d : Dictionary). IsWhole d) (sym (made all c.with.result c.with.ensures.value))
    (whole_with_t c.args.self.now (whole all) c.requires)

pub arranged-requires-clause-below : goal.arranged-requires-clause-below
arranged-requires-clause-below c k m =
    ⊎_elim (λ (e : k ≡ 0). omega (arith, e))
    (λ (h : Contains c.self.inside.labels.items k). c.self.invariant.3 k h)
    (contains_cases 0 c.self.inside.labels.items k
    (subst (λ (ks : List ℕ). Contains ks k) c.in_ok-labels.ensures m))

pub returns : goal.returns
returns c =
    let all = (goal.at.returns c).In_ok-cells in
    IfOk-weaker c.arranged.result _ _
    (λ d e.
    subst (λ (n : Dictionary). AddsT c.args.self.now n) (sym (e ∙ made all c.with.result c.with.ensures.value))
    (adds_t c.args.self.now (whole all) c.requires))
    c.arranged.ensures
