use Rattle.std.proofs.Common.{◌≡◌, List, ℕ, sym, ap, subst, ◌∙◌}
use Rattle.std.specs.List.{All, Contains, filter}
use Rattle.std.proofs.lemmas.Result.{IfOk-weaker}
use Rattle.poly_model.specs.Keys.{IsKey}
use Rattle.dictionary.specs.Views.{Dictionary, IsWhole}
use Rattle.dictionary.specs.MainPhase.{kept_rows, kept}
use Rattle.dictionary.specs.Arrangements.{IsWithoutDivisor}
use Rattle.dictionary.specs.FirstPhase.{is_other}
use Rattle.dictionary.specs.Positions.{label_count}
use Rattle.dictionary.proofs.KeptLabels.{key_filter, below_kept}
use Rattle.dictionary.proofs.KeptNumbers.{rows_are_labels, staying_in_key, whole_kept}
use Rattle.dictionary.proofs.WithoutDivisor.{at_labels, kept_at}
use Rattle.dictionary.proofs.DroppedT.{other_rows, drops_t}
use Rattle.dictionary.proofs.dict.Dict.drop_t.Goals as goal
use Rattle.dictionary.proofs.dict.Dict.drop_t.Goals.{In_ok-key_labels}

-- ---- what is kept
whole : (c : In_ok-key_labels) → IsWhole c.args.self
whole c = subst (λ (d : Dictionary). IsWhole d) c.self.view_is c.self.invariant.2

labels_are : (c : In_ok-key_labels) → c.in_ok-labels.labels.items ≡ filter is_other c.args.self.labels
labels_are c =
    c.in_ok-labels.ensures
    ∙ ap (λ ks. filter is_other ks) (c.deref.ensures.value ∙ ap (λ (d : Dictionary). d.labels) c.self.view_is)

columns_are : (c : In_ok-key_labels) → c.in_ok-columns.columns.items ≡ filter is_other c.args.self.columns
columns_are c =
    c.in_ok-columns.ensures
    ∙ ap (λ ks. filter is_other ks) (c.deref-2.ensures.value ∙ ap (λ (d : Dictionary). d.columns) c.self.view_is)

rows_are : (c : In_ok-key_labels) → c.in_ok-rows.rows.items ≡ kept_rows c.args.self is_other is_other
rows_are c =
    c.in_ok-rows.ensures
    ∙ ap (λ ks. filter is_other ks) (c.deref-3.ensures.value ∙ ap (λ (d : Dictionary). d.rows) c.self.view_is)
    ∙ other_rows c.args.self

key_is : (c : In_ok-key_labels) → c.in_ok-key_labels.key_labels.items ≡ filter is_other c.args.self.key
key_is c =
    c.in_ok-key_labels.ensures
    ∙ ap (λ ks. filter is_other ks) (c.labels.ensures.value ∙ ap (λ (d : Dictionary). d.key) c.self.view_is)

part_is : (c : In_ok-key_labels) (key : List ℕ) → key ≡ c.in_ok-key_labels.key_labels.items →
    at_labels c.args.self c.in_ok-labels.labels.items key c.in_ok-columns.columns.items c.in_ok-rows.rows.items
    ≡ kept c.args.self is_other is_other
part_is c key e =
    kept_at c.args.self is_other is_other _ key _ _ (labels_are c) (e ∙ key_is c) (columns_are c) (rows_are c)

-- ---- the calls
pub key_of-requires : goal.key_of-requires
key_of-requires c =
    subst IsKey (sym (c.deref-4.ensures.value ∙ c.in_ok-key_labels.ensures))
    (key_filter is_other c.labels.result.now c.labels.ensures.key)

pub part-requires-clause-rows : goal.part-requires-clause-rows
part-requires-clause-rows c =
    let all = (goal.at.part-requires-clause-rows c).In_ok-key_labels in
    subst (λ (ks : List ℕ). All (λ l. Contains c.args.self.labels l) ks) (sym (rows_are all))
    (rows_are_labels c.args.self is_other is_other (whole all))

pub part-requires-clause-columns : goal.part-requires-clause-columns
part-requires-clause-columns c =
    let all = (goal.at.part-requires-clause-columns c).In_ok-key_labels in
    subst (λ (ks : List ℕ). All (λ k. Contains c.args.self.key k) ks) (sym (columns_are all))
    (staying_in_key c.args.self is_other (whole all))

pub part-requires-clause-whole : goal.part-requires-clause-whole
part-requires-clause-whole c =
    let all = (goal.at.part-requires-clause-whole c).In_ok-key_labels in
    subst (λ (d : Dictionary). IsWhole d) (sym (part_is all c.key_of.result (c.key_of.ensures ∙ c.deref-4.ensures.value)))
    (whole_kept c.args.self is_other is_other (whole all) (λ k e. e))

pub part-requires-clause-below : goal.part-requires-clause-below
part-requires-clause-below c =
    below_kept is_other label_count _ c.deref.result.now c.in_ok-labels.labels.items c.self.invariant.3
    c.deref.ensures.value c.in_ok-labels.ensures

pub returns : goal.returns
returns c =
    let all = (goal.at.returns c).In_ok-key_labels in
    IfOk-weaker c.part.result _ _
    (λ d r.
    drops_t c.args.self d (whole all)
    (subst (λ (p : Dictionary). IsWithoutDivisor p d) (part_is all c.key_of.result (c.key_of.ensures ∙ c.deref-4.ensures.value)) r))
    c.part.ensures
