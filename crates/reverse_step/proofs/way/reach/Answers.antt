use Rattle.std.proofs.Common.{sym, subst, true≢false, refl, ◌∙◌, ℕ, Bool, List}
use Rattle.std.specs.List.{Contains}
use Rattle.dictionary.specs.Views.{Dictionary}
use Rattle.poly_model.specs.Keys.{IsAscending}
use Rattle.lex_pivot.proofs.EarlierLemmas.{row_only}
use Rattle.reverse_step.specs.Ways.{LiesBetween, AreTakenIn, Reaches}
use Rattle.reverse_step.proofs.WayLemmas.{not_rows, not_there, ends_there}
use Rattle.reverse_step.proofs.way.reach.Goals.{then-is_at, else-is_at}
use Rattle.reverse_step.proofs.way.reach.Goals as goal

pub returns-then-not-are_rows-clause-reached : goal.returns-then-not-are_rows-clause-reached
returns-then-not-are_rows-clause-reached g c =
    not_rows c.args.order.now c.args.here.now c.args.key.now
    (λ all. true≢false (sym (c.if-not-are_rows.ensures.1
    (λ k m. all k (subst (λ (ks : List ℕ). Contains ks k) c.labels.ensures.value m)))))

pub enter_all-requires : goal.enter_all-requires
enter_all-requires g c k m =
    subst (λ (d : Dictionary). Contains d.labels k) (sym c.copy_into.ensures)
    (row_only c.args.here.now.labels k (c.if-not-are_rows.ensures.0 refl k
    (subst (λ (ks : List ℕ). Contains ks k) (c.labels-2.ensures.value ∙ sym c.labels.ensures.value) m))).0

pub returns-clause-reached : goal.returns-clause-reached
returns-clause-reached g c =
    let key = c.labels.ensures.value in
    let up = subst IsAscending key c.labels.ensures.key.ascending in
    let rows = λ (k : ℕ) (m : Contains c.args.key.now k). c.if-not-are_rows.ensures.0 refl k
    (subst (λ (ks : List ℕ). Contains ks k) (sym key) m) in
    let way = subst (λ (d : Dictionary). LiesBetween d c.args.key.now c.enter_all.new.dict) c.copy_into.ensures
    (subst (λ (ks : List ℕ). LiesBetween c.copy_into.new.to ks c.enter_all.new.dict) c.labels-2.ensures.value
    c.in_ok-enter_all.ensures.way) in
    let all = subst (λ (ks : List ℕ). (k : ℕ) → Contains ks k → Contains c.enter_all.new.dict.key k)
    c.labels-2.ensures.value
    (subst (λ (b : Bool). AreTakenIn c.copy_into.new.to c.labels-2.result.now b c.enter_all.new.dict)
    c.if-not-branch.false c.in_ok-enter_all.ensures.entered) in
    elim c.if-is_at.branch [
      | then-is_at w ↦ subst (λ (b : Bool). Reaches c.args.order.now c.args.here.now c.args.key.now b c.enter_all.new.dict)
          (sym w.result-is)
          (ends_there c.args.order.now c.args.here.now c.args.key.now c.enter_all.new.dict way all
          w.is_lex_feasible_by.result up rows (w.if-is_at.ensures.same.0 refl) w.is_lex_feasible_by.ensures)
      | else-is_at w ↦ subst (λ (b : Bool). Reaches c.args.order.now c.args.here.now c.args.key.now b c.enter_all.new.dict)
          (sym (w.result-is ∙ w.if-is_at.false))
          (not_there c.args.order.now c.args.here.now c.args.key.now c.enter_all.new.dict way all
          w.if-is_at.ensures.ascending (λ e. true≢false (sym (w.if-is_at.ensures.same.1 e))))
    ]
