use Rattle.std.proofs.Common.{inl, sym, subst, refl, true≢false, Option, ℕ, ℤ}
use Rattle.std.specs.Prelude.{IfSome}
use Rattle.std.specs.List.{Contains}
use Rattle.poly_model.specs.Keys.{IsAscending}
use Rattle.poly_model.specs.LexOrder.{rows_in}
use Rattle.lex_pivot.proofs.EarlierLemmas.{row_only}
use Rattle.phase_one.specs.SoFar.{IsLeastSoFar}
use Rattle.phase_one.specs.Columns.{IsSought, HasSought, IsNotLater}
use Rattle.phase_one.proofs.SoFarLemmas.{kept, first_asked, replaced, stays}
use Rattle.phase_one.proofs.ColumnLemmas.{not_later_through, not_later}
use Rattle.phase_one.proofs.least.earlier.Goals as goal

pub returns-then-not-is_met-clause-least : goal.returns-then-not-is_met-clause-least
returns-then-not-is_met-clause-least c columns h =
    kept (HasSought c.args.dict.now c.args.sought) (IsNotLater c.args.dict.now.labels c.args.order.now) columns c.args.col
    c.args.least h
    (λ m. true≢false (sym (c.if-not-is_met.ensures.1 (subst (λ (z : ℤ). IsSought c.args.sought z) (sym c.entry.ensures.value) m))))

pub comes_before-requires-clause-label : goal.comes_before-requires-clause-label
comes_before-requires-clause-label c = (row_only c.args.dict.now.labels c.args.col c.requires.row).0

pub returns-in-None-clause-least : goal.returns-in-None-clause-least
returns-in-None-clause-least c columns h =
    first_asked (HasSought c.args.dict.now c.args.sought) (IsNotLater c.args.dict.now.labels c.args.order.now) columns
    c.args.col
    (subst (λ (o : Option ℕ). IsLeastSoFar (HasSought c.args.dict.now c.args.sought)
    (IsNotLater c.args.dict.now.labels c.args.order.now) columns o) c.in-None.is h)
    (subst (λ (z : ℤ). IsSought c.args.sought z) c.entry.ensures.value (c.if-not-is_met.ensures.0 refl)) (inl refl)

pub returns-then-comes_before-clause-least : goal.returns-then-comes_before-clause-least
returns-then-comes_before-clause-least c columns h =
    let up = subst IsAscending c.labels-all.ensures.value c.labels-all.ensures.ascending in
    replaced (HasSought c.args.dict.now c.args.sought) (IsNotLater c.args.dict.now.labels c.args.order.now) columns
    c.args.col c.in-Some.s
    (subst (λ (o : Option ℕ). IsLeastSoFar (HasSought c.args.dict.now c.args.sought)
    (IsNotLater c.args.dict.now.labels c.args.order.now) columns o) c.in-Some.is h)
    (subst (λ (z : ℤ). IsSought c.args.sought z) c.entry.ensures.value (c.if-not-is_met.ensures.0 refl)) (inl refl)
    (λ k. not_later_through c.args.dict.now.labels c.args.order.now up c.args.col c.in-Some.s k
    (c.if-comes_before.ensures.0 refl))

pub returns-else-comes_before-clause-least : goal.returns-else-comes_before-clause-least
returns-else-comes_before-clause-least c columns h =
    let up = subst IsAscending c.labels-all.ensures.value c.labels-all.ensures.ascending in
    stays (HasSought c.args.dict.now c.args.sought) (IsNotLater c.args.dict.now.labels c.args.order.now) columns
    c.args.col c.in-Some.s
    (subst (λ (o : Option ℕ). IsLeastSoFar (HasSought c.args.dict.now c.args.sought)
    (IsNotLater c.args.dict.now.labels c.args.order.now) columns o) c.in-Some.is h)
    (not_later c.args.dict.now.labels c.args.order.now up c.in-Some.s c.args.col
    (subst (λ (o : Option ℕ). IfSome o (λ k. Contains (rows_in c.args.dict.now.labels) k)) c.in-Some.is c.requires.least)
    c.requires.row
    (λ l. true≢false (sym (c.if-comes_before.ensures.1 l))))
