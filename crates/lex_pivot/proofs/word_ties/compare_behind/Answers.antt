use Rattle.std.proofs.Common.{◌≡◌, ◌∙◌, sym, subst, refl, arith, true≢false, ◌<◌, ◌≤◌, ap, length, get_or, ℕ, ℤ, pos, ◌<ℤ◌, List}
use Rattle.std.specs.List.{Contains}
use Rattle.std.proofs.lemmas.List.{get_or_default}
use Rattle.poly_model.specs.Keys.{IsAscending}
use Rattle.poly_model.specs.LexOrder.{outside}
use Rattle.dictionary.specs.Views.{table_of}
use Rattle.lex_pivot.specs.BeforeRoot.{before_root}
use Rattle.lex_pivot.specs.Pairs.{gap_at, IsPastEnd}
use Rattle.lex_pivot.proofs.FirstSigns.{IsZeroBelow, kept_up}
use Rattle.lex_pivot.proofs.PairLemmas.{at_end, before_at, differs_here, gaps_behind}
use Rattle.lex_pivot.proofs.word_ties.compare_behind.Goals.{At-labels}
use Rattle.lex_pivot.proofs.word_ties.compare_behind.Goals as goal

up : (c : At-labels) → IsAscending c.args.table.now.dict.now.labels
up c = subst IsAscending c.labels-all.ensures.value c.labels-all.ensures.ascending

key_up : (c : At-labels) → IsAscending c.args.table.now.dict.now.key
key_up c = subst IsAscending c.cobasis-cobasis.ensures.value c.cobasis-cobasis.ensures.ascending

positive : (c : At-labels) → pos 0 <ℤ c.args.table.now.dict.now.denominator
positive c = subst (λ (z : ℤ). pos 0 <ℤ z) c.denominator-denominator.ensures.value c.denominator-denominator.ensures.positive

in_labels : (c : At-labels) (k : ℕ) → Contains c.args.table.now.dict.now.key k → Contains c.args.table.now.dict.now.labels k
in_labels c k m =
    c.cobasis-cobasis.ensures.labels k
    (subst (λ (ks : List ℕ). Contains ks k) (sym c.cobasis-cobasis.ensures.value) m)

scanned : (c : At-labels) → c.args.table.now.before.now ≡ before_root c.args.table.now.dict.now c.args.table.now.order.now
scanned c = c.requires.table.before

so_far : (c : At-labels) → IsZeroBelow (gap_at c.args.table.now.dict.now.key (table_of c.args.table.now.dict.now) c.args.pair.now)
    (before_root c.args.table.now.dict.now c.args.table.now.order.now) (outside c.args.table.now.dict.now.labels c.args.table.now.order.now) c.labels.k-index
so_far c =
    subst (λ (ks : List ℕ). IsZeroBelow (gap_at c.args.table.now.dict.now.key (table_of c.args.table.now.dict.now) c.args.pair.now) ks
    (outside c.args.table.now.dict.now.labels c.args.table.now.order.now) c.labels.k-index) (scanned c) c.labels.invariant

item : (c : At-labels) (k : ℕ) → k ≡ get_or c.args.table.now.before.now c.labels.k-index k →
    c.labels.k-index < length c.args.table.now.before.now →
    k ≡ get_or (before_root c.args.table.now.dict.now c.args.table.now.order.now) c.labels.k-index 0
item c k e l =
    subst (λ (ks : List ℕ). k ≡ get_or ks c.labels.k-index 0) (scanned c)
    (e ∙ get_or_default c.args.table.now.before.now c.labels.k-index k 0 l)

inside : (c : At-labels) (k : ℕ) → k ≡ get_or c.args.table.now.before.now c.labels.k-index k →
    c.labels.k-index < length c.args.table.now.before.now →
    Contains c.args.table.now.dict.now.key k × Contains (outside c.args.table.now.dict.now.labels c.args.table.now.order.now) k
inside c k e l =
    before_at c.args.table.now.dict.now c.args.table.now.order.now (in_labels c) c.labels.k-index k
    (subst (λ (ks : List ℕ). c.labels.k-index < length ks) (scanned c) l) (item c k e l)

pub gap_sign-here-requires-clause-inside : goal.gap_sign-here-requires-clause-inside
gap_sign-here-requires-clause-inside c =
    (inside (goal.at.gap_sign-here-requires-clause-inside c).At-labels c.k-item.result c.k-item.is
    (let t = c.labels-test.true in let b = c.labels.auto.k-index-end in omega arith)).0

pub returns-then-is_behind : goal.returns-then-is_behind
returns-then-is_behind c differ zero =
    let a = (goal.at.returns-then-is_behind c).At-labels in
    let l : c.labels.k-index < length c.args.table.now.before.now =
    (let t = c.labels-test.true in let b = c.labels.auto.k-index-end in omega arith) in
    c.end_sign.ensures
    ∙ at_end c.args.table.now.dict.now c.args.table.now.order.now c.args.pair.now c.requires.pair differ (up a) (key_up a) (positive a)
    c.labels.k-index (so_far a) c.end_of-end.result c.end_of-end.ensures
    (λ m. subst (λ (q : ℕ). IsPastEnd q c.end_of-end.result) (item a c.k-item.result c.k-item.is l)
    (c.if-is_behind.ensures.0 refl))
    ∙ gaps_behind c.args.table.now.dict.now c.args.table.now.order.now c.args.pair.now zero

pub returns-then-differs : goal.returns-then-differs
returns-then-differs c differ zero =
    let a = (goal.at.returns-then-differs c).At-labels in
    let l : c.labels.k-index < length c.args.table.now.before.now =
    (let t = c.labels-test.true in let b = c.labels.auto.k-index-end in omega arith) in
    differs_here c.args.table.now.dict.now c.args.table.now.order.now c.args.pair.now c.requires.pair differ (up a) (key_up a) (positive a)
    c.labels.k-index (so_far a) c.end_of-end.result c.k-item.result c.gap_sign-here.result c.end_of-end.ensures
    (item a c.k-item.result c.k-item.is l) (λ b. true≢false (sym (c.if-is_behind.ensures.1 b)))
    (inside a c.k-item.result c.k-item.is l).1 (c.if-differs.ensures.yes refl) c.gap_sign-here.ensures
    ∙ gaps_behind c.args.table.now.dict.now c.args.table.now.order.now c.args.pair.now zero

pub labels-preserved : goal.labels-preserved
labels-preserved c =
    kept_up (gap_at c.args.table.now.dict.now.key (table_of c.args.table.now.dict.now) c.args.pair.now) c.args.table.now.before.now
    (outside c.args.table.now.dict.now.labels c.args.table.now.order.now) c.labels.k-index c.k-item.result
    (let t = c.labels-test.true in let b = c.labels.auto.k-index-end in omega arith) c.k-item.is
    c.gap_sign-here.result c.labels.invariant (λ _. c.gap_sign-here.ensures) (c.if-differs.ensures.no refl)

pub returns : goal.returns
returns c differ zero =
    let a = (goal.at.returns c).At-labels in
    let b = c.labels.auto.k-index-end in
    let t = c.labels-test.false in
    c.end_sign-2.ensures
    ∙ at_end c.args.table.now.dict.now c.args.table.now.order.now c.args.pair.now c.requires.pair differ (up a) (key_up a) (positive a)
    c.labels.k-index (so_far a) c.end_of-end.result c.end_of-end.ensures
    (λ m. absurd (passed c.args.table.now.before.now (before_root c.args.table.now.dict.now c.args.table.now.order.now) c.labels.k-index
    (scanned a) (omega arith) m))
    ∙ gaps_behind c.args.table.now.dict.now c.args.table.now.order.now c.args.pair.now zero
  where
    passed : (xs ys : List ℕ) (n : ℕ) → xs ≡ ys → length xs ≤ n → n < length ys → ⊥
    passed xs ys n e l m = let k : length xs ≡ length ys = ap length e in omega arith
