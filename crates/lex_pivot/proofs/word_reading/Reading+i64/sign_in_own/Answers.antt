use Rattle.std.proofs.Common.{◌≡◌, ◌≢◌, ◌∙◌, ⊎_elim, sym, subst, refl, true≢false, rules, pos, ◌<ℤ◌, ℤ, ℕ}
use Rattle.std.proofs.lemmas.Bool.{cases_eq}
use Rattle.std.specs.Prelude.{FitsSigned}
use Rattle.std.specs.Int.{w64}
use Rattle.std.proofs.lemmas.Int.{to_z-of_z}
use Rattle.std.specs.Cmp.{int_cmp_is}
use Rattle.std.specs.declared.cmp.Ordering.TheVariants.{Greater}
use Rattle.poly_num.specs.Signs.{sign_of}
use Rattle.poly_model.specs.Dictionaries.{Table}
use Rattle.dictionary.specs.Views.{table_of}
use Rattle.lex_pivot.specs.declared.reading.Reading.{Reading}
use Rattle.lex_pivot.specs.Readings.{reading_at, IsReadable, AreApart}
use Rattle.lex_pivot.proofs.FirstSigns.{sign_zero}
use Rattle.lex_pivot.proofs.SignLemmas.{one_alone, other_alone}
use Rattle.lex_pivot.proofs.word_reading.Reading+i64.sign_in_own.Goals as goal

pub returns-then-is_same : goal.returns-then-is_same
returns-then-is_same c =
    let d = c.args.table.now.dict.now in
    let units = c.cobasis-units.ensures.units in
    let same : c.args.row ≡ c.in-Sum.other = c.if-is_same.ensures.0 refl in
    let apart : c.in-Sum.col ≢ c.in-Sum.other = subst AreApart c.in-Sum.is c.requires.apart in
    let readable = subst (IsReadable d.key) c.in-Sum.is c.requires.columns in
    let fits : FitsSigned w64 c.in-Sum.f = search rules in
    let order = simp to_z-of_z at c.order_of_words.ensures in
    subst (λ (r : Reading ℤ). c.order_of_words.result ≡ sign_of (reading_at (table_of d) r c.args.row)) (sym c.in-Sum.is)
    (order
    ∙ other_alone (Table.entry (table_of d) c.args.row c.in-Sum.col) (Table.entry (table_of d) c.args.row c.in-Sum.other)
    c.in-Sum.p c.in-Sum.f
    (subst (λ (k : ℕ). pos 0 <ℤ Table.entry (table_of d) c.args.row k) same
    (subst (λ (z : ℤ). pos 0 <ℤ z) (sym (units.own c.args.row c.requires.row))
    (subst (λ (z : ℤ). pos 0 <ℤ z) c.denominator-denominator.ensures.value c.denominator-denominator.ensures.positive)))
    (units.other c.args.row c.in-Sum.col c.requires.row readable.1 (λ e. apart (sym e ∙ same))))

pub returns-else-is_same : goal.returns-else-is_same
returns-else-is_same c =
    let d = c.args.table.now.dict.now in
    let units = c.cobasis-units.ensures.units in
    let other : c.args.row ≢ c.in-Sum.other = λ e. true≢false (sym (c.if-is_same.ensures.1 e)) in
    let readable = subst (IsReadable d.key) c.in-Sum.is c.requires.columns in
    let a = Table.entry (table_of d) c.args.row c.in-Sum.col in
    let b = Table.entry (table_of d) c.args.row c.in-Sum.other in
    subst (λ (r : Reading ℤ). c.sign_if_same.result ≡ sign_of (reading_at (table_of d) r c.args.row)) (sym c.in-Sum.is)
    (⊎_elim
    (λ (e : c.args.row ≡ c.in-Sum.col). c.sign_if_same.ensures.same e
    ∙ int_cmp_is a (pos 0) Greater (subst (λ (k : ℕ). pos 0 <ℤ Table.entry (table_of d) c.args.row k) e
    (subst (λ (z : ℤ). pos 0 <ℤ z) (sym (units.own c.args.row c.requires.row))
    (subst (λ (z : ℤ). pos 0 <ℤ z) c.denominator-denominator.ensures.value c.denominator-denominator.ensures.positive))))
    (λ (n : c.args.row ≢ c.in-Sum.col). c.sign_if_same.ensures.other n
    ∙ sym (sign_zero a (units.other c.args.row c.in-Sum.col c.requires.row readable.1 n)))
    (cases_eq c.args.row c.in-Sum.col)
    ∙ one_alone a b c.in-Sum.p c.in-Sum.f readable.0
    (units.other c.args.row c.in-Sum.other c.requires.row readable.2 other))
