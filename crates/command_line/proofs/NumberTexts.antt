-- A text that says a number within bounds.
use Rattle.std.proofs.Common.{◌≡◌, ℕ, ◌<◌, ◌≤◌, ◌^◌, Bool, true, false, refl, sym, ap, ◌∙◌, Option, Some, None, IfSome, IsNone, arith, true≢false}
use Rattle.std.specs.Str.Parse.{IsNumeral, digits_value, without_leading_plus}
use Rattle.clap.specs.Words.{Text}
use Rattle.clap.specs.ValueTests.{is_unsigned_in}
use Rattle.clap.specs.declared.builder.value_parser.ValueParser.TheVariants as parsers
use Rattle.clap.proofs.ValueTestLemmas.{accepts-Accepts, Accepts-accepts}
use Rattle.command_line.specs.Lines.{number_within}

same_number : (m n : ℕ) → Some m ≡ Some n → m ≡ n
same_number m n e = cc

pub none_some : (n : ℕ) → None ≡ Some n → ⊥
none_some n e = cc

module _ (low high : ℕ) (text : Text) where
  abbrev said : ℕ
  said = digits_value 10 (without_leading_plus text)

  -- it is one
  pub says_number : IsNumeral 10 (without_leading_plus text) → said < 2 ^ 64 → low ≤ said → said ≤ high →
      number_within low high text ≡ Some said
  says_number is small least most = rw (Accepts-accepts false (parsers.Unsigned low high) text (is, small, least, most)) refl

  -- it is none
  no_number : (b : Bool) → is_unsigned_in low high text ≡ b → (is_unsigned_in low high text ≡ true → ⊥) →
      number_within low high text ≡ None
  no_number true e never = absurd (never e)
  no_number false e never = rw e refl

  pub says_none : (IsNumeral 10 (without_leading_plus text) → low ≤ said → said ≤ high → ⊥) →
      number_within low high text ≡ None
  says_none never = no_number (is_unsigned_in low high text) refl
      (λ e. let a = accepts-Accepts false (parsers.Unsigned low high) text e in never a.0 a.2 a.3)

  -- what is read of the text
  pub read_in : (n : ℕ) → IsNumeral 10 (without_leading_plus text) × (said < 2 ^ 64) → n ≡ said →
      (r : Option ℕ) → IfSome r (λ m. (m ≡ n) × (low ≤ n) × (n ≤ high)) → (IsNone r → low ≤ n → n ≤ high → ⊥) →
      r ≡ number_within low high text
  read_in n p e (Some m) some none =
      ap (λ x. Some x) (some.0 ∙ e)
      ∙ sym (says_number p.0 p.1 (let s = some.1 in omega (arith, e, s)) (let s = some.2 in omega (arith, e, s)))
  read_in n p e None some none =
      sym (says_none (λ is least most. none refl (omega (arith, e, least)) (omega (arith, e, most))))

  pub not_read : (IsNumeral 10 (without_leading_plus text) × (said < 2 ^ 64) → ⊥) → high < 2 ^ 64 →
      None ≡ number_within low high text
  not_read never few = sym (says_none (λ is least most. never (is, omega (arith, few, most))))

  by_test : (b : Bool) → is_unsigned_in low high text ≡ b → (n : ℕ) → number_within low high text ≡ Some n →
      (low ≤ n) × (n ≤ high)
  by_test true e n is =
      let a = accepts-Accepts false (parsers.Unsigned low high) text e in
      let same = same_number said n (sym (says_number a.0 a.1 a.2 a.3) ∙ is) in
      (let l = a.2 in omega (arith, l, same), let l = a.3 in omega (arith, l, same))
  by_test false e n is = absurd (none_some n (sym (no_number false e (λ t. true≢false (sym t ∙ e))) ∙ is))

  -- a number that it says is within the bounds
  pub within : (n : ℕ) → number_within low high text ≡ Some n → (low ≤ n) × (n ≤ high)
  within n is = by_test (is_unsigned_in low high text) refl n is
