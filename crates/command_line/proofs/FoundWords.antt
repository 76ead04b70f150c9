-- What was found for the words of a command.
use Rattle.std.proofs.Common.{◌≡◌, sym, ◌∙◌, ap, Option, Some, None, IfSome, IsNone, option_map, Bor}
use Rattle.clap.specs.Words.{Text}
use Rattle.example_polys.specs.declared.kind.ExampleKind.{ExampleKind}
use Rattle.command_line.specs.Lines.{word_of}

pub same_some : {A : Type 0} (x y : A) → Some x ≡ Some y → x ≡ y
same_some x y e = cc

-- a family, by its word
pub kind_found : (first : Option Text) (word : Text) → Some word ≡ first → (r : Option ExampleKind) →
    IfSome r (λ kind. word ≡ word_of kind) → IfSome r (λ kind. first ≡ Some (word_of kind))
kind_found first word e None h = tt
kind_found first word e (Some kind) h = sym e ∙ ap (λ w. Some w) h

-- the name of a ledger
pub ledger_found : (first : Option Text) (r : Option (Bor Text)) → option_map (λ s. s.now) r ≡ first →
    IfSome r (λ ledger. first ≡ Some ledger.now)
ledger_found first None e = tt
ledger_found first (Some ledger) e = sym e

pub no_ledger_found : (first : Option Text) (r : Option (Bor Text)) → option_map (λ s. s.now) r ≡ first → IsNone r →
    (name : Text) → first ≡ Some name → ⊥
no_ledger_found first None e none name is = let bad : None ≡ Some name = e ∙ is in absurd (cc)
no_ledger_found first (Some ledger) e none name is = absurd (cc)
