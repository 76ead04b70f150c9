-- The entries of a row, read in one way.
use Rattle.std.proofs.Common.{◌≡◌, ◌<◌, ℕ, ℤ, List, [], ◌∷◌, ◌++◌, length, refl, sym, ap, ◌∙◌, append-nil, arith}
use Rattle.std.specs.Fmt.{signed_decimal}
use Rattle.std.specs.List.{AllByRecursion}
use Rattle.plain_text.specs.Cuts.{Lacks, GoesOnWith}
use Rattle.plain_text.proofs.CutLemmas.{lacks_append}
use Rattle.plain_text.proofs.NumberLemmas.{signed_lacks, signed_decimal_tells}
use Rattle.plain_text.proofs.SpacedWords.{spaced, spaced_goes_on, one_more, AreFirst, behind_goes_on, next_is, spaced_tell}
use Rattle.poly_num.specs.Numbers.{IsNum}
use Rattle.poly_model.specs.ListingText.{entries_text, entry_text}

no_blank : (y : ℤ) → IsNum y → Lacks 32 (signed_decimal y)
no_blank y h = signed_lacks 32 y h (omega arith)

entries_are_spaced : (v : List ℤ) → entries_text v ≡ spaced IsNum signed_decimal v
unfolding entries_text entry_text
entries_are_spaced [] = refl
entries_are_spaced (y ∷ v) = ap (λ (l : List ℕ). (32 ∷ signed_decimal y) ++ l) (entries_are_spaced v)

pub no_entries : entries_text [] ≡ []
unfolding entries_text
no_entries = refl

pub entries_go_on : (v : List ℤ) → GoesOnWith 32 (entries_text v)
entries_go_on v = rw (entries_are_spaced v) (spaced_goes_on IsNum signed_decimal v)

pub entries_more : (front : List ℤ) (y : ℤ) (text rest word behind : List ℕ) → text ≡ entries_text front ++ rest
    → rest ≡ 32 ∷ (word ++ behind) → word ≡ signed_decimal y → text ≡ entries_text (front ++ y ∷ []) ++ behind
entries_more front y text rest word behind is cut same =
    one_more IsNum signed_decimal front y text rest word behind
    (is ∙ ap (λ (l : List ℕ). l ++ rest) (entries_are_spaced front)) cut same
    ∙ ap (λ (l : List ℕ). l ++ behind) (sym (entries_are_spaced (front ++ y ∷ [])))

pub nums_push : (front : List ℤ) (y : ℤ) → AllByRecursion IsNum front → IsNum y → AllByRecursion IsNum (front ++ y ∷ [])
nums_push [] y h m = (m, tt)
nums_push (x ∷ front) y h m = (h.0, nums_push front y h.1 m)

abbrev pub AreFirstEntries : List ℤ → List ℤ → List ℕ → List ℕ → Type 0
AreFirstEntries v front text rest = AreFirst IsNum signed_decimal v front text rest []

pub first_entries : {v front : List ℤ} {text rest : List ℕ} → AllByRecursion IsNum front → AllByRecursion IsNum v
    → GoesOnWith 32 rest → text ≡ entries_text front ++ rest → text ≡ entries_text v → AreFirstEntries v front text rest
first_entries {v = v} {front = front} {rest = rest} a b g is same = record {
  front_may = a;
  all_may = b;
  rest_goes_on = g;
  more_goes_on = tt;
  is = is ∙ ap (λ (l : List ℕ). l ++ rest) (entries_are_spaced front);
  same = same ∙ entries_are_spaced v ∙ sym (append-nil (spaced IsNum signed_decimal v));
}

pub entry_is_next : (v front : List ℤ) (text rest : List ℕ) → AreFirstEntries v front text rest → length front < length v
    → ((y : ℤ) (more : List ℕ) → IsNum y → GoesOnWith 32 more → rest ≡ 32 ∷ (signed_decimal y ++ more) → ⊥) → ⊥
entry_is_next v front text rest h lt none =
    let (y, left, num, is) =
    next_is IsNum signed_decimal no_blank signed_decimal_tells v front text rest [] h lt in
    none y _ num (behind_goes_on IsNum signed_decimal left [] tt) is

-- as many entries with something behind them
pub entries_tell : (v w : List ℤ) (rest : List ℕ) → AllByRecursion IsNum v → AllByRecursion IsNum w → GoesOnWith 32 rest
    → length v ≡ length w → entries_text v ++ rest ≡ entries_text w → (v ≡ w) × (rest ≡ [])
entries_tell v w rest p q g count e =
    spaced_tell IsNum signed_decimal no_blank signed_decimal_tells v w rest [] p q g tt count
    (ap (λ (l : List ℕ). l ++ rest) (sym (entries_are_spaced v)) ∙ e ∙ entries_are_spaced w
    ∙ sym (append-nil (spaced IsNum signed_decimal w)))

pub entries_lack : (v : List ℤ) → AllByRecursion IsNum v → Lacks 10 (entries_text v)
unfolding entries_text entry_text
entries_lack [] h = tt
entries_lack (y ∷ v) h =
    ((λ e. omega (arith, e)), lacks_append 10 (signed_decimal y) (entries_text v) (signed_lacks 10 y h.0 (omega arith)) (entries_lack v h.1))
