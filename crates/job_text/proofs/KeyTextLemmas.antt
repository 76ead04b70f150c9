-- The texts of keys: a count and labels, read in one way, whatever stands behind them.
use Rattle.std.proofs.Common.{◌≡◌, ◌<◌, ◌≤◌, ◌^◌, ℕ, List, [], ◌∷◌, ◌++◌, length, refl, sym, ap, ap₂, ◌∙◌, append_assoc, inl, arith}
use Rattle.std.specs.Prelude.{decimal}
use Rattle.std.specs.List.{AllByRecursion}
use Rattle.plain_text.specs.Cuts.{Lacks, GoesOnWith, CutsWord}
use Rattle.plain_text.proofs.CutLemmas.{one_cut, lacks_append}
use Rattle.plain_text.proofs.NumberLemmas.{decimal_tells, decimal_lacks}
use Rattle.plain_text.proofs.SpacedWords.{behind_goes_on, one_more, AreFirst, next_exists, next_word_is, spaced_tell}
use Rattle.poly_model.specs.LabelText.{label_text, labels_text, key_text}
use Rattle.poly_model.specs.Limits.{most_labels}
use Rattle.job_text.specs.KeyTexts.{IsKeyLabel, HasKeyText}
use Rattle.job_text.proofs.LabelLemmas.{label_lacks, label_tells}

no_blank : (l : ℕ) → IsKeyLabel l → Lacks 32 (label_text l)
no_blank l h = label_lacks 32 l (omega arith) h

pub labels_go_on : (labels rest : List ℕ) → GoesOnWith 32 rest → GoesOnWith 32 (labels_text labels ++ rest)
unfolding labels_text
labels_go_on labels rest h = behind_goes_on IsKeyLabel label_text labels rest h

pub no_labels : labels_text [] ≡ []
unfolding labels_text
no_labels = refl

pub labels_more : (front : List ℕ) (l : ℕ) (text rest word behind : List ℕ) → text ≡ labels_text front ++ rest
    → rest ≡ 32 ∷ (word ++ behind) → word ≡ label_text l → text ≡ labels_text (front ++ l ∷ []) ++ behind
unfolding labels_text
labels_more front l text rest word behind is cut same =
    one_more IsKeyLabel label_text front l text rest word behind is cut same

pub labels_push : (front : List ℕ) (l : ℕ) → AllByRecursion IsKeyLabel front → IsKeyLabel l → AllByRecursion IsKeyLabel (front ++ l ∷ [])
labels_push [] l h m = (m, tt)
labels_push (x ∷ front) l h m = (h.0, labels_push front l h.1 m)

abbrev pub AreFirstLabels : List ℕ → List ℕ → List ℕ → List ℕ → List ℕ → Type 0
AreFirstLabels = AreFirst IsKeyLabel label_text

pub first_labels : {labels front text rest more : List ℕ} → AllByRecursion IsKeyLabel front → AllByRecursion IsKeyLabel labels
    → GoesOnWith 32 rest → GoesOnWith 32 more → text ≡ labels_text front ++ rest → text ≡ labels_text labels ++ more
    → AreFirstLabels labels front text rest more
unfolding labels_text
first_labels a b g h is same =
    record { front_may = a; all_may = b; rest_goes_on = g; more_goes_on = h; is = is; same = same }

pub label_is_next : (labels front text rest more : List ℕ) → AreFirstLabels labels front text rest more
    → length front < length labels → ((left : List ℕ) → rest ≡ 32 ∷ left → ⊥) → ⊥
label_is_next labels front text rest more h lt none =
    next_exists IsKeyLabel label_text no_blank label_tells labels front text rest more h lt none

pub next_label_word : (labels front text rest more cut word behind : List ℕ) → AreFirstLabels labels front text rest more
    → length front < length labels → rest ≡ 32 ∷ cut → CutsWord cut word behind
    → (x : ℕ) × IsKeyLabel x × (word ≡ label_text x)
next_label_word labels front text rest more cut word behind h lt at cuts =
    next_word_is IsKeyLabel label_text no_blank label_tells labels front text rest more cut word behind h lt at cuts

labels_tell : (a b rest more : List ℕ) → AllByRecursion IsKeyLabel a → AllByRecursion IsKeyLabel b → GoesOnWith 32 rest
    → GoesOnWith 32 more → length a ≡ length b → labels_text a ++ rest ≡ labels_text b ++ more → (a ≡ b) × (rest ≡ more)
unfolding labels_text
labels_tell a b rest more p q g h count e =
    spaced_tell IsKeyLabel label_text no_blank label_tells a b rest more p q g h count e

-- ---- a key's text

-- the count and the labels, cut apart at the first blank
pub key_parts : (text word rest key more : List ℕ) → CutsWord text word rest → length key ≤ most_labels → GoesOnWith 32 more
    → text ≡ key_text key ++ more → (word ≡ decimal (length key)) × (rest ≡ labels_text key ++ more)
key_parts text word rest key more h room g e =
    one_cut 32 word rest (decimal (length key)) (labels_text key ++ more) h.lacks h.goes_on
    (decimal_lacks 32 (length key) (omega (arith, room)) (inl (omega arith))) (labels_go_on key more g)
    (sym h.whole ∙ e ∙ append_assoc (decimal (length key)) (labels_text key) more)

-- the number that was read in front of a key's text is how many labels it has, and these are left
pub key_count : (text word rest key more : List ℕ) (count : ℕ) → CutsWord text word rest → HasKeyText key → GoesOnWith 32 more
    → text ≡ key_text key ++ more → count < 2 ^ 64 → word ≡ decimal count → (count ≡ length key) × (rest ≡ labels_text key ++ more)
key_count text word rest key more count cuts has g is lt said =
    let k = key_parts text word rest key more cuts has.is_key.room g is in
    (decimal_tells count (length key) (omega (arith, lt)) (omega (arith, has.is_key.room)) (sym said ∙ k.0), k.1)

-- a number, and so many labels behind it, are the text of a key
pub key_of_labels : (text word rest labels more : List ℕ) (count : ℕ) → CutsWord text word rest → word ≡ decimal count
    → length labels ≡ count → rest ≡ labels_text labels ++ more → text ≡ key_text labels ++ more
key_of_labels text word rest labels more count cuts said size behind =
    cuts.whole ∙ ap₂ (λ (a b : List ℕ). a ++ b) (said ∙ ap decimal (sym size)) behind
    ∙ sym (append_assoc (decimal (length labels)) (labels_text labels) more)

-- keys' texts tell them apart, whatever stands behind them
pub key_front_tells : (a b rest more : List ℕ) → length a ≤ most_labels → length b ≤ most_labels → AllByRecursion IsKeyLabel a
    → AllByRecursion IsKeyLabel b → GoesOnWith 32 rest → GoesOnWith 32 more → key_text a ++ rest ≡ key_text b ++ more
    → (a ≡ b) × (rest ≡ more)
key_front_tells a b rest more room few p q g h e =
    let c = one_cut 32 (decimal (length a)) (labels_text a ++ rest) (decimal (length b)) (labels_text b ++ more)
    (decimal_lacks 32 (length a) (omega (arith, room)) (inl (omega arith))) (labels_go_on a rest g)
    (decimal_lacks 32 (length b) (omega (arith, few)) (inl (omega arith))) (labels_go_on b more h)
    (sym (append_assoc (decimal (length a)) (labels_text a) rest) ∙ e
    ∙ append_assoc (decimal (length b)) (labels_text b) more) in
    labels_tell a b rest more p q g h (decimal_tells (length a) (length b) (omega (arith, room)) (omega (arith, few)) c.0) c.1

-- ---- no line feeds

labels_lack : (byte : ℕ) (labels : List ℕ) → byte < 32 → AllByRecursion IsKeyLabel labels → Lacks byte (labels_text labels)
unfolding labels_text
labels_lack byte [] small h = tt
labels_lack byte (l ∷ labels) small h = (
  (λ is. omega (arith, is, small)),
  lacks_append byte (label_text l) (labels_text labels) (label_lacks byte l (omega (arith, small)) h.0)
      (labels_lack byte labels small h.1),
)

pub key_lacks : (key : List ℕ) → HasKeyText key → Lacks 10 (key_text key)
key_lacks key h =
    lacks_append 10 (decimal (length key)) (labels_text key)
    (decimal_lacks 10 (length key) (omega (arith, h.is_key.room)) (inl (omega arith)))
    (labels_lack 10 key (omega arith) h.labels)
