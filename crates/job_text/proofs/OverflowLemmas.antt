-- The texts of places and of overflows, read in one way.
use Rattle.std.proofs.Common.{◌≡◌, ◌<◌, ℕ, List, [], ◌∷◌, ◌++◌, Some, Bor, refl, sym, ap, ap₂, ◌∙◌, append-nil, drop, subst, arith}
use Rattle.plain_text.specs.Cuts.{Lacks, GoesOnWith, CutsWord}
use Rattle.plain_text.specs.Texts.{IsFrontReadOf}
use Rattle.plain_text.proofs.CutLemmas.{one_cut, lacks_append, lacks_none, lacks_tested}
use Rattle.poly_model.specs.declared.overflow.Overflow.{Overflow}
use Rattle.poly_model.specs.declared.overflow.Phase.{Phase}
use Rattle.poly_model.specs.declared.overflow.Phase.TheVariants.{Cone, Prepare, Main, First}
use Rattle.poly_model.specs.declared.overflow.Place.{Place}
use Rattle.poly_model.specs.LabelText.{label_text, place_text, phase_text, key_text}
use Rattle.job_text.specs.KeyTexts.{HasKeyText}
use Rattle.row_printer.specs.OverflowText.{overflow_text}
use Rattle.job_text.specs.Overflows.{HasPlaceText, HasOverflowText}
use Rattle.job_text.proofs.LabelLemmas.{place_label_lacks, place_label_tells}
use Rattle.job_text.proofs.KeyTextLemmas.{key_front_tells}

-- ---- places

-- the two labels, cut apart at the comma
pub place_parts : (row col : List ℕ) (place : Place) → Lacks 44 row → HasPlaceText place → row ++ 44 ∷ col ≡ place_text place
    → (row ≡ label_text place.row) × (col ≡ label_text place.col)
place_parts row col place lacks h e =
    let k = one_cut 44 row (44 ∷ col) (label_text place.row) (44 ∷ label_text place.col) lacks refl
    (place_label_lacks 44 place.row (omega arith) h.row) refl e in
    (k.0, ap (λ (l : List ℕ). drop 1 l) k.1)

pub place_lacks : (byte : ℕ) (place : Place) → byte < 44 → HasPlaceText place → Lacks byte (place_text place)
place_lacks byte place small h =
    lacks_append byte (label_text place.row) (44 ∷ label_text place.col) (place_label_lacks byte place.row (omega (arith, small)) h.row)
    ((λ e. omega (arith, e, small)), place_label_lacks byte place.col (omega (arith, small)) h.column)

pub place_tells : (p q : Place) → HasPlaceText p → HasPlaceText q → place_text p ≡ place_text q → p ≡ q
place_tells p q h k e =
    let parts = place_parts (label_text p.row) (label_text p.col) q (place_label_lacks 44 p.row (omega arith) h.row) k e in
    let row = place_label_tells p.row q.row h.row k.row parts.0 in
    let col = place_label_tells p.col q.col h.column k.column parts.1 in
    λ i. record { row = row i; col = col i }

-- ---- what stands in front of a text, behind a blank

pub key_step : (key other rest more text : List ℕ) → HasKeyText key → HasKeyText other → GoesOnWith 32 rest → GoesOnWith 32 more
    → text ≡ 32 ∷ (key_text key ++ rest) → text ≡ 32 ∷ (key_text other ++ more) → (key ≡ other) × (rest ≡ more)
key_step key other rest more text h k g m is same =
    key_front_tells key other rest more h.is_key.room k.is_key.room h.labels k.labels g m
    (ap (λ (l : List ℕ). drop 1 l) (sym is ∙ same))

pub place_step : (p q : Place) (rest more text : List ℕ) → HasPlaceText p → HasPlaceText q → GoesOnWith 32 rest → GoesOnWith 32 more
    → text ≡ 32 ∷ (place_text p ++ rest) → text ≡ 32 ∷ (place_text q ++ more) → (p ≡ q) × (rest ≡ more)
place_step p q rest more text h k g m is same =
    let c = one_cut 32 (place_text p) rest (place_text q) more (place_lacks 32 p (omega arith) h) g (place_lacks 32 q (omega arith) k) m
    (ap (λ (l : List ℕ). drop 1 l) (sym is ∙ same)) in
    (place_tells p q h k c.0, c.1)

-- ---- an overflow, piece by piece from its end

abbrev pub d_text : Overflow → List ℕ
d_text o = 32 ∷ (place_text o.d ++ [])

abbrev pub c_text : Overflow → List ℕ
c_text o = 32 ∷ (place_text o.c ++ d_text o)

abbrev pub b_text : Overflow → List ℕ
b_text o = 32 ∷ (place_text o.b ++ c_text o)

abbrev pub a_text : Overflow → List ℕ
a_text o = 32 ∷ (place_text o.a ++ b_text o)

abbrev pub key_behind_text : Overflow → List ℕ
key_behind_text o = 32 ∷ (key_text o.key ++ a_text o)

pub overflow_pieces : (o : Overflow) → overflow_text o ≡ phase_text o.phase ++ key_behind_text o
overflow_pieces o = ap (λ (l : List ℕ). phase_text o.phase ++ (32 ∷ (key_text o.key ++ (32 ∷ (place_text o.a ++ (32 ∷ (place_text o.b ++ (32 ∷ (place_text o.c ++ (32 ∷ l))))))))))
    (sym (append-nil (place_text o.d)))

pub phase_has_no_blank : (phase : Phase) → Lacks 32 (phase_text phase)
phase_has_no_blank Cone = lacks_tested 32 (phase_text Cone) refl
phase_has_no_blank Prepare = lacks_tested 32 (phase_text Prepare) refl
phase_has_no_blank Main = lacks_tested 32 (phase_text Main) refl
phase_has_no_blank First = lacks_tested 32 (phase_text First) refl

pub phase_has_no_line_feed : (phase : Phase) → Lacks 10 (phase_text phase)
phase_has_no_line_feed Cone = lacks_tested 10 (phase_text Cone) refl
phase_has_no_line_feed Prepare = lacks_tested 10 (phase_text Prepare) refl
phase_has_no_line_feed Main = lacks_tested 10 (phase_text Main) refl
phase_has_no_line_feed First = lacks_tested 10 (phase_text First) refl

pub phase_step : {text word rest : List ℕ} (o : Overflow) → CutsWord text word rest → text ≡ overflow_text o
    → (word ≡ phase_text o.phase) × (rest ≡ key_behind_text o)
phase_step {word = word} {rest = rest} o cuts is =
    one_cut 32 word rest (phase_text o.phase) (key_behind_text o) cuts.lacks cuts.goes_on (phase_has_no_blank o.phase) refl
    (sym cuts.whole ∙ is ∙ overflow_pieces o)

-- ---- pieces that are read one behind the other: what is left behind each is the text's own rest

-- this key was read behind one blank in front of a text, and this is left
abbrev pub IsKeyInFront : List ℕ → List ℕ × Bor (List ℕ) → Type 0
IsKeyInFront text found = IsFrontReadOf HasKeyText (λ key. 32 ∷ key_text key) text (Some found)

-- the same of a place
abbrev pub IsPlaceInFront : List ℕ → Place × Bor (List ℕ) → Type 0
IsPlaceInFront text found = IsFrontReadOf HasPlaceText (λ place. 32 ∷ place_text place) text (Some found)

pub a_behind : {text word rest : List ℕ} {key : List ℕ × Bor (List ℕ)} (o : Overflow) → HasOverflowText o → CutsWord text word rest
    → text ≡ overflow_text o → IsKeyInFront rest key → key.1.now ≡ a_text o
a_behind {rest = rest} {key = key} o h cuts is read =
    let k = read.some in
    (key_step key.0 o.key key.1.now (a_text o) rest k.0 h.key k.2 refl k.1 (phase_step o cuts is).1).1

pub b_behind : {text word rest : List ℕ} {key : List ℕ × Bor (List ℕ)} {a : Place × Bor (List ℕ)} (o : Overflow) → HasOverflowText o
    → CutsWord text word rest → text ≡ overflow_text o → IsKeyInFront rest key → IsPlaceInFront key.1.now a → a.1.now ≡ b_text o
b_behind {key = key} {a = a} o h cuts is k read =
    let p = read.some in
    (place_step a.0 o.a a.1.now (b_text o) key.1.now p.0 h.a p.2 refl p.1 (a_behind o h cuts is k)).1

pub c_behind : {text word rest : List ℕ} {key : List ℕ × Bor (List ℕ)} {a b : Place × Bor (List ℕ)} (o : Overflow)
    → HasOverflowText o → CutsWord text word rest → text ≡ overflow_text o → IsKeyInFront rest key → IsPlaceInFront key.1.now a
    → IsPlaceInFront a.1.now b → b.1.now ≡ c_text o
c_behind {a = a} {b = b} o h cuts is k pa read =
    let p = read.some in
    (place_step b.0 o.b b.1.now (c_text o) a.1.now p.0 h.b p.2 refl p.1 (b_behind o h cuts is k pa)).1

pub d_behind : {text word rest : List ℕ} {key : List ℕ × Bor (List ℕ)} {a b c : Place × Bor (List ℕ)} (o : Overflow)
    → HasOverflowText o → CutsWord text word rest → text ≡ overflow_text o → IsKeyInFront rest key → IsPlaceInFront key.1.now a
    → IsPlaceInFront a.1.now b → IsPlaceInFront b.1.now c → c.1.now ≡ d_text o
d_behind {b = b} {c = c} o h cuts is k pa pb read =
    let p = read.some in
    (place_step c.0 o.c c.1.now (d_text o) b.1.now p.0 h.c p.2 refl p.1 (c_behind o h cuts is k pa pb)).1

pub none_behind : {text word rest : List ℕ} {key : List ℕ × Bor (List ℕ)} {a b c d : Place × Bor (List ℕ)} (o : Overflow)
    → HasOverflowText o → CutsWord text word rest → text ≡ overflow_text o → IsKeyInFront rest key → IsPlaceInFront key.1.now a
    → IsPlaceInFront a.1.now b → IsPlaceInFront b.1.now c → IsPlaceInFront c.1.now d → d.1.now ≡ []
none_behind {c = c} {d = d} o h cuts is k pa pb pc read =
    let p = read.some in
    (place_step d.0 o.d d.1.now [] c.1.now p.0 h.d p.2 tt p.1 (d_behind o h cuts is k pa pb pc)).1

-- a word without a comma is no place's
pub no_comma : (word : List ℕ) (place : Place) → Lacks 44 word → word ≡ place_text place → ⊥
no_comma word place h e =
    lacks_none 44 (label_text place.row) (label_text place.col) (subst (λ (l : List ℕ). Lacks 44 l) e h)

-- the pieces that were read, one behind the other
pub overflow_read : (o : Overflow) {text word rest a b c d end : List ℕ} → text ≡ word ++ rest → word ≡ phase_text o.phase
    → rest ≡ 32 ∷ (key_text o.key ++ a) → a ≡ 32 ∷ (place_text o.a ++ b) → b ≡ 32 ∷ (place_text o.b ++ c)
    → c ≡ 32 ∷ (place_text o.c ++ d) → d ≡ 32 ∷ (place_text o.d ++ end) → end ≡ [] → text ≡ overflow_text o
overflow_read o whole phase key a b c d none =
    whole ∙ ap₂ (λ (x y : List ℕ). x ++ y) phase
    (key ∙ ap (λ (l : List ℕ). 32 ∷ (key_text o.key ++ l))
    (a ∙ ap (λ (l : List ℕ). 32 ∷ (place_text o.a ++ l))
    (b ∙ ap (λ (l : List ℕ). 32 ∷ (place_text o.b ++ l))
    (c ∙ ap (λ (l : List ℕ). 32 ∷ (place_text o.c ++ l))
    (d ∙ ap (λ (l : List ℕ). 32 ∷ (place_text o.d ++ l)) none)))))
    ∙ sym (overflow_pieces o)
