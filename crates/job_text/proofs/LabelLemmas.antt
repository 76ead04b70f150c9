-- The texts of labels: one for each, without blanks and line feeds.
use Rattle.std.proofs.Common.{◌≡◌, ◌<◌, ◌≤◌, ℕ, zero, suc, List, [], ◌∷◌, drop, get_or, refl, sym, ap, ◌∙◌, subst, inl, inr, arith, Option, Some, None}
use Rattle.std.specs.Prelude.{decimal}
use Rattle.std.proofs.lemmas.Bool.{ne_eqb, lt-ltb, le-ltb, cases_lt}
use Rattle.plain_text.specs.Cuts.{Lacks}
use Rattle.plain_text.specs.Texts.{IsReadOf}
use Rattle.plain_text.proofs.ReadLemmas.{some_read, none_read, read_at, read_none}
use Rattle.plain_text.proofs.NumberLemmas.{decimal_tells, decimal_lacks}
use Rattle.poly_model.specs.Labels.{coordinates_from, coordinate_index}
use Rattle.poly_model.specs.LabelText.{label_text}
use Rattle.job_text.specs.KeyTexts.{IsKeyLabel, IsPlaceLabel}

pub row_label_text : (l : ℕ) → 1 ≤ l → l < coordinates_from → label_text l ≡ decimal l
row_label_text l some row = rw (ne_eqb l 0 (λ e. omega (arith, e, some)), lt-ltb l coordinates_from row) refl

pub coordinate_label_text : (l : ℕ) → coordinates_from ≤ l → IsKeyLabel l → label_text l ≡ 120 ∷ decimal (coordinate_index l)
coordinate_label_text l from label =
    rw (ne_eqb l 0 (λ e. omega (arith, e, from)), le-ltb l coordinates_from from, ne_eqb l 65535 (λ e. omega (arith, e, label))) refl

-- t, a row or a coordinate
pub data LabelCase (l : ℕ) : Type 0 where
  extra : l ≡ 0 → LabelCase l
  row : 1 ≤ l → l < coordinates_from → LabelCase l
  coordinate : coordinates_from ≤ l → LabelCase l

pub label_case : (l : ℕ) → LabelCase l
label_case zero = extra refl
label_case (suc k) = elim (cases_lt (suc k) coordinates_from) [
  | inl lt ↦ row (omega arith) lt
  | inr le ↦ coordinate le
]

pub label_lacks : (byte l : ℕ) → byte < 48 → IsKeyLabel l → Lacks byte (label_text l)
label_lacks byte l small label = by (label_case l)
  where
    by : LabelCase l → Lacks byte (label_text l)
    by (extra e) = rw e ((λ is. omega (arith, is, small)), tt)
    by (row some lt) = rw (row_label_text l some lt) (decimal_lacks byte l (omega (arith, lt)) (inl small))
    by (coordinate from) =
        rw (coordinate_label_text l from label)
        ((λ is. omega (arith, is, small)), decimal_lacks byte (coordinate_index l) (omega (arith, label)) (inl small))

-- a row's text is no other label's
row_is_no_text : (l byte : ℕ) (text : List ℕ) → l < coordinates_from → 57 < byte → decimal l ≡ byte ∷ text → ⊥
row_is_no_text l byte text lt large e =
    let lacks : Lacks byte (byte ∷ text) = subst (λ (t : List ℕ). Lacks byte t) e (decimal_lacks byte l (omega (arith, lt)) (inr large)) in
    lacks.0 refl

pub label_tells : (l m : ℕ) → IsKeyLabel l → IsKeyLabel m → label_text l ≡ label_text m → l ≡ m
label_tells l m p q e = by (label_case l) (label_case m)
  where
    by : LabelCase l → LabelCase m → l ≡ m
    by (extra a) (extra b) = a ∙ sym b
    by (extra a) (row some lt) =
        absurd (row_is_no_text m 116 [] lt (omega arith) (sym (row_label_text m some lt) ∙ sym e ∙ ap label_text a))
    by (extra a) (coordinate from) =
        let texts : 116 ∷ [] ≡ 120 ∷ decimal (coordinate_index m) =
        sym (ap label_text a) ∙ e ∙ coordinate_label_text m from q in
        absurd (omega (arith, ap (λ (t : List ℕ). get_or t 0 0) texts))
    by (row some lt) (extra b) =
        absurd (row_is_no_text l 116 [] lt (omega arith) (sym (row_label_text l some lt) ∙ e ∙ ap label_text b))
    by (row some lt) (row more less) =
        decimal_tells l m (omega (arith, lt)) (omega (arith, less))
        (sym (row_label_text l some lt) ∙ e ∙ row_label_text m more less)
    by (row some lt) (coordinate from) =
        absurd (row_is_no_text l 120 (decimal (coordinate_index m)) lt (omega arith)
        (sym (row_label_text l some lt) ∙ e ∙ coordinate_label_text m from q))
    by (coordinate from) (extra b) =
        let texts : 120 ∷ decimal (coordinate_index l) ≡ 116 ∷ [] =
        sym (coordinate_label_text l from p) ∙ e ∙ ap label_text b in
        absurd (omega (arith, ap (λ (t : List ℕ). get_or t 0 0) texts))
    by (coordinate from) (row some lt) =
        absurd (row_is_no_text m 120 (decimal (coordinate_index l)) lt (omega arith)
        (sym (row_label_text m some lt) ∙ sym e ∙ coordinate_label_text l from p))
    by (coordinate from) (coordinate on) =
        let texts = sym (coordinate_label_text l from p) ∙ e ∙ coordinate_label_text m on q in
        let same = decimal_tells (coordinate_index l) (coordinate_index m) (omega (arith, p)) (omega (arith, q))
        (ap (λ (t : List ℕ). drop 1 t) texts) in
        omega (arith, same, from, on)

-- what is read behind an x is the label
pub coordinate_read : (label : Option ℕ) (column word : List ℕ) → word ≡ 120 ∷ column
    → IsReadOf (λ l. (coordinates_from ≤ l) × IsKeyLabel l) (λ l. decimal (coordinate_index l)) column label
    → IsReadOf IsKeyLabel label_text word label
coordinate_read (Some l) column word is h =
    let k = read_at refl h in
    some_read l k.0.1 (is ∙ ap (λ (t : List ℕ). 120 ∷ t) k.1 ∙ sym (coordinate_label_text l k.0.0 k.0.1))
coordinate_read None column word is h = none_read (λ l may e. by l may (sym is ∙ e) (label_case l))
  where
    by : (l : ℕ) → IsKeyLabel l → 120 ∷ column ≡ label_text l → LabelCase l → ⊥
    by l may e (extra z) =
        let texts : 120 ∷ column ≡ 116 ∷ [] = e ∙ ap label_text z in
        omega (arith, ap (λ (t : List ℕ). get_or t 0 0) texts)
    by l may e (row some lt) = row_is_no_text l 120 column lt (omega arith) (sym (row_label_text l some lt) ∙ sym e)
    by l may e (coordinate from) =
        read_none refl h l (from, may) (ap (λ (t : List ℕ). drop 1 t) (e ∙ coordinate_label_text l from may))

-- ---- the constant column too

pub place_label_lacks : (byte l : ℕ) → byte < 48 → IsPlaceLabel l → Lacks byte (label_text l)
place_label_lacks byte l small (inl key) = label_lacks byte l small key
place_label_lacks byte l small (inr is) = rw is ((λ e. omega (arith, e, small)), tt)

constant_is_no_text : (l : ℕ) → IsKeyLabel l → label_text l ≡ 99 ∷ [] → ⊥
constant_is_no_text l key e = by (label_case l)
  where
    by : LabelCase l → ⊥
    by (extra z) =
        let texts : 116 ∷ [] ≡ 99 ∷ [] = sym (ap label_text z) ∙ e in omega (arith, ap (λ (t : List ℕ). get_or t 0 0) texts)
    by (row some lt) = row_is_no_text l 99 [] lt (omega arith) (sym (row_label_text l some lt) ∙ e)
    by (coordinate from) =
        let texts : 120 ∷ decimal (coordinate_index l) ≡ 99 ∷ [] = sym (coordinate_label_text l from key) ∙ e in
        omega (arith, ap (λ (t : List ℕ). get_or t 0 0) texts)

pub place_label_tells : (l m : ℕ) → IsPlaceLabel l → IsPlaceLabel m → label_text l ≡ label_text m → l ≡ m
place_label_tells l m (inl p) (inl q) e = label_tells l m p q e
place_label_tells l m (inl p) (inr q) e = absurd (constant_is_no_text l p (e ∙ ap label_text q))
place_label_tells l m (inr p) (inl q) e = absurd (constant_is_no_text m q (sym e ∙ ap label_text p))
place_label_tells l m (inr p) (inr q) e = p ∙ sym q
