-- A text that was read while fewer texts were keeps its polyhedron: each step that passed passes still.
use Rattle.std.proofs.Common.{◌≡◌, ℕ, Bool, true, false, List, [], ◌∷◌, length, refl, sym, ap, ◌∙◌, inl, inr, arith, None, Some, Result, Ok, Err}
use Rattle.std.specs.Prelude.{◌/◌, ◌==◌, ◌&&◌, not, codes}
use Rattle.std.proofs.lemmas.Bool.{cases_Bool, cases_lt, le-ltb, lt-ltb}
use Rattle.poly_model.specs.Systems.{Polyhedron}
use Rattle.poly_reader.specs.declared.bad.BadFile.{BadFile}
use Rattle.poly_reader.specs.declared.bad.BadKind.TheVariants.{BadHeader, BadWidth, MisplacedNonnegative, NoBegin}
use Rattle.plain_text.specs.Digits.{count_of}
use Rattle.poly_reader.specs.FirstFault.{◌>>=◌, bad, each, or_bad}
use Rattle.poly_reader.specs.Head.{Opening, head_of, body_of, line_fault, names_of, opening_of, nonnegative_line, nonnegative_line_of}
use Rattle.poly_reader.specs.Header.{Size, next_and, rows_announced, size_of, type_fault, width_of, width_within}
use Rattle.poly_reader.specs.Lines.{Word, Line, firsts, is_word, last_line, lines_of}
use Rattle.poly_reader.specs.Marks.{checked_marks}
use Rattle.poly_reader.specs.Matrix.{late_fault, matrix_of}
use Rattle.poly_reader.specs.Reading.{IsFileOf, empty_fault, length_fault, reading}
use Rattle.poly_reader.specs.Rows.{rows_from}
use Rattle.poly_reader.proofs.EachLemmas.{ok_then}
use Rattle.poly_reader.specs.Before.{line_fault_before, opening_before, width_before, width_within_before, size_before, reading_before, KeepsItsPolyhedron}

-- the same first step, and what stands behind it goes well where it did
then_kept : {A B : Type 0} (r : Result A BadFile) (f g : A → Result B BadFile) (y : B) →
    ((x : A) → f x ≡ Ok y → g x ≡ Ok y) → (r >>= f) ≡ Ok y → (r >>= g) ≡ Ok y
then_kept (Ok x) f g y h e = h x e
then_kept (Err b) f g y h e = absurd cc

-- another first step, that goes well where the one before did
then_changed : {A B : Type 0} (r s : Result A BadFile) (f g : A → Result B BadFile) (y : B) →
    ((x : A) → r ≡ Ok x → s ≡ Ok x) → ((x : A) → r ≡ Ok x → f x ≡ Ok y → g x ≡ Ok y) →
    (r >>= f) ≡ Ok y → (s >>= g) ≡ Ok y
then_changed (Ok x) s f g y h k e = rw (h x refl) (k x refl e)
then_changed (Err b) s f g y h k e = absurd cc

next_kept : {A : Type 0} (last : ℕ) (words : List Word) (f g : Word → List Word → Result A BadFile) (y : A) →
    ((w : Word) (rest : List Word) → f w rest ≡ Ok y → g w rest ≡ Ok y) →
    next_and last words f ≡ Ok y → next_and last words g ≡ Ok y
next_kept last [] f g y h e = absurd cc
next_kept last (w ∷ words) f g y h e = h w words e

-- ---- the lines before `begin`
line_kept : (line : Line) (u : Unit {0}) → line_fault_before line ≡ Ok u
    → (line_fault line ≡ Ok tt) × (nonnegative_line line ≡ None)
unfolding line_fault_before line_fault nonnegative_line
line_kept [] u e = (refl, refl)
line_kept (w ∷ words) u e = elim (cases_Bool (is_word w (codes "nonnegative"))) [
  | inl y ↦ absurd (let q : bad MisplacedNonnegative w.line ≡ Ok u = rw y at e in cc)
  | inr n ↦ (rw n at e, rw n refl)
]

lines_kept : (lines : List Line) (u : Unit {0}) → each line_fault_before lines ≡ Ok u
    → (each line_fault lines ≡ Ok tt) × (nonnegative_line_of lines ≡ None)
unfolding each nonnegative_line_of
lines_kept [] u e = (refl, refl)
lines_kept (line ∷ lines) u e =
    let first = ok_then (line_fault_before line) (λ done. each line_fault_before lines) u e in
    let here = line_kept line first.0 first.1 in
    let others = lines_kept lines u first.2 in
    (rw here.0 others.0, rw here.1 others.1)

opening_kept : (last : ℕ) (lines : List Line) (o : Opening) → opening_before last lines ≡ Ok o
    → (opening_of last lines ≡ Ok o) × (nonnegative_line_of (head_of lines) ≡ None)
unfolding opening_before opening_of
opening_kept last lines o e =
    let fine = ok_then (each line_fault_before (head_of lines)) _ o e in
    let kept = lines_kept (head_of lines) fine.0 fine.1 in
    (rw kept.0 fine.2, kept.1)

-- ---- the width
within_kept : (line n width : ℕ) → width_within_before line n ≡ Ok width → width_within line n ≡ Ok width
within_kept line n width e = elim (cases_Bool (n == 0)) [
  | inl z ↦ absurd (let q : bad BadWidth line ≡ Ok width = rw z at e in cc)
  | inr z ↦ elim (cases_lt 256 n) [
    | inl lt ↦ absurd (let q : bad BadWidth line ≡ Ok width = rw (z, lt-ltb 256 n lt) at e in cc)
    | inr le ↦ rw (z, le-ltb 512 n (omega (arith, le))) (rw (z, le-ltb 256 n le) at e)
  ]
]

width_kept : (w : Word) (width : ℕ) → width_before w ≡ Ok width → width_of w ≡ Ok width
unfolding width_before width_of
width_kept w width e =
    then_kept (or_bad BadHeader w.line (count_of w.text)) (width_within_before w.line) (width_within w.line) width
    (λ n. within_kept w.line n width) e

size_kept : (last : ℕ) (words : List Word) (size : Size) → size_before last words ≡ Ok size → size_of last words ≡ Ok size
unfolding size_before size_of
size_kept last words size e =
    next_kept last words _ _ size (λ m behind_m.
    then_kept (rows_announced m) _ _ size (λ rows.
    next_kept last behind_m _ _ size (λ n behind_n.
    then_changed (width_before n) (width_of n) _ _ size (width_kept n) (λ width is h. h)))) e

-- ---- the text
pub polyhedron_kept : (text : List ℕ) → KeepsItsPolyhedron text
unfolding reading reading_before
polyhedron_kept text p e =
    let last = last_line text in
    let lines = lines_of text in
    then_kept (length_fault (length text)) _ _ p (λ short.
    then_changed (opening_before last lines) (opening_of last lines) _ _ p (λ o is. (opening_kept last lines o is).0)
    (λ opening is.
    then_changed (size_before last opening.words) (size_of last opening.words) _ _ p (size_kept last opening.words)
    (λ size sized.
    then_kept (matrix_of last size.rows size.width 0 size.words) _ _ p (λ matrix.
    then_kept (each late_fault (firsts matrix.end_line matrix.words)) _ _ p (λ late.
    then_kept (checked_marks (matrix.count / size.width) (names_of (head_of lines))) _ _ p (λ marks.
    then_kept (empty_fault opening.kind (matrix.count / size.width) matrix.end_line) _ _ p (λ some h.
    rw ((opening_kept last lines opening is).1) h))))))) e
