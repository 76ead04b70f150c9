-- A file that was read has few rows, so that the labels of the rows of its cone are below those of coordinates.
use Rattle.std.proofs.Common.{arith, ◌≡◌, ◌≢◌, ◌≤◌, ◌+◌, ◌*◌, ◌/◌, ℕ, suc, Bool, List, [], ◌∷◌, length, refl, sym, ap, ◌∙◌, subst, inl, inr, Option, Some, None, Result, Ok}
use Rattle.std.specs.Prelude.{◌==◌, ◌-◌, true, false, drop, codes}
use Rattle.std.specs.List.{list_any}
use Rattle.std.proofs.Math.Nat.{div-le_of_le-mul, mul-le-mul_left, mul_comm}
use Rattle.std.proofs.lemmas.Bool.{cases_Bool, cases_lt, eqb-false, le-ltb, lt-ltb}
use Rattle.std.proofs.lemmas.List.{length-append, length-map}
use Rattle.std.proofs.lemmas.List.FromFn.{length-map-range_with_len}
use Rattle.poly_model.specs.declared.kind.Kind.{Kind}
use Rattle.poly_model.specs.declared.kind.Kind.TheVariants.{H, V}
use Rattle.poly_model.specs.Labels.{IsRow}
use Rattle.poly_model.specs.Limits.{most_columns, most_file_rows}
use Rattle.poly_model.specs.Systems.{FileRow, Polyhedron, Row, added_row, all_rows, cone_of, cone_row, file_rows, is_point_row, nonnegative_row, nonnegative_rows, with_nonnegative}
use Rattle.poly_reader.specs.declared.bad.BadFile.{BadFile}
use Rattle.poly_reader.specs.declared.bad.BadKind.TheVariants.{BadHeader, BadWidth, ShortData, TooManyRows}
use Rattle.poly_reader.specs.FirstFault.{◌>>=◌, bad, each, or_bad}
use Rattle.plain_text.specs.Digits.{count_of}
use Rattle.poly_reader.specs.Head.{Name, head_of, names_of, opening_of, nonnegative_line_of}
use Rattle.poly_reader.specs.Header.{Size, next_and, rows_announced, rows_within, size_of, type_fault, width_of, width_within}
use Rattle.poly_reader.specs.Lines.{Word, firsts, is_word, last_line, lines_of}
use Rattle.poly_reader.specs.Marks.{checked_marks, is_named, marks_of, name_fault}
use Rattle.poly_reader.specs.Matrix.{Matrix, ended, excess, is_enough, late_fault, matrix_of, most, number_of, number_on}
use Rattle.poly_reader.specs.Reading.{IsOfItsText, empty_fault, is_given, length_fault, reading, nonnegative_fault}
use Rattle.poly_reader.specs.Rows.{checked_row, line_of_first, numbers_in, rows_from}
use Rattle.poly_reader.proofs.EachLemmas.{ok_then}

one_value : {A : Type 0} (r : Result A BadFile) (x y : A) → r ≡ Ok x → r ≡ Ok y → x ≡ y
one_value r x y e f = cc

-- ---- the header
abbrev AreFew : Option ℕ → Type 0
AreFew None = Unit {0}
AreFew (Some m) = m ≤ most_file_rows

few_within : (line m : ℕ) (rows : Option ℕ) → rows_within line m ≡ Ok rows → AreFew rows
few_within line m rows e = elim (cases_lt most_file_rows m) [
  | inl lt ↦ absurd (let q : rows_within line m ≡ bad TooManyRows line = rw (lt-ltb most_file_rows m lt) refl in cc)
  | inr le ↦ let q : rows_within line m ≡ Ok (Some m) = rw (le-ltb most_file_rows m le) refl in
      let same : Some m ≡ rows = cc in subst AreFew same le
]

few_announced : (w : Word) (rows : Option ℕ) → rows_announced w ≡ Ok rows → AreFew rows
unfolding rows_announced
few_announced w rows e = elim (cases_Bool (is_word w (codes "*****"))) [
  | inl y ↦ let same : Ok None ≡ Ok rows = rw y at e in let is : None ≡ rows = cc in subst AreFew is tt
  | inr n ↦
      let rest : (or_bad BadHeader w.line (count_of w.text) >>= rows_within w.line) ≡ Ok rows = rw n at e in
      let m = ok_then (or_bad BadHeader w.line (count_of w.text)) (rows_within w.line) rows rest in
      few_within w.line m.0 rows m.2
]

next_then : {A : Type 0} (last : ℕ) (words : List Word) (f : Word → List Word → Result A BadFile) (y : A) →
    next_and last words f ≡ Ok y → (w : Word) × (rest : List Word) × (words ≡ w ∷ rest) × (f w rest ≡ Ok y)
next_then last [] f y e = absurd cc
next_then last (w ∷ words) f y e = (w, words, refl, e)

few_in_header : (last : ℕ) (words : List Word) (size : Size) → size_of last words ≡ Ok size → AreFew size.rows
unfolding size_of
few_in_header last words size e =
    let first = next_then last words _ size e in
    let rows = ok_then (rows_announced first.0) _ size first.3 in
    let second = next_then last first.1 _ size rows.2 in
    let width = ok_then (width_of second.0) _ size second.3 in
    let third = next_then last second.1 _ size width.2 in
    let done = ok_then (type_fault third.0) _ size third.3 in
    let same : record { rows = rows.0; width = width.0; words = third.1 } ≡ size = one_value (Ok size) _ _ (sym done.2) refl in
    subst AreFew (ap (λ (z : Size). z.rows) same) (few_announced first.0 rows.0 rows.1)

-- ---- the width
narrow_within : (line n width : ℕ) → width_within line n ≡ Ok width → width ≤ most_columns
narrow_within line n width e = elim (cases_Bool (n == 0)) [
  | inl z ↦ absurd (let q : width_within line n ≡ bad BadWidth line = rw z refl in cc)
  | inr z ↦ elim (cases_lt most_columns n) [
    | inl lt ↦ absurd (let q : width_within line n ≡ bad BadWidth line = rw (z, lt-ltb most_columns n lt) refl in cc)
    | inr le ↦
        let q : width_within line n ≡ Ok n = rw (z, le-ltb most_columns n le) refl in
        let same : n ≡ width = cc in
        subst (λ (k : ℕ). k ≤ most_columns) same le
  ]
]

narrow_width : (w : Word) (width : ℕ) → width_of w ≡ Ok width → width ≤ most_columns
unfolding width_of
narrow_width w width e =
    let n = ok_then (or_bad BadHeader w.line (count_of w.text)) (width_within w.line) width e in
    narrow_within w.line n.0 width n.2

narrow_in_header : (last : ℕ) (words : List Word) (size : Size) → size_of last words ≡ Ok size → size.width ≤ most_columns
unfolding size_of
narrow_in_header last words size e =
    let first = next_then last words _ size e in
    let rows = ok_then (rows_announced first.0) _ size first.3 in
    let second = next_then last first.1 _ size rows.2 in
    let width = ok_then (width_of second.0) _ size second.3 in
    let third = next_then last second.1 _ size width.2 in
    let done = ok_then (type_fault third.0) _ size third.3 in
    let same : record { rows = rows.0; width = width.0; words = third.1 } ≡ size = one_value (Ok size) _ _ (sym done.2) refl in
    subst (λ (n : ℕ). n ≤ most_columns) (ap (λ (z : Size). z.width) same) (narrow_width second.0 width.0 width.1)

-- ---- the numbers
within : (rows : Option ℕ) (n : ℕ) → AreFew rows → most rows n ≤ n * most_file_rows
within None n few = omega (arith, mul_comm most_file_rows n)
within (Some m) n few = subst (λ (k : ℕ). k ≤ n * most_file_rows) (mul_comm n m) (mul-le-mul_left n few)

few_ended : (rows : Option ℕ) (n count line : ℕ) (words : List Word) (m : Matrix) → ended rows n count line words ≡ Ok m → m.count ≡ count
few_ended rows n count line words m e = elim (cases_Bool (is_enough rows n count)) [
  | inl y ↦
      let same : Ok (record { count = count; end_line = line; words = words }) ≡ Ok m = rw y at e in
      let is : record { count = count; end_line = line; words = words } ≡ m = cc in
      sym (ap (λ (z : Matrix). z.count) is)
  | inr n ↦ absurd (let q : bad ShortData line ≡ Ok m = rw n at e in cc)
]

few_numbers : (last : ℕ) (rows : Option ℕ) (n count : ℕ) (words : List Word) (m : Matrix) → count ≤ most rows n →
    matrix_of last rows n count words ≡ Ok m → m.count ≤ most rows n
unfolding matrix_of
few_numbers last rows n count [] m le e = absurd cc
few_numbers last rows n count (w ∷ words) m le e = elim (cases_Bool (is_word w (codes "end"))) [
  | inl y ↦ let q = rw y at e in omega (arith, few_ended rows n count w.line words m q, le)
  | inr f ↦ elim (cases_Bool (count == most rows n)) [
    | inl y ↦ absurd (let q : bad (excess rows) w.line ≡ Ok m = rw (f, y) at e in cc)
    | inr g ↦
        let other : count ≢ most rows n = eqb-false count (most rows n) g in
        let rest : (number_on w.line (number_of w.text) >>= λ x. matrix_of last rows n (count + 1) words) ≡ Ok m = rw (f, g) at e in
        let x = ok_then (number_on w.line (number_of w.text)) _ m rest in
        few_numbers last rows n (count + 1) words m (omega (arith, le, other)) x.2
  ]
]

-- ---- the rows
as_many_marks : (m : ℕ) (names : List Name) (marks : List Bool) → checked_marks m names ≡ Ok marks → length marks ≡ m
unfolding checked_marks
as_many_marks m names marks e =
    let rows = ok_then (each (name_fault m) names) _ marks e in
    let same : marks_of m names ≡ marks = cc in
    ap length (sym same) ∙ length-map-range_with_len (is_named names) 1 m

as_many_rows : (last : ℕ) (kind : Kind) (n : ℕ) (marks : List Bool) (words : List Word) (rows : List FileRow) →
    rows_from last kind n marks words ≡ Ok rows → length rows ≡ length marks
unfolding rows_from
as_many_rows last kind n [] words rows e = let same : [] ≡ rows = cc in ap length (sym same)
as_many_rows last kind n (mark ∷ marks) words rows e =
    let numbers = ok_then (numbers_in last n words) _ rows e in
    let row = ok_then (checked_row kind mark (line_of_first last words) numbers.0) _ rows numbers.2 in
    let others = ok_then (rows_from last kind n marks (drop n words)) _ rows row.2 in
    let same : row.0 ∷ others.0 ≡ rows = cc in
    ap length (sym same) ∙ ap suc (as_many_rows last kind n marks (drop n words) others.0 others.1)

-- ---- a file
-- so many rows and columns at most
record IsSmall (p : Polyhedron) : Type 0 where
  rows : length p.rows ≤ most_file_rows
  columns : p.n ≤ most_columns

small_file : (p : Polyhedron) → IsOfItsText p → IsSmall p
unfolding reading
small_file p h =
    let short = ok_then (length_fault (length p.text)) _ p h in
    let opening = ok_then (opening_of (last_line p.text) (lines_of p.text)) _ p short.2 in
    let size = ok_then (size_of (last_line p.text) opening.0.words) _ p opening.2 in
    let matrix = ok_then (matrix_of (last_line p.text) size.0.rows size.0.width 0 size.0.words) _ p size.2 in
    let late = ok_then (each late_fault (firsts matrix.0.end_line matrix.0.words)) _ p matrix.2 in
    let marks = ok_then (checked_marks (matrix.0.count / size.0.width) (names_of (head_of (lines_of p.text)))) _ p late.2 in
    let some = ok_then (empty_fault opening.0.kind (matrix.0.count / size.0.width) matrix.0.end_line) _ p marks.2 in
    let given = nonnegative_line_of (head_of (lines_of p.text)) in
    let placed = ok_then (nonnegative_fault opening.0.kind given) _ p some.2 in
    let rows = ok_then (rows_from (last_line p.text) opening.0.kind size.0.width marks.0 size.0.words) _ p placed.2 in
    let same : record { kind = opening.0.kind; n = size.0.width; rows = rows.0; nonnegative = is_given given; text = p.text } ≡ p =
    one_value (Ok p) _ _ (sym rows.2) refl in
    let count : length p.rows ≡ matrix.0.count / size.0.width =
    ap (λ (z : Polyhedron). length z.rows) (sym same)
    ∙ as_many_rows (last_line p.text) opening.0.kind size.0.width marks.0 size.0.words rows.0 rows.1
    ∙ as_many_marks (matrix.0.count / size.0.width) (names_of (head_of (lines_of p.text))) marks.0 marks.1 in
    let numbers = few_numbers (last_line p.text) size.0.rows size.0.width 0 size.0.words matrix.0 (omega arith) matrix.1 in
    let most = within size.0.rows size.0.width (few_in_header (last_line p.text) opening.0.words size.0 size.1) in
    let few : matrix.0.count / size.0.width ≤ most_file_rows = div-le_of_le-mul size.0.width (omega (arith, numbers, most)) in
    record {
      rows = omega (arith, count, few);
      columns = subst (λ (n : ℕ). n ≤ most_columns) (ap (λ (z : Polyhedron). z.n) same)
          (narrow_in_header (last_line p.text) opening.0.words size.0 size.1);
    }

few_added : (kind : Kind) (n : ℕ) (rows : List Row) → length (added_row kind n rows) ≤ 1
few_added H n rows = omega arith
few_added V n rows = elim (cases_Bool (list_any is_point_row rows)) [
  | inl y ↦ rw y (omega arith)
  | inr f ↦ rw f (omega arith)
]

few_nonnegative : (kind : Kind) (nonnegative : Bool) (n : ℕ) (rows : List FileRow) →
    length (with_nonnegative kind nonnegative n rows) ≤ length rows + n
few_nonnegative H true n rows =
    omega (arith, length-append rows (nonnegative_rows n), length-map-range_with_len (nonnegative_row n) 1 (n - 1))
few_nonnegative H false n rows = omega arith
few_nonnegative V nonnegative n rows = omega arith

pub few_rows : (p : Polyhedron) → IsOfItsText p → IsRow (length (cone_of p).rows)
few_rows p h =
    let small = small_file p h in
    omega (
      arith,
      small.rows,
      small.columns,
      few_nonnegative p.kind p.nonnegative p.n p.rows,
      few_added p.kind p.n (file_rows p),
      length-append (file_rows p) (added_row p.kind p.n (file_rows p)),
      length-map (all_rows p) (cone_row p.kind),
    )
