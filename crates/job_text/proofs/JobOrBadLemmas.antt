-- A text is a job, or is bad at a place: never both, and at one place only. Which of the two it is can be found out by
-- trying, since each line is of finitely many, or says itself what it is.
use Rattle.std.proofs.Common.{◌≡◌, ◌≢◌, ◌⊎◌, ◌<◌, ◌≤◌, ◌+◌, ◌*◌, ◌/◌, ◌^◌, ℕ, zero, suc, Bool, true, false, List, [], ◌∷◌, ◌++◌, length, take, drop, get_or, append_assoc, append-nil, refl, sym, ap, ◌∙◌, subst, inl, inr, arith, Option, Some, None, Result, Ok, Err}
use Rattle.std.specs.Prelude.{◌==◌, codes, decimal, position}
use Rattle.std.specs.Bool.{Decides}
use Rattle.std.specs.List.{AllByRecursion}
use Rattle.std.proofs.lemmas.Bool.{cases_lt}
use Rattle.std.proofs.lemmas.Bool.Decides.{not_from_Decides, Decides-eqb}
use Rattle.std.proofs.lemmas.Slice.Eq.{bytes_eq-Decides}
use Rattle.plain_text.specs.Cuts.{Lacks}
use Rattle.plain_text.specs.Digits.{capped, decimal_of}
use Rattle.plain_text.proofs.CutLemmas.{one_line, lacks_append, lacks_tested, lacks_all, cuts_line}
use Rattle.plain_text.proofs.Decimals.{decimal_of_decimal}
use Rattle.plain_text.proofs.NumberLemmas.{digits_have_none}
use Rattle.plain_text.proofs.ReadLemmas.{no_line}
use Rattle.poly_model.specs.declared.kind.WorkKind.{WorkKind}
use Rattle.poly_model.specs.declared.kind.WorkKind.TheVariants.{Subsets, Subtrees}
use Rattle.poly_model.specs.Keys.{IsAscending}
use Rattle.poly_model.specs.Labels.{coordinates_from}
use Rattle.poly_model.specs.Limits.{most_labels}
use Rattle.poly_model.specs.Systems.{Polyhedron}
use Rattle.poly_reader.specs.declared.bad.BadFile.{BadFile}
use Rattle.poly_reader.specs.FirstFault.{◌>>=◌, each}
use Rattle.poly_reader.specs.Head.{head_of, names_of, nonnegative_line_of, opening_of}
use Rattle.poly_reader.specs.Header.{size_of}
use Rattle.poly_reader.specs.Lines.{lines_of, last_line, firsts}
use Rattle.poly_reader.specs.Marks.{checked_marks}
use Rattle.poly_reader.specs.Matrix.{matrix_of, late_fault}
use Rattle.poly_reader.specs.Reading.{reading, length_fault, empty_fault, is_given, nonnegative_fault, IsFileOf, IsFirstFault}
use Rattle.poly_reader.specs.Rows.{rows_from}
use Rattle.work_core.specs.Splits.{most_bases, most_depth}
use Rattle.job_text.specs.declared.job.Job.{Job}
use Rattle.job_text.specs.declared.job.JobHead.{JobHead}
use Rattle.job_text.specs.KeyTexts.{HasKeyText}
use Rattle.job_text.specs.Jobs.{work_line, root_line, key_line, bases_line, depth_line, input_line, five_lines, HasHeadText, IsJobText, IsBadText, IsBadInput, IsBadLine, HasForm, BeginsWithLines, JobLine, job_lines, first_line, second_line, third_line, fourth_line, fifth_line, sixth_line}
use Rattle.job_text.specs.Laws.{IsJobOrBad}
use Rattle.job_text.proofs.JobLineLemmas.{work_lacks, word_and_key_lack, word_and_count_lack, same_behind}
use Rattle.job_text.proofs.JobTextLemmas.{five_begin, SaysSize, whole_job}
use Rattle.job_text.proofs.LengthLemmas.{IsTold, file_is_short}

-- ---- what can be found out

abbrev pub Known : Type 0 → Type 0
Known P = P ⊎ (P → ⊥)

pub both : {P Q : Type 0} → Known P → Known Q → Known (P × Q)
both (inl p) (inl q) = inl (p, q)
both (inl p) (inr n) = inr (λ h. n h.1)
both (inr n) q = inr (λ h. n h.0)

pub from_test : {P : Type 0} (r : Bool) → Decides r P → Known P
from_test true d = inl (d.0 refl)
from_test false d = inr (not_from_Decides false d refl)

pub same_texts : (a b : List ℕ) → Known (a ≡ b)
same_texts a b = from_test _ (bytes_eq-Decides a b)

is_below : (m n : ℕ) → Known (m < n)
is_below m n = elim (cases_lt m n) [
  | inl lt ↦ inl lt
  | inr le ↦ inr (λ lt. omega (arith, lt, le))
]

-- a number below a bound
abbrev pub Below : ℕ → (ℕ → Type 0) → Type 0
Below bound P = (n : ℕ) × (n < bound) × P n

below_more : (bound : ℕ) (P : ℕ → Type 0) → Known (P bound) → Known (Below bound P) → Known (Below (suc bound) P)
below_more bound P (inl p) few = inl (bound, omega arith, p)
below_more bound P (inr never) (inl found) = let (n, lt, p) = found in inl (n, omega (arith, lt), p)
below_more bound P (inr never) (inr none) = inr (λ h.
    let (n, lt, p) = h in
    elim (cases_lt n bound) [
      | inl less ↦ none (n, less, p)
      | inr le ↦ never (subst P (omega (arith, lt, le)) p)
    ])

pub number_below : (bound : ℕ) (P : ℕ → Type 0) → ((n : ℕ) → Known (P n)) → Known (Below bound P)
number_below zero P known = inr (λ h. let (n, lt, p) = h in omega (arith, lt))
number_below (suc bound) P known = below_more bound P (known bound) (number_below bound P known)

-- a list of not too many numbers below a bound
abbrev pub Listed : ℕ → ℕ → (List ℕ → Type 0) → Type 0
Listed room bound P = (l : List ℕ) × (length l ≤ room) × AllByRecursion (λ x. x < bound) l × P l

abbrev AsHead : ℕ → ℕ → (List ℕ → Type 0) → ℕ → Type 0
AsHead room bound P x = Listed room bound (λ l. P (x ∷ l))

none_listed : (bound : ℕ) (P : List ℕ → Type 0) → (P [] → ⊥) → (l : List ℕ) → length l ≤ 0 → P l → ⊥
none_listed bound P never [] le p = never p
none_listed bound P never (x ∷ l) le p = omega (arith, le)

no_more_listed : (room bound : ℕ) (P : List ℕ → Type 0) → (P [] → ⊥) → (Below bound (AsHead room bound P) → ⊥)
    → (l : List ℕ) → length l ≤ suc room → AllByRecursion (λ x. x < bound) l → P l → ⊥
no_more_listed room bound P never none [] le all p = never p
no_more_listed room bound P never none (x ∷ l) le all p = none (x, all.0, (l, omega (arith, le), all.1, p))

listed_more : (room bound : ℕ) (P : List ℕ → Type 0) → Known (P []) → Known (Below bound (AsHead room bound P))
    → Known (Listed (suc room) bound P)
listed_more room bound P (inl p) more = inl ([], omega arith, tt, p)
listed_more room bound P (inr never) (inl found) =
    let (x, lt, k) = found in let (l, le, all, p) = k in inl (x ∷ l, omega (arith, le), (lt, all), p)
listed_more room bound P (inr never) (inr none) = inr (λ h.
    let (l, le, all, p) = h in no_more_listed room bound P never none l le all p)

empty_listed : (bound : ℕ) (P : List ℕ → Type 0) → Known (P []) → Known (Listed 0 bound P)
empty_listed bound P (inl p) = inl ([], omega arith, tt, p)
empty_listed bound P (inr never) = inr (λ h. let (l, le, all, p) = h in none_listed bound P never l le p)

pub list_below : (room bound : ℕ) (P : List ℕ → Type 0) → ((l : List ℕ) → Known (P l)) → Known (Listed room bound P)
list_below zero bound P known = empty_listed bound P (known [])
list_below (suc room) bound P known =
    listed_more room bound P (known [])
    (number_below bound (AsHead room bound P) (λ x. list_below room bound (λ l. P (x ∷ l)) (λ l. known (x ∷ l))))

-- ---- lines

all_above : (x : ℕ) (l : List ℕ) → Known (AllByRecursion (λ y. x < y) l)
all_above x [] = inl tt
all_above x (y ∷ l) = both (is_below x y) (all_above x l)

pub is_ascending : (l : List ℕ) → Known (IsAscending l)
is_ascending [] = inl tt
is_ascending (x ∷ l) = both (all_above x l) (is_ascending l)

-- a key of which the line is made
abbrev IsOfKey : (List ℕ → List ℕ) → List ℕ → Type 0
IsOfKey line_of line = (key : List ℕ) × HasKeyText key × (line ≡ line_of key)

key_known : (line_of : List ℕ → List ℕ) (line : List ℕ) → Known (IsOfKey line_of line)
key_known line_of line =
    by (list_below most_labels (2 * coordinates_from) (λ key. IsAscending key × (line ≡ line_of key))
    (λ key. both (is_ascending key) (same_texts line (line_of key))))
  where
    by : Known (Listed most_labels (2 * coordinates_from) (λ key. IsAscending key × (line ≡ line_of key))) → Known (IsOfKey line_of line)
    by (inl found) =
        let (key, room, labels, k) = found in
        inl (key, record { is_key = record { room = room; ascending = k.0 }; labels = labels }, k.1)
    by (inr none) = inr (λ h.
        let (key, k, is) = h in none (key, k.is_key.room, k.labels, (k.is_key.ascending, is)))

work_known : (line : List ℕ) → Known (HasForm first_line line)
work_known line = by (same_texts line (work_line Subsets)) (same_texts line (work_line Subtrees))
  where
    neither : (line ≡ work_line Subsets → ⊥) → (line ≡ work_line Subtrees → ⊥) → (work : WorkKind) → line ≡ work_line work → ⊥
    neither never none Subsets is = never is
    neither never none Subtrees is = none is

    by : Known (line ≡ work_line Subsets) → Known (line ≡ work_line Subtrees) → Known (HasForm first_line line)
    by (inl is) other = inl (Subsets, is)
    by (inr never) (inl is) = inl (Subtrees, is)
    by (inr never) (inr none) = inr (λ h. let (work, is) = h in neither never none work is)

bases_known : (line : List ℕ) → Known (HasForm fourth_line line)
bases_known line =
    by (number_below (suc most_bases) (λ n. (0 < n) × (line ≡ bases_line n)) (λ n. both (is_below 0 n) (same_texts line (bases_line n))))
  where
    by : Known (Below (suc most_bases) (λ n. (0 < n) × (line ≡ bases_line n))) → Known (HasForm fourth_line line)
    by (inl found) = let (n, lt, k) = found in inl (n, k.0, omega (arith, lt), k.1)
    by (inr none) = inr (λ h. let (n, some, most, is) = h in none (n, omega (arith, most), (some, is)))

depth_known : (line : List ℕ) → Known (HasForm fifth_line line)
depth_known line = by (number_below (suc most_depth) (λ n. line ≡ depth_line n) (λ n. same_texts line (depth_line n)))
  where
    by : Known (Below (suc most_depth) (λ n. line ≡ depth_line n)) → Known (HasForm fifth_line line)
    by (inl found) = let (n, lt, is) = found in inl (n, omega (arith, lt), is)
    by (inr none) = inr (λ h. let (n, most, is) = h in none (n, omega (arith, most), is))

abbrev IsThere : Option ℕ → Type 0
IsThere (Some n) = Unit {0}
IsThere None = ⊥

size_known : (line : List ℕ) → Known (HasForm sixth_line line)
size_known line = by (same_texts line (input_line (drop 6 line))) (decimal_of (drop 6 line)) refl
  where
    behind : (digits : List ℕ) → line ≡ input_line digits → drop 6 line ≡ digits
    behind digits is = ap (λ (l : List ℕ). drop 6 l) is

    by : Known (line ≡ input_line (drop 6 line)) → (said : Option ℕ) → decimal_of (drop 6 line) ≡ said → Known (HasForm sixth_line line)
    by (inl is) (Some size) says = inl (drop 6 line, size, says, is)
    by (inl is) None says = inr (λ h.
        let (digits, size, of, same) = h in subst IsThere (sym (sym says ∙ ap decimal_of (behind digits same) ∙ of)) tt)
    by (inr never) said says = inr (λ h.
        let (digits, size, of, same) = h in never (same ∙ ap input_line (sym (behind digits same))))

form_known : (form : JobLine) (line : List ℕ) → Known (HasForm form line)
form_known first_line line = work_known line
form_known second_line line = key_known root_line line
form_known third_line line = key_known key_line line
form_known fourth_line line = bases_known line
form_known fifth_line line = depth_known line
form_known sixth_line line = size_known line

form_lacks : (form : JobLine) (line : List ℕ) → HasForm form line → Lacks 10 line
form_lacks first_line line h = let (work, is) = h in subst (Lacks 10) (sym is) (work_lacks work)
form_lacks second_line line h =
    let (key, k, is) = h in subst (Lacks 10) (sym is) (word_and_key_lack (codes "root ") key (lacks_tested 10 (codes "root ") refl) k)
form_lacks third_line line h =
    let (key, k, is) = h in subst (Lacks 10) (sym is) (word_and_key_lack (codes "key ") key (lacks_tested 10 (codes "key ") refl) k)
form_lacks fourth_line line h =
    let (n, some, most, is) = h in
    subst (Lacks 10) (sym is) (word_and_count_lack (codes "bases ") n (lacks_tested 10 (codes "bases ") refl) (omega (arith, most)))
form_lacks fifth_line line h =
    let (n, most, is) = h in
    subst (Lacks 10) (sym is) (word_and_count_lack (codes "depth ") n (lacks_tested 10 (codes "depth ") refl) (omega (arith, most)))
form_lacks sixth_line line h =
    let (digits, size, says, is) = h in
    subst (Lacks 10) (sym is)
    (lacks_append 10 (codes "input ") digits (lacks_tested 10 (codes "input ") refl) (digits_have_none 10 size digits says (inl (omega arith))))

-- a line of this form stands in front
abbrev IsInFront : JobLine → List ℕ → Type 0
IsInFront form text = (line : List ℕ) × (behind : List ℕ) × HasForm form line × (text ≡ line ++ 10 ∷ behind)

front_known : (form : JobLine) (text : List ℕ) → Known (IsInFront form text)
front_known form text = by (position (λ b. b == 10) text) refl
  where
    with_line : (line behind : List ℕ) → text ≡ line ++ 10 ∷ behind → Lacks 10 line → Known (HasForm form line) → Known (IsInFront form text)
    with_line line behind is lacks (inl h) = inl (line, behind, h, is)
    with_line line behind is lacks (inr never) = inr (λ k.
        let (other, more, h, same) = k in
        never (subst (HasForm form) (sym (one_line line behind other more lacks (form_lacks form other h) (sym is ∙ same)).0) h))

    by : (found : Option ℕ) → position (λ b. b == 10) text ≡ found → Known (IsInFront form text)
    by (Some n) e =
        let c = cuts_line text n e in with_line (take n text) (drop (n + 1) text) c.whole c.lacks (form_known form (take n text))
    by None e = inr (λ k. let (line, behind, h, is) = k in no_line text line behind (lacks_all 10 text e) is)

-- ---- lines one behind the other

-- they are cut off in one way
lines_once : (forms more : List JobLine) (text rest behind : List ℕ) → BeginsWithLines forms text rest
    → BeginsWithLines (forms ++ more) text behind → BeginsWithLines more rest behind
lines_once [] more text rest behind e h = subst (λ (t : List ℕ). BeginsWithLines more t behind) e h
lines_once (form ∷ forms) more text rest behind a b =
    let (line, left, h, is, k) = a in
    let (other, others, g, same, l) = b in
    let cut = one_line line left other others (form_lacks form line h) (form_lacks form other g) (sym is ∙ same) in
    lines_once forms more left rest behind k (subst (λ (t : List ℕ). BeginsWithLines (forms ++ more) t behind) (sym cut.1) l)

-- one more
lines_push : (forms : List JobLine) (form : JobLine) (text rest line behind : List ℕ) → BeginsWithLines forms text rest
    → HasForm form line → rest ≡ line ++ 10 ∷ behind → BeginsWithLines (forms ++ form ∷ []) text behind
lines_push [] form text rest line behind e h is = (line, behind, h, e ∙ is, refl)
lines_push (first ∷ forms) form text rest line behind a h is =
    let (front, left, g, same, k) = a in (front, left, g, same, lines_push forms form left rest line behind k h is)

abbrev five : List JobLine
five = first_line ∷ second_line ∷ third_line ∷ fourth_line ∷ fifth_line ∷ []

job_begins : (job : Job) (text : List ℕ) → IsJobText job text → BeginsWithLines job_lines text job.poly.text
job_begins job text h =
    let file = job.poly.text in
    let sixth = input_line (decimal (length file)) in
    lines_push five sixth_line text (sixth ++ 10 ∷ file) sixth file
    (five_begin text (sixth ++ 10 ∷ file) job.head h.head h.is_text)
    (decimal (length file), length file, decimal_of_decimal (length file) (omega (arith, file_is_short file job.poly h.file)), refl) refl

input_begins : (text : List ℕ) (b : IsBadInput text) → BeginsWithLines job_lines text b.file
input_begins text b =
    lines_push five sixth_line text b.rest (input_line b.digits) b.file b.begins (b.digits, b.size, b.says, refl) b.split

-- ---- one place

-- where all lines stand there, none is bad
no_bad_line : (text behind : List ℕ) (place : ℕ) → BeginsWithLines job_lines text behind → IsBadLine text place → ⊥
no_bad_line text behind place h b =
    let (line, left, form, is, k) =
    lines_once b.before (b.form ∷ b.after) text b.rest behind b.begins (subst (λ (f : List JobLine). BeginsWithLines f text behind) b.lines h) in
    b.bad line left form is

goes_on : (a b u v : List JobLine) (f g : JobLine) → a ++ f ∷ u ≡ b ++ g ∷ v → length a < length b
    → (more : List JobLine) × (b ≡ a ++ f ∷ more)
goes_on a [] u v f g e lt = absurd (omega (arith, lt))
goes_on [] (y ∷ b) u v f g e lt = (b, λ i. sym (ap (λ (l : List JobLine). get_or l 0 first_line) e) i ∷ b)
goes_on (x ∷ a) (y ∷ b) u v f g e lt =
    let (more, is) = goes_on a b u v f g (ap (λ (l : List JobLine). drop 1 l) e) (omega (arith, lt)) in
    (more, λ i. sym (ap (λ (l : List JobLine). get_or l 0 first_line) e) i ∷ is i)

not_before : (text : List ℕ) (p q : ℕ) (a : IsBadLine text p) (b : IsBadLine text q) → length a.before < length b.before → ⊥
not_before text p q a b lt =
    let (more, is) = goes_on a.before b.before a.after b.after a.form b.form (sym a.lines ∙ b.lines) lt in
    let (line, left, form, cut, k) =
    lines_once a.before (a.form ∷ more) text a.rest b.rest a.begins (subst (λ (f : List JobLine). BeginsWithLines f text b.rest) is b.begins) in
    a.bad line left form cut

one_line_bad : (text : List ℕ) (p q : ℕ) (a : IsBadLine text p) (b : IsBadLine text q) → p ≡ q
one_line_bad text p q a b = elim (cases_lt (length a.before) (length b.before)) [
  | inl lt ↦ absurd (not_before text p q a b lt)
  | inr le ↦ elim (cases_lt (length b.before) (length a.before)) [
    | inl lt ↦ absurd (not_before text q p b a lt)
    | inr more ↦ omega (arith, le, more, a.number, b.number)
  ]
]

one_place : (text : List ℕ) (p q : ℕ) → IsBadText text p → IsBadText text q → p ≡ q
one_place text p q (inl a) (inl b) = one_line_bad text p q a b
one_place text p q (inl a) (inr b) = absurd (no_bad_line text b.1.file p (input_begins text b.1) a)
one_place text p q (inr a) (inl b) = absurd (no_bad_line text a.1.file q (input_begins text a.1) b)
one_place text p q (inr a) (inr b) = a.0 ∙ sym b.0

-- ---- not both

value_or : Option ℕ → ℕ
value_or (Some n) = n
value_or None = 0

good_input : (job : Job) (text : List ℕ) → IsJobText job text → IsBadInput text → ⊥
unfolding value_or
good_input job text h b =
    let file = job.poly.text in
    let sixth = input_line (decimal (length file)) ++ 10 ∷ file in
    let lt : length file < 2 ^ 64 = omega (arith, file_is_short file job.poly h.file) in
    let says = decimal_of_decimal (length file) (omega (arith, lt)) in
    let rest : sixth ≡ b.rest = lines_once five [] text sixth b.rest (five_begin text sixth job.head h.head h.is_text) b.begins in
    let cut = one_line (input_line (decimal (length file))) file (input_line b.digits) b.file
    (form_lacks sixth_line _ (decimal (length file), length file, says, refl))
    (form_lacks sixth_line _ (b.digits, b.size, b.says, refl)) (rest ∙ b.split) in
    let digits : decimal (length file) ≡ b.digits = same_behind (codes "input ") (decimal (length file)) b.digits cut.0 in
    let size : length file ≡ b.size = ap value_or (sym says ∙ ap decimal_of digits ∙ b.says) in
    elim b.bad [
      | inl differ ↦ differ (ap (λ (l : List ℕ). length l) (sym cut.1) ∙ size)
      | inr found ↦
          let (fault, is) = found in subst IsTold (sym h.file ∙ ap reading cut.1 ∙ is) tt
    ]

not_both : (job : Job) (place : ℕ) (text : List ℕ) → IsJobText job text → IsBadText text place → ⊥
not_both job place text h (inl b) = no_bad_line text job.poly.text place (job_begins job text h) b
not_both job place text h (inr b) = good_input job text h b.1

-- ---- one of the two

-- a polyhedron that was read has the text
record Keeps (text : List ℕ) (read : Result Polyhedron BadFile) : Type 0 where
  kept : (p : Polyhedron) → read ≡ Ok p → p.text ≡ text

text_or : List ℕ → Result Polyhedron BadFile → List ℕ
text_or text (Ok p) = p.text
text_or text (Err f) = text

keeps_own : (text : List ℕ) (p : Polyhedron) → p.text ≡ text → Keeps text (Ok p)
unfolding text_or
keeps_own text p own = record { kept = λ q e. sym (ap (text_or text) e) ∙ own }

keeps : {A : Type 0} (text : List ℕ) (first : Result A BadFile) (next : A → Result Polyhedron BadFile)
    → ((x : A) → Keeps text (next x)) → Keeps text (first >>= next)
keeps text (Ok x) next h = h x
keeps text (Err f) next h = record { kept = λ p e. absurd (subst IsTold (sym e) tt) }

reading_keeps : (text : List ℕ) → Keeps text (reading text)
unfolding reading
reading_keeps text =
    let last = last_line text in
    keeps text (length_fault (length text)) _ (λ short.
    keeps text (opening_of last (lines_of text)) _ (λ opening.
    keeps text (size_of last opening.words) _ (λ size.
    keeps text (matrix_of last size.rows size.width 0 size.words) _ (λ matrix.
    keeps text (each late_fault (firsts matrix.end_line matrix.words)) _ (λ late.
    keeps text (checked_marks (matrix.count / size.width) (names_of (head_of (lines_of text)))) _ (λ marks.
    keeps text (empty_fault opening.kind (matrix.count / size.width) matrix.end_line) _ (λ some.
    let given = nonnegative_line_of (head_of (lines_of text)) in
    keeps text (nonnegative_fault opening.kind given) _ (λ placed.
    keeps text (rows_from last opening.kind size.width marks size.words) _ (λ rows.
    keeps_own text
    (record { kind = opening.kind; n = size.width; rows = rows; nonnegative = is_given given; text = text })
    refl)))))))))

pub text_is_kept : (text : List ℕ) (p : Polyhedron) → IsFileOf text p → p.text ≡ text
text_is_kept text p h = (reading_keeps text).kept p h

abbrev JobOrBad : List ℕ → Type 0
JobOrBad text = ((job : Job) × IsJobText job text) ⊎ ((place : ℕ) × IsBadText text place)

-- all lines of the job, or a bad one
walk : (text : List ℕ) (before after : List JobLine) (rest : List ℕ) → job_lines ≡ before ++ after → BeginsWithLines before text rest
    → ((file : List ℕ) × BeginsWithLines job_lines text file) ⊎ ((place : ℕ) × IsBadLine text place)
walk text before [] rest e h =
    inl (rest, subst (λ (f : List JobLine). BeginsWithLines f text rest) (sym (e ∙ append-nil before)) h)
walk text before (form ∷ after) rest e h = elim (front_known form rest) [
  | inl found ↦
      let (line, behind, has, is) = found in
      walk text (before ++ form ∷ []) after behind (e ∙ sym (append_assoc before (form ∷ []) after))
      (lines_push before form text rest line behind h has is)
  | inr none ↦ inr (
    length before + 1,
    record {
      before = before;
      form = form;
      after = after;
      lines = e;
      number = refl;
      rest = rest;
      begins = h;
      bad = λ line behind has is. none (line, behind, has, is);
    },
  )
]

-- what was read of the lines
record HasParts (text file : List ℕ) : Type 0 where
  head : JobHead
  has : HasHeadText head
  rest : List ℕ
  is_text : text ≡ five_lines head rest
  digits : List ℕ
  size : ℕ
  says : decimal_of digits ≡ Some size
  split : rest ≡ input_line digits ++ 10 ∷ file

joined : {line rest text : List ℕ} (a b : List ℕ) → text ≡ line ++ 10 ∷ rest → line ≡ a → rest ≡ b → text ≡ a ++ 10 ∷ b
joined a b is line rest = is ∙ (λ i. line i ++ 10 ∷ rest i)

parts : (text file : List ℕ) → BeginsWithLines job_lines text file → HasParts text file
parts text file h =
    let (first, second_on, w, e, g) = h in
    let (work, work_is) = w in
    let (second, third_on, r, f, k) = g in
    let (root, root_has, root_is) = r in
    let (third, fourth_on, y, m, l) = k in
    let (key, key_has, key_is) = y in
    let (fourth, fifth_on, b, o, q) = l in
    let (bases, some, most, bases_is) = b in
    let (fifth, rest, d, s, u) = q in
    let (depth, few, depth_is) = d in
    let (sixth, behind, z, v, end) = u in
    let (digits, size, says, size_is) = z in
    let fifth_is : fifth_on ≡ depth_line depth ++ 10 ∷ rest = joined (depth_line depth) rest s depth_is refl in
    let fourth_is = joined (bases_line bases) _ o bases_is fifth_is in
    let third_is = joined (key_line key) _ m key_is fourth_is in
    let second_is = joined (root_line root) _ f root_is third_is in
    record {
      head = record { work = work; root = record { key = root }; key = key; budget = record { bases = bases; depth = depth } };
      has = record { root = root_has; key = key_has; budget = record { some = some; bases = most; depth = few } };
      rest = rest;
      is_text = joined (work_line work) _ e work_is second_is;
      digits = digits;
      size = size;
      says = says;
      split = joined (input_line digits) file v size_is end;
    }

bad_parts : (text file : List ℕ) (k : HasParts text file) → (length file ≢ k.size) ⊎ ((fault : BadFile) × IsFirstFault file fault)
    → JobOrBad text
bad_parts text file k bad = inr (
  7,
  inr (
    refl,
    record {
      rest = k.rest;
      begins = five_begin text k.rest k.head k.has k.is_text;
      digits = k.digits;
      size = k.size;
      file = file;
      says = k.says;
      split = k.split;
      bad = bad;
    },
  ),
)

good_parts : (text file : List ℕ) (k : HasParts text file) (p : Polyhedron) → length file ≡ k.size → IsFileOf file p → JobOrBad text
good_parts text file k p same reads =
    let short = file_is_short file p reads in
    let kept = text_is_kept file p reads in
    let said : SaysSize k.rest file (capped k.size) = record { digits = k.digits; size = k.size; says = k.says; is_said = refl; split = k.split } in
    inl (
      record { head = k.head; poly = p },
      whole_job text k.rest file (capped k.size) k.head p k.has k.is_text said (omega (arith, short)) (omega (arith, short, same)) kept
          (subst (λ (t : List ℕ). IsFileOf t p) (sym kept) reads),
    )

of_parts : (text file : List ℕ) → HasParts text file → JobOrBad text
of_parts text file k = by (from_test _ (Decides-eqb (length file) k.size)) (reading file) refl
  where
    by : Known (length file ≡ k.size) → (r : Result Polyhedron BadFile) → reading file ≡ r → JobOrBad text
    by (inr differ) r e = bad_parts text file k (inl differ)
    by (inl same) (Ok p) e = good_parts text file k p same e
    by (inl same) (Err f) e = bad_parts text file k (inr (f, e))

job_or_bad : (text : List ℕ) → JobOrBad text
job_or_bad text = elim (walk text [] job_lines text refl refl) [
  | inl found ↦ let (file, h) = found in of_parts text file (parts text file h)
  | inr found ↦ let (place, bad) = found in inr (place, inl bad)
]

pub one_verdict : (text : List ℕ) → IsJobOrBad text
one_verdict text = record {
  some = job_or_bad text;
  not_both = λ job place h b. not_both job place text h b;
  one_place = one_place text;
}
