-- The rows that are named, marked one after the other.
use Rattle.std.proofs.Common.{◌≡◌, ◌≢◌, ◌⊎◌, ◌<◌, ◌≤◌, ◌+◌, ◌-◌, ℕ, zero, suc, Bool, true, false, List, [], ◌∷◌, ◌++◌, length, take, get_or, replicate, Ok, Err, refl, sym, ap, subst, ◌∙◌, inl, inr, arith}
use Rattle.std.proofs.lemmas.List.{length-replicate, get_or-replicate, length-set, get_or-set_same, get_or-set_other, same_lists, take_all, take-append-le}
use Rattle.std.specs.Prelude.{◌==◌, ◌||◌, nat_lt, slice_set}
use Rattle.std.proofs.lemmas.Bool.{eqb-true, eqb-false, lt-ltb}
use Rattle.std.proofs.lemmas.Bool.Decides.{nat_tests}
use Rattle.std.proofs.lemmas.List.Sums.{fold-append}
use Rattle.std.proofs.lemmas.List.FromFn.{length-map-range_with_len, get_or-map-range_with_len}
use Rattle.poly_model.specs.Limits.{most_file_rows}
use Rattle.poly_reader.specs.declared.bad.BadFile.{BadFile}
use Rattle.poly_reader.specs.declared.bad.BadKind.TheVariants.{BadLinearity}
use Rattle.poly_reader.specs.Lines.{Line}
use Rattle.plain_text.specs.Digits.{capped}
use Rattle.poly_reader.specs.FirstFault.{◌>>=◌, bad, each}
use Rattle.poly_reader.specs.Head.{Name, names_on, names_of, head_of, begins}
use Rattle.poly_reader.specs.Marks.{name_fault, is_named, marks_of, checked_marks, with_name, with_names, Marks}
use Rattle.poly_reader.proofs.EachLemmas.{each_passed, each_failed, others_passed}

-- with these marks so far, the names that are left give what all of them give
pub record IsAt (marks : List Bool) (names : List Name) (old : List Bool) (all : List Name) : Type 0 where
  pub size : length marks ≡ length old
  pub checks : each (name_fault (length old)) names ≡ each (name_fault (length old)) all
  pub rows : with_names marks names ≡ with_names old all

pub starts : (marks : List Bool) (names : List Name) → IsAt marks names marks names
starts marks names = record { size = refl; checks = refl; rows = refl }

pub ends : (marks old : List Bool) (names all : List Name) (u : Unit {0}) → names ≡ [] → IsAt marks names old all
    → Marks (Ok u) old marks all
unfolding each with_names
ends marks old names all u e at = (sym (rw e at at.checks), rw e at at.rows)

pub nothing : (marks : List Bool) (u : Unit {0}) → Marks (Ok u) marks marks []
unfolding each with_names
nothing marks u = (refl, refl)

pub length-with_names : (marks : List Bool) (names : List Name) → length (with_names marks names) ≡ length marks
unfolding with_names
length-with_names marks [] = refl
length-with_names marks (x ∷ names) = length-with_names (with_name marks x) names ∙ length-set marks (x.row - 1) true

-- one of the first names is no row
pub fails : (f : BadFile) (marks old new : List Bool) (names front back all : List Name) → names ≡ front ++ back
    → Marks (Err f) marks new front → IsAt marks names old all → each (name_fault (length old)) all ≡ Err f
fails f marks old new names front back all e h at =
    sym at.checks ∙ rw e (each_failed (name_fault (length old)) front back f
    (subst (λ (m : ℕ). each (name_fault m) front ≡ Err f) at.size h))

-- the rows of the first names are marked
pub goes_on : (u : Unit {0}) (marks old new : List Bool) (names front back all : List Name) → names ≡ front ++ back
    → Marks (Ok u) marks new front → IsAt marks names old all → IsAt new back old all
unfolding with_names
goes_on u marks old new names front back all e h at = record {
  size = rw h.1 (length-with_names marks front) ∙ at.size;
  checks =
      sym (rw e (each_passed (name_fault (length old)) front back tt
      (subst (λ (m : ℕ). each (name_fault m) front ≡ Ok tt) at.size h.0)))
      ∙ at.checks;
  rows = rw h.1 (sym (fold-append with_name marks front back)) ∙ rw e at at.rows;
}

no_row_from_zero : (m row : ℕ) → row ≡ 0 → (row == 0 || nat_lt m row) ≡ true
no_row_from_zero m row e = rw e refl

either : (b : Bool) → (b || true) ≡ true
either true = refl
either false = refl

no_row_from_more : (m row : ℕ) → m < row → (row == 0 || nat_lt m row) ≡ true
no_row_from_more m row lt = rw (lt-ltb m row lt) (either (row == 0))

row_from_within : (m row : ℕ) → row ≢ 0 → row ≤ m → (row == 0 || nat_lt m row) ≡ false
row_from_within m row n le = grind (arith, nat_tests)

pub refused : (m : ℕ) (name : Name) → (capped name.row ≡ 0) ⊎ (m < capped name.row) → m ≤ most_file_rows
    → each (name_fault m) (name ∷ []) ≡ bad BadLinearity name.line
unfolding each name_fault
refused m name (inl e) le = rw (no_row_from_zero m name.row (omega arith)) refl
refused m name (inr lt) le = rw (no_row_from_more m name.row (omega arith)) refl

pub marked : (marks : List Bool) (name : Name) → capped name.row ≢ 0 → capped name.row ≤ length marks →
    length marks ≤ most_file_rows
    → Marks (Ok tt) marks (slice_set marks (capped name.row - 1) true) (name ∷ [])
unfolding each name_fault with_names
marked marks name n le few =
    let k : capped name.row ≡ name.row = omega arith in
    (rw (row_from_within (length marks) name.row (rw k at n) (omega arith)) refl, rw k refl)

pub no_lines : (lines : List Line) → lines ≡ [] → names_of (head_of lines) ≡ []
unfolding head_of
no_lines lines e = rw e refl

pub at_begin : (lines after : List Line) (line : Line) → lines ≡ line ∷ after → begins line ≡ true
    → names_of (head_of lines) ≡ []
unfolding head_of
at_begin lines after line e b = rw (e, b) refl

pub one_line : (lines after : List Line) (line : Line) → lines ≡ line ∷ after → begins line ≡ false
    → names_of (head_of lines) ≡ names_on line ++ names_of (head_of after)
unfolding head_of
one_line lines after line e b = rw (e, b) refl

first_row_from_pass : (m : ℕ) (x : Name) (names : List Name) (u : Unit {0}) → each (name_fault m) (x ∷ names) ≡ Ok u
    → 0 < x.row
unfolding each name_fault
first_row_from_pass m x names u e = by x.row refl
  where
    by : (row : ℕ) → x.row ≡ row → 0 < x.row
    by zero z = let bad : (name_fault m x >>= λ _. each (name_fault m) names) ≡ Ok u = e in absurd (cc (rw z at bad))
    by (suc row) z = omega arith

test_cases : (b : Bool) → (b ≡ true) ⊎ (b ≡ false)
test_cases true = inl refl
test_cases false = inr refl

-- a mark after one more name
after_name : (marks : List Bool) (row k : ℕ) (d named : Bool) → 0 < row → k < length marks
    → (get_or (slice_set marks (row - 1) true) k d || named) ≡ (get_or marks k d || ((row == k + 1) || named))
after_name marks row k d named lt below = by (test_cases (row == k + 1))
  where
    by : (((row == k + 1) ≡ true) ⊎ ((row == k + 1) ≡ false))
        → (get_or (slice_set marks (row - 1) true) k d || named) ≡ (get_or marks k d || ((row == k + 1) || named))
    by (inl e) =
        let r = eqb-true row (k + 1) e in
        let z : row - 1 ≡ k = omega arith in
        rw (e, z, get_or-set_same marks k true d below) (sym (either (get_or marks k d)))
    by (inr e) =
        let r = eqb-false row (k + 1) e in
        let z : k ≢ row - 1 = λ h. r (omega arith) in
        rw (e, get_or-set_other marks (row - 1) k true d z) refl

or_nothing : (b : Bool) → b ≡ (b || false)
or_nothing true = refl
or_nothing false = refl

mark_at : (m : ℕ) (names : List Name) (marks : List Bool) (k : ℕ) (d : Bool) (u : Unit {0}) →
    each (name_fault m) names ≡ Ok u
    → k < length marks → get_or (with_names marks names) k d ≡ (get_or marks k d || is_named names (k + 1))
unfolding with_names
mark_at m [] marks k d u e lt = or_nothing (get_or marks k d)
mark_at m (x ∷ names) marks k d u e lt =
    mark_at m names (with_name marks x) k d u (others_passed (name_fault m) x names u e)
    (omega (arith, length-set marks (x.row - 1) true))
    ∙ after_name marks x.row k d (is_named names (k + 1)) (first_row_from_pass m x names u e) lt

marked_all : (m : ℕ) (names : List Name) (u : Unit {0}) → each (name_fault m) names ≡ Ok u
    → with_names (replicate m false) names ≡ marks_of m names
marked_all m names u e =
    let left : length (with_names (replicate m false) names) ≡ m =
    length-with_names (replicate m false) names ∙ length-replicate m false in
    let right : length (marks_of m names) ≡ m = length-map-range_with_len (is_named names) 1 m in
    same_lists (with_names (replicate m false) names) (marks_of m names) (left ∙ sym right) (λ k d lt.
    mark_at m names (replicate m false) k d u e (omega (arith, length-replicate m false))
    ∙ rw (get_or-replicate m k false d (omega arith)) refl
    ∙ sym (get_or-map-range_with_len (is_named names) 1 m k (k + 1) d (omega arith) (omega arith)))

pub unchecked : (f : BadFile) (m : ℕ) (names : List Name) (old new : List Bool) → old ≡ replicate m false
    → Marks (Err f) old new names → checked_marks m names ≡ Err f
unfolding checked_marks
unchecked f m names old new e h =
    let k : length old ≡ m = ap length e ∙ length-replicate m false in
    let g : each (name_fault m) names ≡ Err f = subst (λ (n : ℕ). each (name_fault n) names ≡ Err f) k h in
    rw g refl

pub checked : (u : Unit {0}) (m n : ℕ) (names : List Name) (old new more : List Bool) → old ≡ replicate m false → n ≡ m
    → Marks (Ok u) old new names → checked_marks m names ≡ Ok (take n (new ++ more))
unfolding checked_marks
checked u m n names old new more e n_is h =
    let k : length old ≡ m = ap length e ∙ length-replicate m false in
    let g : each (name_fault m) names ≡ Ok tt = subst (λ (n : ℕ). each (name_fault n) names ≡ Ok tt) k h.0 in
    let new_is : new ≡ marks_of m names = h.1 ∙ ap (λ (l : List Bool). with_names l names) e
    ∙ marked_all m names tt g in
    let size : length new ≡ n = ap length h.1 ∙ length-with_names old names ∙ k ∙ sym n_is in
    let whole : take n (new ++ more) ≡ new =
    take-append-le n new more (omega arith) ∙ take_all n new (omega arith) in
    rw (g, whole, new_is) refl
