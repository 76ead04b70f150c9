-- What five lines and a file say of a job text.
use Rattle.std.proofs.Common.{◌≡◌, ◌≢◌, ◌<◌, ◌^◌, ◌⊎◌, ℕ, List, [], ◌∷◌, ◌++◌, length, Some, Ok, Err, Result, refl, sym, ap, ◌∙◌, inl, subst, arith}
use Rattle.std.specs.Prelude.{codes, decimal}
use Rattle.std.specs.Result.{IsErrOf}
use Rattle.plain_text.specs.Digits.{capped, decimal_of}
use Rattle.std.proofs.lemmas.Option.{same_Some}
use Rattle.plain_text.specs.Cuts.{Lacks}
use Rattle.plain_text.proofs.CutLemmas.{one_line, lacks_append, lacks_tested}
use Rattle.plain_text.proofs.Decimals.{decimal_of_decimal, text_of_decimal}
use Rattle.plain_text.proofs.NumberLemmas.{digits_have_none}
use Rattle.poly_reader.specs.declared.bad.BadFile.{BadFile}
use Rattle.poly_reader.specs.Reading.{IsFirstFault, IsOfItsText}
use Rattle.poly_model.specs.Systems.{Polyhedron}
use Rattle.job_text.specs.declared.job.Job.{Job}
use Rattle.job_text.specs.declared.job.JobHead.{JobHead}
use Rattle.job_text.specs.declared.stops.JobReadStop.{JobReadStop}
use Rattle.job_text.specs.declared.stops.JobReadStop.TheVariants.{Bad, Memory}
use Rattle.job_text.specs.Jobs.{five_lines, root_line, key_line, bases_line, depth_line, input_line, sized, HasHeadText, IsJobText, IsBadText, IsBadInput, IsBadLine, BeginsWithLines, first_line, second_line, third_line, fourth_line, fifth_line, sixth_line}
use Rattle.job_text.proofs.JobLineLemmas.{work_begins, root_begins, key_begins, bases_begin, depth_begins, IsMissing, same_behind, word_and_count_lack}

-- ---- the place that is answered

place_of : Result Job JobReadStop → ℕ
place_of (Err (Bad place)) = place
place_of (Err Memory) = 0
place_of (Ok job) = 0

pub bad_at : (text : List ℕ) (m place : ℕ) → IsBadText text m → IsErrOf {T = Job} {E = JobReadStop} (Err (Bad m)) (Bad place)
    → IsBadText text place
unfolding place_of
bad_at text m place h e = subst (IsBadText text) (ap place_of e) h

-- ---- five lines

pub five_begin : (text rest : List ℕ) (head : JobHead) → HasHeadText head → text ≡ five_lines head rest
    → BeginsWithLines (first_line ∷ second_line ∷ third_line ∷ fourth_line ∷ fifth_line ∷ []) text rest
five_begin text rest head h is =
    let fifth = depth_line head.budget.depth ++ 10 ∷ rest in
    let fourth = bases_line head.budget.bases ++ 10 ∷ fifth in
    let third = key_line head.key ++ 10 ∷ fourth in
    let second = root_line head.root.key ++ 10 ∷ third in
    work_begins text rest (second_line ∷ third_line ∷ fourth_line ∷ fifth_line ∷ []) second head.work is
    (root_begins second rest (third_line ∷ fourth_line ∷ fifth_line ∷ []) third head.root.key h.root refl
    (key_begins third rest (fourth_line ∷ fifth_line ∷ []) fourth head.key h.key refl
    (bases_begin fourth rest (fifth_line ∷ []) fifth head.budget.bases h.budget.some h.budget.bases refl
    (depth_begins fifth rest [] rest head.budget.depth h.budget.depth refl refl))))

pub bad_size_line : (text rest : List ℕ) (head : JobHead) → HasHeadText head → text ≡ five_lines head rest
    → IsMissing sixth_line rest → IsBadLine text 6
bad_size_line text rest head h is none = record {
  before = first_line ∷ second_line ∷ third_line ∷ fourth_line ∷ fifth_line ∷ [];
  form = sixth_line;
  after = [];
  lines = refl;
  number = refl;
  rest = rest;
  begins = five_begin text rest head h is;
  bad = none;
}

-- ---- the file

-- the line of a size, and a file behind it
pub record SaysSize (rest file : List ℕ) (said : ℕ) : Type 0 where
  pub digits : List ℕ
  pub size : ℕ
  pub says : decimal_of digits ≡ Some size
  pub is_said : said ≡ capped size
  pub split : rest ≡ input_line digits ++ 10 ∷ file

-- as it is read
pub says_size : {rest file : List ℕ} {said : ℕ} → ((digits : List ℕ) × (size : ℕ) × (decimal_of digits ≡ Some size)
    × (said ≡ capped size) × (rest ≡ input_line digits ++ 10 ∷ file)) → SaysSize rest file said
says_size (digits, size, says, said, split) =
    record { digits = digits; size = size; says = says; is_said = said; split = split }

pub bad_input : (text rest file : List ℕ) (said : ℕ) (head : JobHead) → HasHeadText head → text ≡ five_lines head rest
    → (s : SaysSize rest file said) → (length file ≢ s.size) ⊎ ((fault : BadFile) × IsFirstFault file fault) → IsBadInput text
bad_input text rest file said head h is s bad = record {
  rest = rest;
  begins = five_begin text rest head h is;
  digits = s.digits;
  size = s.size;
  file = file;
  says = s.says;
  split = s.split;
  bad = bad;
}

pub other_size : (rest file : List ℕ) (said : ℕ) (s : SaysSize rest file said) → length file < 2 ^ 64 → length file ≢ said
    → length file ≢ s.size
other_size rest file said s lt differ e = differ (omega (arith, s.is_said, e, lt))

pub sized_is : (rest file : List ℕ) (said : ℕ) → SaysSize rest file said → length file < 2 ^ 64 → length file ≡ said
    → rest ≡ sized file
sized_is rest file said s lt same =
    let size : s.size ≡ length file = omega (arith, s.is_said, same, lt) in
    let digits : s.digits ≡ decimal (length file) =
    text_of_decimal s.digits s.size s.says (omega (arith, size, lt)) ∙ ap decimal size in
    s.split ∙ ap (λ (l : List ℕ). input_line l ++ 10 ∷ file) digits

-- where a file of its own size stands there, it is this one
pub said_of_sized : (rest file : List ℕ) (said : ℕ) → SaysSize rest file said → (other : List ℕ) → length other < 2 ^ 64
    → rest ≡ sized other → length file ≡ said
said_of_sized rest file said s other lt is =
    let word : Lacks 10 (codes "input ") = lacks_tested 10 (codes "input ") refl in
    let cut = one_line (input_line s.digits) file (input_line (decimal (length other))) other
    (lacks_append 10 (codes "input ") s.digits word (digits_have_none 10 s.size s.digits s.says (inl (omega arith))))
    (word_and_count_lack (codes "input ") (length other) word lt) (sym s.split ∙ is) in
    let digits : s.digits ≡ decimal (length other) = same_behind (codes "input ") s.digits (decimal (length other)) cut.0 in
    let size : Some s.size ≡ Some (length other) =
    sym s.says ∙ ap decimal_of digits ∙ decimal_of_decimal (length other) (omega (arith, lt)) in
    omega (arith, s.is_said, same_Some s.size (length other) size, lt, ap (λ (l : List ℕ). length l) cut.1)

pub whole_job : (text rest file : List ℕ) (said : ℕ) (head : JobHead) (p : Polyhedron) → HasHeadText head
    → text ≡ five_lines head rest → SaysSize rest file said → length file < 2 ^ 64 → length file ≡ said → p.text ≡ file
    → IsOfItsText p → IsJobText (record { head = head; poly = p }) text
whole_job text rest file said head p h is s lt same file_is own = record {
  head = h;
  file = own;
  is_text = is ∙ ap (λ (l : List ℕ). five_lines head l) (sized_is rest file said s lt same ∙ ap sized (sym file_is));
}
