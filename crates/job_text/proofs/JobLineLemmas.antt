-- The lines of a job text: no LF within them.
use Rattle.std.proofs.Common.{◌≡◌, ◌<◌, ◌^◌, ℕ, List, ◌++◌, refl, inl, arith, ◌∙◌, append_assoc, ap, ◌∷◌, [], drop, subst, Some, ◌≤◌}
use Rattle.std.specs.Prelude.{decimal, ⊤, Result}
use Rattle.plain_text.specs.Cuts.{Lacks}
use Rattle.plain_text.proofs.CutLemmas.{lacks_append, lacks_tested}
use Rattle.plain_text.proofs.NumberLemmas.{decimal_lacks}
use Rattle.poly_model.specs.declared.kind.WorkKind.{WorkKind}
use Rattle.poly_model.specs.declared.kind.WorkKind.TheVariants.{Subsets, Subtrees}
use Rattle.poly_model.specs.LabelText.{key_text}
use Rattle.work_core.specs.Splits.{most_bases, most_depth}
use Rattle.job_text.specs.KeyTexts.{HasKeyText}
use Rattle.poly_io.specs.declared.sink.Sink.{Ghosts as Sink}
use Rattle.poly_io.specs.Written.{Prints}
use Rattle.plain_text.specs.Digits.{decimal_of}
use Rattle.job_text.specs.Jobs.{work_line, root_line, key_line, bases_line, depth_line, input_line, JobLine, first_line, second_line, third_line, fourth_line, fifth_line, sixth_line, HasForm, BeginsWithLines}
use Rattle.job_text.proofs.KeyTextLemmas.{key_lacks}

pub work_lacks : (work : WorkKind) → Lacks 10 (work_line work)
work_lacks Subsets = lacks_tested 10 (work_line Subsets) refl
work_lacks Subtrees = lacks_tested 10 (work_line Subtrees) refl

pub word_and_key_lack : (word key : List ℕ) → Lacks 10 word → HasKeyText key → Lacks 10 (word ++ key_text key)
word_and_key_lack word key h k = lacks_append 10 word (key_text key) h (key_lacks key k)

pub word_and_count_lack : (word : List ℕ) (n : ℕ) → Lacks 10 word → n < 2 ^ 64 → Lacks 10 (word ++ decimal n)
word_and_count_lack word n h lt = lacks_append 10 word (decimal n) h (decimal_lacks 10 n (omega (arith, lt)) (inl (omega arith)))

-- what stands behind one front in a text is one
pub same_behind : (front a b : List ℕ) → front ++ a ≡ front ++ b → a ≡ b
same_behind [] a b e = e
same_behind (x ∷ front) a b e = same_behind front a b (ap (λ (l : List ℕ). drop 1 l) e)

-- ---- lines that are written one by one

pub prints_same : {O T E : Type 0} {sink : Sink O} {old new : O} {result : Result T E} {a b : List ℕ} → a ≡ b
    → Prints sink old new result a → Prints sink old new result b
prints_same {sink = sink} {old = old} {new = new} {result = result} e h = subst (λ (t : List ℕ). Prints sink old new result t) e h

pub line_joined : (line rest : List ℕ) → (line ++ 10 ∷ []) ++ rest ≡ line ++ 10 ∷ rest
line_joined line rest = append_assoc line (10 ∷ []) rest

pub two_lines_joined : (a b rest : List ℕ) → (a ++ 10 ∷ []) ++ ((b ++ 10 ∷ []) ++ rest) ≡ a ++ 10 ∷ (b ++ 10 ∷ rest)
two_lines_joined a b rest = rw (line_joined b rest, line_joined a) refl

pub lines_joined : (a b c d e rest : List ℕ)
    → (a ++ 10 ∷ []) ++ ((b ++ 10 ∷ []) ++ ((c ++ 10 ∷ []) ++ ((d ++ 10 ∷ []) ++ ((e ++ 10 ∷ []) ++ rest))))
    ≡ a ++ 10 ∷ (b ++ 10 ∷ (c ++ 10 ∷ (d ++ 10 ∷ (e ++ 10 ∷ rest))))
lines_joined a b c d e rest = rw (line_joined e rest, line_joined d, line_joined c, line_joined b, line_joined a) refl

-- ---- lines in front of a text

module _ (text rest : List ℕ) (forms : List JobLine) (behind : List ℕ) where
  pub work_begins : (work : WorkKind) → text ≡ work_line work ++ 10 ∷ behind → BeginsWithLines forms behind rest
      → BeginsWithLines (first_line ∷ forms) text rest
  work_begins work e h = (work_line work, behind, (work, refl), e, h)

  pub root_begins : (key : List ℕ) → HasKeyText key → text ≡ root_line key ++ 10 ∷ behind → BeginsWithLines forms behind rest
      → BeginsWithLines (second_line ∷ forms) text rest
  root_begins key k e h = (root_line key, behind, (key, k, refl), e, h)

  pub key_begins : (key : List ℕ) → HasKeyText key → text ≡ key_line key ++ 10 ∷ behind → BeginsWithLines forms behind rest
      → BeginsWithLines (third_line ∷ forms) text rest
  key_begins key k e h = (key_line key, behind, (key, k, refl), e, h)

  pub bases_begin : (bases : ℕ) → 1 ≤ bases → bases ≤ most_bases → text ≡ bases_line bases ++ 10 ∷ behind
      → BeginsWithLines forms behind rest → BeginsWithLines (fourth_line ∷ forms) text rest
  bases_begin bases some most e h = (bases_line bases, behind, (bases, some, most, refl), e, h)

  pub depth_begins : (depth : ℕ) → depth ≤ most_depth → text ≡ depth_line depth ++ 10 ∷ behind
      → BeginsWithLines forms behind rest → BeginsWithLines (fifth_line ∷ forms) text rest
  depth_begins depth most e h = (depth_line depth, behind, (depth, most, refl), e, h)

-- ---- a line that is missing

abbrev pub IsMissing : JobLine → List ℕ → Type 0
IsMissing form text = (line behind : List ℕ) → HasForm form line → text ≡ line ++ 10 ∷ behind → ⊥

pub no_work : (text : List ℕ) → ((work : WorkKind) (rest : List ℕ) → ⊤ → text ≡ work_line work ++ 10 ∷ rest → ⊥)
    → IsMissing first_line text
no_work text none line behind form e =
    let (work, is) = form in none work behind tt (e ∙ ap (λ (l : List ℕ). l ++ 10 ∷ behind) is)

pub no_root : (text : List ℕ) → ((key rest : List ℕ) → HasKeyText key → text ≡ root_line key ++ 10 ∷ rest → ⊥)
    → IsMissing second_line text
no_root text none line behind form e =
    let (key, k, is) = form in none key behind k (e ∙ ap (λ (l : List ℕ). l ++ 10 ∷ behind) is)

pub no_key : (text : List ℕ) → ((key rest : List ℕ) → HasKeyText key → text ≡ key_line key ++ 10 ∷ rest → ⊥)
    → IsMissing third_line text
no_key text none line behind form e =
    let (key, k, is) = form in none key behind k (e ∙ ap (λ (l : List ℕ). l ++ 10 ∷ behind) is)

pub no_bases : (text : List ℕ) → ((n : ℕ) (rest : List ℕ) → (1 ≤ n) × (n ≤ most_bases) → text ≡ bases_line n ++ 10 ∷ rest → ⊥)
    → IsMissing fourth_line text
no_bases text none line behind form e =
    let (bases, some, most, is) = form in none bases behind (some, most) (e ∙ ap (λ (l : List ℕ). l ++ 10 ∷ behind) is)

pub no_depth : (text : List ℕ) → ((n : ℕ) (rest : List ℕ) → (0 ≤ n) × (n ≤ most_depth) → text ≡ depth_line n ++ 10 ∷ rest → ⊥)
    → IsMissing fifth_line text
no_depth text none line behind form e =
    let (depth, most, is) = form in none depth behind (omega arith, most) (e ∙ ap (λ (l : List ℕ). l ++ 10 ∷ behind) is)

pub no_size : (text : List ℕ) → ((digits rest : List ℕ) (size : ℕ) → decimal_of digits ≡ Some size
    → text ≡ input_line digits ++ 10 ∷ rest → ⊥) → IsMissing sixth_line text
no_size text none line behind form e =
    let (digits, size, says, is) = form in none digits behind size says (e ∙ ap (λ (l : List ℕ). l ++ 10 ∷ behind) is)
