-- Whether a line of a reply shows a row, gives a key back or is the last can be found out by trying.
use Rattle.std.proofs.Common.{arith, ◌≡◌, ◌⊎◌, ◌<◌, ◌≤◌, ◌^◌, ℕ, zero, suc, List, [], ◌∷◌, ◌++◌, length, refl, sym, ap, ◌∙◌, subst, inl, inr, append-nil, unsigned_abs}
use Rattle.std.specs.List.{AllByRecursion}
use Rattle.std.proofs.lemmas.Bool.{cases_lt}
use Rattle.std.proofs.lemmas.Bool.Decides.{Decides-eqb}
use Rattle.poly_num.specs.Numbers.{IsNum}
use Rattle.poly_num.specs.Vectors.{Vector}
use Rattle.poly_num.proofs.PrimitiveLemmas.{gcd_from_primitive, primitive_from_gcd}
use Rattle.poly_num.specs.Divisors.{gcd_of_all}
use Rattle.poly_model.specs.declared.overflow.Overflow.{Overflow}
use Rattle.work_core.specs.ReplyLines.{ReplyLine, job_line, line_text, row_line}
use Rattle.work_core.specs.Splits.{most_bases}
use Rattle.job_text.specs.declared.reply.Tail.{Tail}
use Rattle.job_text.specs.declared.reply.Tail.TheVariants.{End, Memory, Overflow as OverflowTail}
use Rattle.job_text.specs.Fits.{said_text}
use Rattle.job_text.specs.KeyTexts.{HasKeyText}
use Rattle.job_text.specs.LineTexts.{IsReplyLine}
use Rattle.job_text.specs.Overflows.{HasOverflowText}
use Rattle.job_text.specs.Replies.{IsTailAt}
use Rattle.job_text.specs.RowTexts.{shown_rows}
use Rattle.job_text.proofs.JobOrBadLemmas.{Below, Known, both, from_test, number_below, same_texts}
use Rattle.job_text.proofs.ReplyLemmas.{line_is_said}
use Rattle.job_text.proofs.RowTextLemmas.{rows_are}
use Rattle.job_text.proofs.TriedTexts.{key_some, known_as, known_or, overflow_some}

-- ---- lines between the first and the last

is_num : (v : Vector) → Known (AllByRecursion IsNum v)
is_num [] = inl tt
is_num (x ∷ v) = both (by (cases_lt (unsigned_abs x) (2 ^ 127))) (is_num v)
  where
    by : ((unsigned_abs x < 2 ^ 127) ⊎ (2 ^ 127 ≤ unsigned_abs x)) → Known (IsNum x)
    by (inl lt) = inl lt
    by (inr le) = inr (λ lt. omega (arith, lt, le))

same_numbers : (m n : ℕ) → Known (m ≡ n)
same_numbers m n = from_test _ (Decides-eqb m n)

row_known : (n : ℕ) (v : Vector) → Known (IsReplyLine n (row_line v))
row_known n v = known_as (λ h. (h.0, primitive_from_gcd v h.1.0, h.1.1)) (λ h. (h.0, (gcd_from_primitive v h.1, h.2)))
    (both (same_numbers (length v) n) (both (same_numbers (gcd_of_all v) 1) (is_num v)))

abbrev pub Says : ReplyLine → List ℕ → Type 0
Says l line = said_text (inl l) ≡ line

abbrev IsRowLine : ℕ → List ℕ → Type 0
IsRowLine n line = (v : Vector) × IsReplyLine n (row_line v) × Says (row_line v) line

-- the row that a line shows, if it shows one
shown_row : (n : ℕ) (line : List ℕ) → (v : Vector) → IsReplyLine n (row_line v) → Says (row_line v) line → shown_rows (line ++ 10 ∷ []) ≡ v ∷ []
shown_row n line v fit is =
    ap shown_rows (ap (λ (l : List ℕ). l ++ 10 ∷ []) (sym is) ∙ sym (line_is_said (row_line v)) ∙ sym (append-nil (line_text (row_line v))))
    ∙ rows_are n (row_line v ∷ []) (fit, tt)

first_rows : (v w : Vector) (vs ws : List Vector) → v ∷ vs ≡ w ∷ ws → v ≡ w
first_rows v w vs ws e = cc

no_rows : (w : Vector) (ws : List Vector) → [] ≡ w ∷ ws → ⊥
no_rows w ws e = absurd cc

row_line_known : (n : ℕ) (line : List ℕ) → Known (IsRowLine n line)
row_line_known n line = by (shown_rows (line ++ 10 ∷ [])) refl
  where
    by : (rows : List Vector) → shown_rows (line ++ 10 ∷ []) ≡ rows → Known (IsRowLine n line)
    by [] e = inr (λ h. let (w, fit, is) = h in no_rows w [] (sym e ∙ shown_row n line w fit is))
    by (v ∷ rows) e = known_as (λ h. (v, h.0, h.1))
        (λ h. let (w, fit, is) = h in
        let same : w ≡ v = first_rows w v [] rows (sym (shown_row n line w fit is) ∙ e) in
        (subst (λ (z : Vector). IsReplyLine n (row_line z)) same fit, subst (λ (z : Vector). Says (row_line z) line) same is))
        (both (row_known n v) (same_texts (said_text (inl (row_line v))) line))

abbrev pub IsLine : ℕ → List ℕ → Type 0
IsLine n line = (l : ReplyLine) × IsReplyLine n l × Says l line

pub line_known : (n : ℕ) (line : List ℕ) → Known (IsLine n line)
line_known n line = known_as there back
    (known_or (row_line_known n line) (key_some (λ key. Says (job_line key) line) (λ key. same_texts (said_text (inl (job_line key))) line)))
  where
    there : (IsRowLine n line ⊎ ((key : List ℕ) × HasKeyText key × Says (job_line key) line)) → IsLine n line
    there (inl h) = let (v, fit, is) = h in (row_line v, fit, is)
    there (inr h) = let (key, fit, is) = h in (job_line key, fit, is)

    by : (l : ReplyLine) → IsReplyLine n l → Says l line → IsRowLine n line ⊎ ((key : List ℕ) × HasKeyText key × Says (job_line key) line)
    by (row_line v) fit is = inl (v, fit, is)
    by (job_line key) fit is = inr (key, fit, is)

    back : IsLine n line → IsRowLine n line ⊎ ((key : List ℕ) × HasKeyText key × Says (job_line key) line)
    back h = let (l, fit, is) = h in by l fit is

-- ---- the last line

module _ (rows jobs : ℕ) (line : List ℕ) where
  abbrev pub Ends : Tail → Type 0
  Ends t = said_text (inr t) ≡ line

  abbrev pub IsTail : Type 0
  IsTail = (t : Tail) × IsTailAt rows jobs t × Ends t

  abbrev OfBases : ℕ → Type 0
  OfBases bases = (0 < bases) × Ends (End (record { rows = rows; jobs = jobs; bases = bases }))

  abbrev OneOf : Type 0
  OneOf = Below (suc most_bases) OfBases ⊎ (((o : Overflow) × HasOverflowText o × Ends (OverflowTail o)) ⊎ Ends Memory)

  one_known : Known OneOf
  one_known = known_or
      (number_below (suc most_bases) OfBases (λ bases. both (is_some bases) (same_texts (said_text (inr (End (record { rows = rows; jobs = jobs; bases = bases })))) line)))
      (known_or (overflow_some (λ o. Ends (OverflowTail o)) (λ o. same_texts (said_text (inr (OverflowTail o))) line)) (same_texts (said_text (inr Memory)) line))
    where
      is_some : (bases : ℕ) → Known (0 < bases)
      is_some zero = inr (λ lt. omega (arith, lt))
      is_some (suc bases) = inl (omega arith)

  there : OneOf → IsTail
  there (inl h) =
      let (bases, lt, p) = h in
      (End (record { rows = rows; jobs = jobs; bases = bases }), record { rows_are = refl; jobs_are = refl; some = p.0; most = omega (arith, lt) }, p.1)
  there (inr (inl h)) = let (o, has, is) = h in (OverflowTail o, has, is)
  there (inr (inr is)) = (Memory, tt, is)

  by_tail : (t : Tail) → IsTailAt rows jobs t → Ends t → OneOf
  by_tail (End count) at is =
      inl (
        count.bases,
        omega (arith, at.most),
        (
          at.some,
          subst (λ (k : ℕ). Ends (End (record { rows = rows; jobs = k; bases = count.bases }))) at.jobs_are
              (subst (λ (k : ℕ). Ends (End (record { rows = k; jobs = count.jobs; bases = count.bases }))) at.rows_are is),
        ),
      )
  by_tail (OverflowTail o) at is = inr (inl (o, at, is))
  by_tail Memory at is = inr (inr is)

  pub tail_known : Known IsTail
  tail_known = known_as there (λ h. let (t, at, is) = h in by_tail t at is) one_known
