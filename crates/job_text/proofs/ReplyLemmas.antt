-- Lines of a reply are read in one way: two rows of lines in front of one text are the same as far as both go.
use Rattle.std.proofs.Common.{◌≡◌, ◌⊎◌, ◌<◌, ◌+◌, ◌^◌, ℕ, List, [], ◌∷◌, ◌++◌, length, refl, sym, ap, ◌∙◌, inl, inr, arith, append_assoc, length-append}
use Rattle.std.specs.Prelude.{codes, decimal}
use Rattle.std.specs.List.{AllByRecursion}
use Rattle.plain_text.specs.Cuts.{Lacks}
use Rattle.plain_text.proofs.CutLemmas.{one_cut, one_line, lacks_append}
use Rattle.plain_text.proofs.NumberLemmas.{decimal_lacks}
use Rattle.poly_model.specs.ListingText.{vector_text}
use Rattle.poly_model.specs.LabelText.{place_text, key_text, phase_text}
use Rattle.poly_model.specs.declared.overflow.Overflow.{Overflow as Passed}
use Rattle.poly_model.specs.declared.listed.Count.{Count}
use Rattle.work_core.specs.ReplyLines.{ReplyLine, row_line, job_line, line_text, lines_text, rows_in_lines, keys_in_lines}
use Rattle.row_printer.specs.OverflowText.{overflow_text}
use Rattle.job_text.specs.Overflows.{HasOverflowText}
use Rattle.job_text.specs.LineTexts.{IsReplyLine}
use Rattle.job_text.specs.Replies.{IsTailAt, end_words, tail_text}
use Rattle.job_text.specs.declared.keyword.Keyword.TheVariants.{Row, Job, End, Overflow, Memory}
use Rattle.job_text.specs.declared.reply.Tail.{Tail}
use Rattle.job_text.specs.declared.reply.Tail.TheVariants as tails
use Rattle.job_text.specs.Keywords.{keyword_text}
use Rattle.job_text.specs.Fits.{Said, MaySay, keyword_of, behind_keyword, said_text}
use Rattle.job_text.proofs.EntryLemmas.{entries_lack}
use Rattle.job_text.proofs.KeyTextLemmas.{key_lacks}
use Rattle.job_text.proofs.OverflowLemmas.{place_lacks, phase_has_no_line_feed}
use Rattle.job_text.proofs.FitLemmas.{keyword_lacks, keyword_tells, behind_goes_on}

-- ---- a line's text

pub line_is_said : (l : ReplyLine) → line_text l ≡ said_text (inl l) ++ 10 ∷ []
unfolding vector_text
line_is_said (row_line v) = refl
line_is_said (job_line key) = refl

pub tail_is_said : (t : Tail) → tail_text t ≡ said_text (inr t) ++ 10 ∷ []
tail_is_said (tails.End count) =
    ap (λ (l : List ℕ). codes "end " ++ l)
    (sym (append_assoc (decimal count.rows) (32 ∷ (decimal count.jobs ++ (32 ∷ decimal count.bases))) (10 ∷ [])
    ∙ ap (λ (l : List ℕ). decimal count.rows ++ (32 ∷ l)) (append_assoc (decimal count.jobs) (32 ∷ decimal count.bases) (10 ∷ []))))
tail_is_said (tails.Overflow o) = refl
tail_is_said tails.Memory = refl

overflow_lacks : (o : Passed) → HasOverflowText o → Lacks 10 (overflow_text o)
overflow_lacks o h =
    lacks_append 10 (phase_text o.phase) _ (phase_has_no_line_feed o.phase) (
      (λ e. omega (arith, e)),
      lacks_append 10 (key_text o.key) _ (key_lacks o.key h.key) (
        (λ e. omega (arith, e)),
        lacks_append 10 (place_text o.a) _ (place_lacks 10 o.a (omega arith) h.a) (
          (λ e. omega (arith, e)),
          lacks_append 10 (place_text o.b) _ (place_lacks 10 o.b (omega arith) h.b) (
            (λ e. omega (arith, e)),
            lacks_append 10 (place_text o.c) _ (place_lacks 10 o.c (omega arith) h.c)
                ((λ e. omega (arith, e)), place_lacks 10 o.d (omega arith) h.d),
          ),
        ),
      ),
    )

end_lacks : (count : Count) → count.rows < 2 ^ 64 → count.jobs < 2 ^ 64 → count.bases < 2 ^ 64 → Lacks 10 (end_words count)
end_lacks count p q r = (
  (λ e. omega (arith, e)),
  lacks_append 10 (decimal count.rows) _ (decimal_lacks 10 count.rows (omega (arith, p)) (inl (omega arith))) (
    (λ e. omega (arith, e)),
    lacks_append 10 (decimal count.jobs) _ (decimal_lacks 10 count.jobs (omega (arith, q)) (inl (omega arith)))
        ((λ e. omega (arith, e)), decimal_lacks 10 count.bases (omega (arith, r)) (inl (omega arith))),
  ),
)

-- behind fewer than 2^64 rows and jobs
pub said_lacks : (n rows jobs : ℕ) (s : Said) → rows < 2 ^ 64 → jobs < 2 ^ 64 → MaySay n rows jobs s → Lacks 10 (said_text s)
said_lacks n rows jobs s p q may = lacks_append 10 (keyword_text (keyword_of s)) (behind_keyword s) (keyword_lacks 10 (keyword_of s) (inl refl)) (by s may)
  where
    by : (s : Said) → MaySay n rows jobs s → Lacks 10 (behind_keyword s)
    by (inl (row_line v)) may = entries_lack v may.2
    by (inl (job_line key)) may = ((λ e. omega (arith, e)), key_lacks key may)
    by (inr (tails.End count)) may =
        end_lacks count (omega (arith, may.rows_are, p)) (omega (arith, may.jobs_are, q)) (omega (arith, may.most))
    by (inr (tails.Overflow o)) may = ((λ e. omega (arith, e)), overflow_lacks o may)
    by (inr tails.Memory) may = tt

-- two lines in front of one text
pub said_cut : (s t : Said) (a b : List ℕ) → Lacks 10 (said_text s) → Lacks 10 (said_text t)
    → said_text s ++ 10 ∷ a ≡ said_text t ++ 10 ∷ b → (said_text s ≡ said_text t) × (keyword_of s ≡ keyword_of t) × (a ≡ b)
said_cut s t a b p q e =
    let lines = one_line (said_text s) a (said_text t) b p q e in
    let words = one_cut 32 (keyword_text (keyword_of s)) (behind_keyword s) (keyword_text (keyword_of t)) (behind_keyword t)
    (keyword_lacks 32 (keyword_of s) (inr refl)) (behind_goes_on s) (keyword_lacks 32 (keyword_of t) (inr refl)) (behind_goes_on t)
    lines.0 in
    (lines.0, keyword_tells (keyword_of s) (keyword_of t) words.0, lines.1)

-- a line's text with something behind it
pub said_behind : {whole : List ℕ} (text rest : List ℕ) → whole ≡ text ++ 10 ∷ [] → whole ++ rest ≡ text ++ 10 ∷ rest
said_behind text rest e = ap (λ (l : List ℕ). l ++ rest) e ∙ append_assoc text (10 ∷ []) rest

pub said_size : {whole : List ℕ} (text : List ℕ) → whole ≡ text ++ 10 ∷ [] → length whole ≡ length text + 1
said_size text e = ap (λ (l : List ℕ). length l) e ∙ length-append text (10 ∷ [])

pub line_lacks : (n : ℕ) (l : ReplyLine) → IsReplyLine n l → Lacks 10 (said_text (inl l))
line_lacks n l fit = said_lacks n 0 0 (inl l) (omega arith) (omega arith) fit

-- no line is a last one
pub line_or_tail : (n rows jobs : ℕ) (l : ReplyLine) (t : Tail) (a b : List ℕ) → rows < 2 ^ 64 → jobs < 2 ^ 64 → IsReplyLine n l
    → IsTailAt rows jobs t → line_text l ++ a ≡ tail_text t ++ b → ⊥
line_or_tail n rows jobs l t a b p q fit may e =
    let k = said_cut (inl l) (inr t) a b (line_lacks n l fit) (said_lacks n rows jobs (inr t) p q may)
    (sym (said_behind (said_text (inl l)) a (line_is_said l)) ∙ e ∙ said_behind (said_text (inr t)) b (tail_is_said t)) in
    by l t k.1
  where
    by : (l : ReplyLine) (t : Tail) → keyword_of (inl l) ≡ keyword_of (inr t) → ⊥
    by (row_line v) (tails.End count) same = let no : Row ≡ End = same in cc
    by (row_line v) (tails.Overflow o) same = let no : Row ≡ Overflow = same in cc
    by (row_line v) tails.Memory same = let no : Row ≡ Memory = same in cc
    by (job_line key) (tails.End count) same = let no : Job ≡ End = same in cc
    by (job_line key) (tails.Overflow o) same = let no : Job ≡ Overflow = same in cc
    by (job_line key) tails.Memory same = let no : Job ≡ Memory = same in cc

-- ---- rows of lines

-- the second lines go on behind the first: the next of them stands in front of the rest
pub record GoesOn (n : ℕ) (rest : List ℕ) : Type 0 where
  pub line : ReplyLine
  pub more : List ℕ
  pub fit : IsReplyLine n line
  pub is : rest ≡ line_text line ++ more

-- or they end first, and these of the first are left
pub record EndsFirst (n : ℕ) (lines others : List ReplyLine) (rest behind : List ℕ) : Type 0 where
  pub left : List ReplyLine
  pub fit : AllByRecursion (IsReplyLine n) left
  pub is : behind ≡ lines_text left ++ rest
  pub size : length (lines_text others) + length (lines_text left) ≡ length (lines_text lines)
  pub rows : length (rows_in_lines others) + length (rows_in_lines left) ≡ length (rows_in_lines lines)
  pub keys : length (keys_in_lines others) + length (keys_in_lines left) ≡ length (keys_in_lines lines)

pub compare_lines : (n : ℕ) (lines others : List ReplyLine) (rest behind : List ℕ) → AllByRecursion (IsReplyLine n) lines
    → AllByRecursion (IsReplyLine n) others → lines_text lines ++ rest ≡ lines_text others ++ behind
    → GoesOn n rest ⊎ EndsFirst n lines others rest behind
compare_lines n [] [] rest behind p q e =
    inr (record { left = []; fit = tt; is = sym e; size = refl; rows = refl; keys = refl })
compare_lines n [] (m ∷ others) rest behind p q e =
    inl (record { line = m; more = lines_text others ++ behind; fit = q.0; is = e ∙ append_assoc (line_text m) (lines_text others) behind })
compare_lines n (l ∷ lines) [] rest behind p q e =
    inr (record { left = l ∷ lines; fit = p; is = sym e; size = omega arith; rows = omega arith; keys = omega arith })
compare_lines n (l ∷ lines) (m ∷ others) rest behind p q e =
    let cut = said_cut (inl l) (inl m) (lines_text lines ++ rest) (lines_text others ++ behind) (line_lacks n l p.0) (line_lacks n m q.0)
    (sym (said_behind (said_text (inl l)) (lines_text lines ++ rest) (line_is_said l))
    ∙ sym (append_assoc (line_text l) (lines_text lines) rest) ∙ e ∙ append_assoc (line_text m) (lines_text others) behind
    ∙ said_behind (said_text (inl m)) (lines_text others ++ behind) (line_is_said m)) in
    let sizes : length (line_text l) ≡ length (line_text m) =
    ap (λ (t : List ℕ). length t) (line_is_said l ∙ ap (λ (t : List ℕ). t ++ 10 ∷ []) cut.0 ∙ sym (line_is_said m)) in
    by l m cut.1 sizes (compare_lines n lines others rest behind p.1 q.1 cut.2)
  where
    by : (l m : ReplyLine) → keyword_of (inl l) ≡ keyword_of (inl m) → length (line_text l) ≡ length (line_text m)
        → GoesOn n rest ⊎ EndsFirst n lines others rest behind → GoesOn n rest ⊎ EndsFirst n (l ∷ lines) (m ∷ others) rest behind
    by l m same sizes (inl goes) = inl goes
    by (row_line v) (row_line w) same sizes (inr k) = inr (record {
      left = k.left;
      fit = k.fit;
      is = k.is;
      size = omega (arith, length-append (line_text (row_line v)) (lines_text lines), length-append (line_text (row_line w)) (lines_text others), sizes, k.size);
      rows = omega (arith, k.rows);
      keys = k.keys;
    })
    by (job_line key) (job_line other) same sizes (inr k) = inr (record {
      left = k.left;
      fit = k.fit;
      is = k.is;
      size = omega (arith, length-append (line_text (job_line key)) (lines_text lines), length-append (line_text (job_line other)) (lines_text others), sizes, k.size);
      rows = k.rows;
      keys = omega (arith, k.keys);
    })
    by (row_line v) (job_line key) same sizes (inr k) = let no : Row ≡ Job = same in absurd cc
    by (job_line key) (row_line v) same sizes (inr k) = let no : Job ≡ Row = same in absurd cc
