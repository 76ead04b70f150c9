-- The first line of what is left of a reply: it shows the next row, gives a key back, or is the last.
use Rattle.std.proofs.Common.{arith, ◌≡◌, ◌⊎◌, inl, inr, ℕ, List, [], ◌∷◌, ◌++◌, refl, sym, ap, ◌∙◌, append_assoc, ◌+◌, ◌-◌, take, drop, length, length-append, ◌<◌}
use Rattle.std.proofs.Math.Seq.{take-append-add}
use Rattle.std.specs.Prelude.{codes}
use Rattle.std.specs.List.{AllByRecursion}
use Rattle.plain_text.specs.Cuts.{CutsLine, GoesOnWith, Lacks}
use Rattle.plain_text.proofs.CutLemmas.{lacks_append, lacks_tested}
use Rattle.plain_text.proofs.ReadLemmas.{line_is, no_line}
use Rattle.poly_num.specs.Vectors.{Vector}
use Rattle.poly_model.specs.LabelText.{key_text}
use Rattle.poly_model.specs.ListingText.{entries_text, vector_text}
use Rattle.poly_model.specs.declared.listed.Count.{Count}
use Rattle.work_core.specs.ReplyLines.{ReplyLine, row_line, job_line, line_text, lines_text, rows_in_lines}
use Rattle.job_text.specs.declared.reply.Reply.{Reply}
use Rattle.job_text.specs.declared.reply.Tail.{Tail}
use Rattle.job_text.specs.declared.reply.Tail.TheVariants.{End}
use Rattle.job_text.specs.Fits.{said_text}
use Rattle.job_text.specs.LeftRows.{LeavesRows, TakesRow}
use Rattle.job_text.specs.LineTexts.{IsReplyLine}
use Rattle.job_text.specs.Replies.{IsWholeReply, reply_head, tail_text}
use Rattle.job_text.proofs.EntryLemmas.{entries_go_on}
use Rattle.job_text.proofs.KeyTextLemmas.{key_lacks}
use Rattle.job_text.proofs.ReplyLemmas.{line_is_said, line_lacks, said_behind, tail_is_said}

-- ---- the first bytes of a line

-- a line in front of a text that begins so begins so too
in_front : (front line rest more : List ℕ) → Lacks 10 front → line ++ 10 ∷ rest ≡ front ++ more →
    (behind : List ℕ) × (line ≡ front ++ behind)
in_front [] line rest more lacks e = (line, refl)
in_front (x ∷ front) [] rest more lacks e = absurd (lacks.0 (sym cc))
in_front (x ∷ front) (b ∷ line) rest more lacks e =
    let first : b ≡ x = cc in
    let k = in_front front line rest more lacks.1 cc in (k.0, cc)

first_of : List ℕ → ℕ
first_of [] = 0
first_of (b ∷ line) = b

pub row_or_job : {line : List ℕ} (a b : List ℕ) → line ≡ codes "row" ++ a → line ≡ codes "job " ++ b → ⊥
unfolding first_of
row_or_job a b p q = let e : 114 ≡ 106 = ap first_of (sym p ∙ q) in omega (arith, e)

pub row_or_end : {line : List ℕ} (a b : List ℕ) → line ≡ codes "row" ++ a → line ≡ codes "end " ++ b → ⊥
unfolding first_of
row_or_end a b p q = let e : 114 ≡ 101 = ap first_of (sym p ∙ q) in omega (arith, e)

pub job_or_end : {line : List ℕ} (a b : List ℕ) → line ≡ codes "job " ++ a → line ≡ codes "end " ++ b → ⊥
unfolding first_of
job_or_end a b p q = let e : 106 ≡ 101 = ap first_of (sym p ∙ q) in omega (arith, e)

-- the entries of a row with the line feed behind them
entry_line : (v : Vector) → entries_text v ++ 10 ∷ [] ≡ vector_text v
unfolding vector_text
entry_line v = refl

up_to_line_feed : (entries rest : List ℕ) (n : ℕ) → n ≡ length entries + 1 → take n (entries ++ 10 ∷ rest) ≡ entries ++ 10 ∷ []
up_to_line_feed entries rest n e = rw e (take-append-add entries (10 ∷ rest) 1)

-- what stands behind the word of the first line, with its line feed
pub row_line_is : (text line rest entries : List ℕ) → CutsLine text line rest → line ≡ codes "row" ++ entries →
    take (length line + 1 - 3) (drop 3 text) ≡ entries ++ 10 ∷ []
row_line_is text line rest entries cut is =
    rw (cut.whole, is) (up_to_line_feed entries rest (length (codes "row" ++ entries) + 1 - 3)
    (omega (arith, length-append (codes "row") entries)))

-- ---- the first line

pub record ShowsNext (n : ℕ) (rows : List Vector) (line rest : List ℕ) : Type 0 where
  pub entries : List ℕ
  pub is : line ≡ codes "row" ++ entries
  pub takes : TakesRow n rows (entries ++ 10 ∷ []) rest
  pub blank : GoesOnWith 32 entries

pub record GivesBack (n : ℕ) (rows : List Vector) (line rest : List ℕ) : Type 0 where
  pub key : List ℕ
  pub is : line ≡ codes "job " ++ key
  pub left : LeavesRows n rows rest

pub record IsLast (rows : List Vector) (line : List ℕ) : Type 0 where
  pub count : List ℕ
  pub is : line ≡ codes "end " ++ count
  pub none : rows ≡ []

module _ (n : ℕ) (rows : List Vector) (text line rest : List ℕ) (cut : CutsLine text line rest) where
  pub first_line : LeavesRows n rows text → ShowsNext n rows line rest ⊎ (GivesBack n rows line rest ⊎ IsLast rows line)
  first_line h = by h.lines h.fit h.rows_are h.is_text
    where
      left : (lines : List ReplyLine) → AllByRecursion (IsReplyLine n) lines → (more : List Vector) →
          more ≡ rows_in_lines lines → rest ≡ lines_text lines ++ tail_text (End h.count) → LeavesRows n more rest
      left lines fit more are is = record { lines = lines; fit = fit; rows_are = are; count = h.count; is_text = is }

      cut_is : (l : ReplyLine) (lines : List ReplyLine) → IsReplyLine n l →
          text ≡ lines_text (l ∷ lines) ++ tail_text (End h.count) →
          (line ≡ said_text (inl l)) × (rest ≡ lines_text lines ++ tail_text (End h.count))
      cut_is l lines fit is =
          line_is (said_text (inl l)) (lines_text lines ++ tail_text (End h.count)) cut (line_lacks n l fit)
          (is ∙ append_assoc (line_text l) (lines_text lines) (tail_text (End h.count))
          ∙ said_behind (said_text (inl l)) (lines_text lines ++ tail_text (End h.count)) (line_is_said l))

      by : (lines : List ReplyLine) → AllByRecursion (IsReplyLine n) lines → rows ≡ rows_in_lines lines →
          text ≡ lines_text lines ++ tail_text (End h.count) →
          ShowsNext n rows line rest ⊎ (GivesBack n rows line rest ⊎ IsLast rows line)
      by [] fit are is =
          let k = in_front (codes "end ") line rest _ (lacks_tested 10 (codes "end ") refl) (sym cut.whole ∙ is) in
          inr (inr (record { count = k.0; is = k.1; none = are }))
      by (row_line v ∷ lines) fit are is = let k = cut_is (row_line v) lines fit.0 is in
          inl (record {
            entries = entries_text v;
            is = k.0;
            takes = record {
              row = v;
              width = fit.0.0;
              nums = fit.0.2;
              is_text = entry_line v;
              others = rows_in_lines lines;
              first = are;
              left = left lines fit.1 (rows_in_lines lines) refl k.1;
            };
            blank = entries_go_on v;
          })
      by (job_line key ∷ lines) fit are is = let k = cut_is (job_line key) lines fit.0 is in
          inr (inl (record { key = key_text key; is = k.0; left = left lines fit.1 rows are k.1 }))

  pub shows_next : (entries : List ℕ) → line ≡ codes "row" ++ entries → LeavesRows n rows text →
      TakesRow n rows (entries ++ 10 ∷ []) rest × GoesOnWith 32 entries
  shows_next entries is h = elim (first_line h) [
    | inl shows ↦ let same : entries ≡ shows.entries = ap (drop 3) (sym is ∙ shows.is) in
        rw same (shows.takes, shows.blank)
    | inr (inl back) ↦ absurd (row_or_job entries back.key is back.is)
    | inr (inr last) ↦ absurd (row_or_end entries last.count is last.is)
  ]

  pub gives_back : (key : List ℕ) → line ≡ codes "job " ++ key → LeavesRows n rows text → LeavesRows n rows rest
  gives_back key is h = elim (first_line h) [
    | inl shows ↦ absurd (row_or_job shows.entries key shows.is is)
    | inr (inl back) ↦ back.left
    | inr (inr last) ↦ absurd (job_or_end key last.count is last.is)
  ]

  pub ends_rows : (count : List ℕ) → line ≡ codes "end " ++ count → LeavesRows n rows text → rows ≡ []
  ends_rows count is h = elim (first_line h) [
    | inl shows ↦ absurd (row_or_end shows.entries count shows.is is)
    | inr (inl back) ↦ absurd (job_or_end back.key count back.is is)
    | inr (inr last) ↦ last.none
  ]

  -- no other line is left
  pub no_other : ((entries : List ℕ) → line ≡ codes "row" ++ entries → ⊥) → ((key : List ℕ) → line ≡ codes "job " ++ key → ⊥) →
      ((count : List ℕ) → line ≡ codes "end " ++ count → ⊥) → LeavesRows n rows text → ⊥
  no_other row job end h = elim (first_line h) [
    | inl shows ↦ row shows.entries shows.is
    | inr (inl back) ↦ job back.key back.is
    | inr (inr last) ↦ end last.count last.is
  ]

-- a text without LF is none that is left
pub some_line_left : (n : ℕ) (rows : List Vector) (text : List ℕ) → Lacks 10 text → LeavesRows n rows text → ⊥
some_line_left n rows text lacks h = by h.lines h.is_text
  where
    by : (lines : List ReplyLine) → text ≡ lines_text lines ++ tail_text (End h.count) → ⊥
    by [] is = no_line text (said_text (inr (End h.count))) [] lacks (is ∙ tail_is_said (End h.count))
    by (l ∷ lines) is =
        no_line text (said_text (inl l)) (lines_text lines ++ tail_text (End h.count)) lacks
        (is ∙ append_assoc (line_text l) (lines_text lines) (tail_text (End h.count))
        ∙ said_behind (said_text (inl l)) (lines_text lines ++ tail_text (End h.count)) (line_is_said l))

-- ---- behind the first line of a reply

head_line : (key more : List ℕ) → reply_head key ++ more ≡ (codes "reply " ++ key_text key) ++ 10 ∷ more
head_line key more =
    ap (λ (l : List ℕ). codes "reply " ++ l) (append_assoc (key_text key) (10 ∷ []) more)

head_lacks : (n : ℕ) (r : Reply) (text : List ℕ) → IsWholeReply n r text → Lacks 10 (codes "reply " ++ key_text r.key)
head_lacks n r text whole =
    lacks_append 10 (codes "reply ") (key_text r.key) (lacks_tested 10 (codes "reply ") refl) (key_lacks r.key whole.key)

module _ (n : ℕ) (r : Reply) (text : List ℕ) (whole : IsWholeReply n r text) where
  pub head_behind : (line rest : List ℕ) → CutsLine text line rest →
      (line ≡ codes "reply " ++ key_text r.key) × (rest ≡ lines_text whole.lines ++ tail_text r.tail)
  head_behind line rest cut =
      line_is (codes "reply " ++ key_text r.key) (lines_text whole.lines ++ tail_text r.tail) cut
      (head_lacks n r text whole) (whole.is_text ∙ head_line r.key (lines_text whole.lines ++ tail_text r.tail))

  pub some_head : Lacks 10 text → ⊥
  some_head lacks =
      no_line text (codes "reply " ++ key_text r.key) (lines_text whole.lines ++ tail_text r.tail) lacks
      (whole.is_text ∙ head_line r.key (lines_text whole.lines ++ tail_text r.tail))

  pub leaves_rows : (line rest : List ℕ) → CutsLine text line rest → (count : Count) → r.tail ≡ End count →
      LeavesRows n r.rows rest
  leaves_rows line rest cut count ends = record {
    lines = whole.lines;
    fit = whole.fit;
    rows_are = whole.rows;
    count = count;
    is_text = (head_behind line rest cut).1 ∙ ap (λ (t : Tail). lines_text whole.lines ++ tail_text t) ends;
  }

-- ---- how many bytes a line takes

pub fewer_behind : (text line rest : List ℕ) → CutsLine text line rest → length rest < length text
fewer_behind text line rest cut =
    omega (arith, ap (λ (l : List ℕ). length l) cut.whole, length-append line (10 ∷ rest))
