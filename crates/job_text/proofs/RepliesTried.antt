-- Whether a text is a whole reply can be found out by trying: each of its lines says itself what it is.
use Rattle.std.proofs.Common.{arith, ◌≡◌, ◌⊎◌, ◌<◌, ◌≤◌, ◌+◌, ◌^◌, ℕ, zero, suc, List, [], ◌∷◌, ◌++◌, get_or, length, length-append, refl, sym, ap, ◌∙◌, subst, inl, inr, append_assoc}
use Rattle.std.specs.Prelude.{codes}
use Rattle.std.specs.List.{AllByRecursion}
use Rattle.plain_text.specs.Cuts.{CutsLine, Lacks}
use Rattle.plain_text.proofs.CutLemmas.{lacks_none, lacks_tested, one_line}
use Rattle.poly_model.specs.LabelText.{key_text}
use Rattle.work_core.specs.ReplyLines.{ReplyLine, job_line, keys_in_lines, line_text, lines_text, row_line, rows_in_lines}
use Rattle.job_text.specs.declared.reply.Reply.{Reply}
use Rattle.job_text.specs.declared.reply.Tail.{Tail}
use Rattle.job_text.specs.Fits.{said_text}
use Rattle.job_text.specs.KeyTexts.{HasKeyText}
use Rattle.job_text.specs.LineTexts.{IsReplyLine}
use Rattle.job_text.specs.Replies.{IsTailAt, IsWholeReply, tail_text}
use Rattle.job_text.proofs.JobLineLemmas.{word_and_key_lack}
use Rattle.job_text.proofs.JobOrBadLemmas.{Known, both, same_texts}
use Rattle.job_text.proofs.NotWholeLemmas.{head_from, head_is}
use Rattle.job_text.proofs.ReplyLemmas.{line_is_said, line_lacks, said_behind, said_lacks, tail_is_said}
use Rattle.job_text.proofs.TriedTexts.{cut_line, key_some, known_as, known_or}
use Rattle.job_text.proofs.LinesTried.{IsLine, IsTail, Says, line_known, tail_known}

-- ---- all lines

-- so many rows and keys does one line say
abbrev rows_said : ReplyLine → ℕ
rows_said l = length (rows_in_lines (l ∷ []))

abbrev keys_said : ReplyLine → ℕ
keys_said l = length (keys_in_lines (l ∷ []))

record Body (n rows jobs : ℕ) (text : List ℕ) : Type 0 where
  lines : List ReplyLine
  tail : Tail
  fit : AllByRecursion (IsReplyLine n) lines
  ends : IsTailAt (rows + length (rows_in_lines lines)) (jobs + length (keys_in_lines lines)) tail
  is_text : text ≡ lines_text lines ++ tail_text tail

rows_more : (l : ReplyLine) (lines : List ReplyLine) → length (rows_in_lines (l ∷ lines)) ≡ rows_said l + length (rows_in_lines lines)
rows_more (row_line v) lines = omega arith
rows_more (job_line key) lines = omega arith

keys_more : (l : ReplyLine) (lines : List ReplyLine) → length (keys_in_lines (l ∷ lines)) ≡ keys_said l + length (keys_in_lines lines)
keys_more (row_line v) lines = omega arith
keys_more (job_line key) lines = omega arith

few_said : (l : ReplyLine) → (rows_said l ≤ 1) × (keys_said l ≤ 1)
few_said (row_line v) = (omega arith, omega arith)
few_said (job_line key) = (omega arith, omega arith)

-- two lines with one text say as much
as_much : (l m : ReplyLine) → said_text (inl l) ≡ said_text (inl m) → (rows_said l ≡ rows_said m) × (keys_said l ≡ keys_said m)
as_much (row_line v) (row_line w) e = (refl, refl)
as_much (job_line key) (job_line other) e = (refl, refl)
as_much (row_line v) (job_line key) e = let never : 114 ≡ 106 = ap (λ (t : List ℕ). get_or t 0 0) e in absurd (omega (arith, never))
as_much (job_line key) (row_line v) e = let never : 106 ≡ 114 = ap (λ (t : List ℕ). get_or t 0 0) e in absurd (omega (arith, never))

at_counts : (a b c d : ℕ) (t : Tail) → a ≡ c → b ≡ d → IsTailAt a b t → IsTailAt c d t
at_counts a b c d t e f h = subst (λ (k : ℕ). IsTailAt c k t) f (subst (λ (k : ℕ). IsTailAt k b t) e h)

-- what the first line of such a text says, and what stands behind it
abbrev Starts : ℕ → ℕ → ℕ → List ℕ → List ℕ → Type 0
Starts n rows jobs line rest =
    (IsTail rows jobs line × (rest ≡ []))
    ⊎ ((l : ReplyLine) × IsReplyLine n l × Says l line × Body n (rows + rows_said l) (jobs + keys_said l) rest)

module _ (n rows jobs : ℕ) (text line rest : List ℕ) (c : CutsLine text line rest) where
  of_start : Starts n rows jobs line rest → Body n rows jobs text
  of_start (inl h) =
      let (t, at, is) = h.0 in
      record {
        lines = [];
        tail = t;
        fit = tt;
        ends = at_counts rows jobs (rows + 0) (jobs + 0) t (omega arith) (omega arith) at;
        is_text = c.whole ∙ (λ i. sym is i ++ 10 ∷ h.1 i) ∙ sym (tail_is_said t);
      }
  of_start (inr h) =
      let (l, fit, is, b) = h in
      record {
        lines = l ∷ b.lines;
        tail = b.tail;
        fit = (fit, b.fit);
        ends = at_counts _ _ _ _ b.tail (omega (arith, rows_more l b.lines)) (omega (arith, keys_more l b.lines)) b.ends;
        is_text = c.whole ∙ (λ i. sym is i ++ 10 ∷ b.is_text i)
            ∙ sym (said_behind (said_text (inl l)) (lines_text b.lines ++ tail_text b.tail) (line_is_said l))
            ∙ sym (append_assoc (line_text l) (lines_text b.lines) (tail_text b.tail));
      }

  start_of : rows < 2 ^ 64 → jobs < 2 ^ 64 → Body n rows jobs text → Starts n rows jobs line rest
  start_of few few_jobs b = by b.lines b.fit b.ends b.is_text
    where
      by : (lines : List ReplyLine) → AllByRecursion (IsReplyLine n) lines →
          IsTailAt (rows + length (rows_in_lines lines)) (jobs + length (keys_in_lines lines)) b.tail →
          text ≡ lines_text lines ++ tail_text b.tail → Starts n rows jobs line rest
      by [] fit ends is =
          let at = at_counts (rows + 0) (jobs + 0) rows jobs b.tail (omega arith) (omega arith) ends in
          let cut = one_line line rest (said_text (inr b.tail)) [] c.lacks (said_lacks n rows jobs (inr b.tail) few few_jobs at)
          (sym c.whole ∙ is ∙ tail_is_said b.tail) in
          inl ((b.tail, at, sym cut.0), cut.1)
      by (l ∷ lines) fit ends is =
          let cut = one_line line rest (said_text (inl l)) (lines_text lines ++ tail_text b.tail) c.lacks (line_lacks n l fit.0)
          (sym c.whole ∙ is ∙ append_assoc (line_text l) (lines_text lines) (tail_text b.tail)
          ∙ said_behind (said_text (inl l)) (lines_text lines ++ tail_text b.tail) (line_is_said l)) in
          inr (
            l,
            fit.0,
            sym cut.0,
            record {
              lines = lines;
              tail = b.tail;
              fit = fit.1;
              ends = at_counts _ _ _ _ b.tail (omega (arith, rows_more l lines)) (omega (arith, keys_more l lines)) ends;
              is_text = cut.1;
            },
          )

  line_is_shorter : length rest < length text
  line_is_shorter = omega (arith, ap (λ (l : List ℕ). length l) c.whole, length-append line (10 ∷ rest))

  -- lines behind the first
  more_known : ((l : ReplyLine) → Known (Body n (rows + rows_said l) (jobs + keys_said l) rest)) →
      Known ((l : ReplyLine) × IsReplyLine n l × Says l line × Body n (rows + rows_said l) (jobs + keys_said l) rest)
  more_known next = by (line_known n line)
    where
      with_line : (l : ReplyLine) → IsReplyLine n l → Says l line → Known (Body n (rows + rows_said l) (jobs + keys_said l) rest) →
          Known ((l : ReplyLine) × IsReplyLine n l × Says l line × Body n (rows + rows_said l) (jobs + keys_said l) rest)
      with_line l fit is (inl b) = inl (l, fit, is, b)
      with_line l fit is (inr none) = inr (λ h.
          let (m, fits, says, b) = h in
          let much = as_much m l (says ∙ sym is) in
          none (subst (λ (k : ℕ). Body n (rows + rows_said l) (jobs + k) rest) much.1
          (subst (λ (k : ℕ). Body n (rows + k) (jobs + keys_said m) rest) much.0 b)))

      by : Known (IsLine n line) → Known ((l : ReplyLine) × IsReplyLine n l × Says l line × Body n (rows + rows_said l) (jobs + keys_said l) rest)
      by (inl found) = let (l, fit, is) = found in with_line l fit is (next l)
      by (inr none) = inr (λ h. let (m, fits, says, b) = h in none (m, fits, says))

is_empty : (text : List ℕ) → Known (text ≡ [])
is_empty text = same_texts text []

-- such a text has a line
has_line : (n rows jobs : ℕ) (text : List ℕ) → Body n rows jobs text → Lacks 10 text → ⊥
has_line n rows jobs text b lacks = by b.lines b.is_text
  where
    by : (lines : List ReplyLine) → text ≡ lines_text lines ++ tail_text b.tail → ⊥
    by [] is = lacks_none 10 (said_text (inr b.tail)) [] (subst (Lacks 10) (is ∙ tail_is_said b.tail) lacks)
    by (l ∷ lines) is =
        lacks_none 10 (said_text (inl l)) (lines_text lines ++ tail_text b.tail)
        (subst (Lacks 10) (is ∙ append_assoc (line_text l) (lines_text lines) (tail_text b.tail)
        ∙ said_behind (said_text (inl l)) (lines_text lines ++ tail_text b.tail) (line_is_said l)) lacks)

body_known : (room n rows jobs : ℕ) (text : List ℕ) → length text < room → rows + length text < 2 ^ 64 → jobs + length text < 2 ^ 64 →
    Known (Body n rows jobs text)
body_known zero n rows jobs text within few few_jobs = absurd (omega (arith, within))
body_known (suc room) n rows jobs text within few few_jobs = elim (cut_line text) [
  | inr lacks ↦ inr (λ b. has_line n rows jobs text b lacks)
  | inl cut ↦
      let (line, rest, c) = cut in
      let shorter = line_is_shorter n rows jobs text line rest c in
      known_as (of_start n rows jobs text line rest c) (start_of n rows jobs text line rest c (omega (arith, few)) (omega (arith, few_jobs)))
      (known_or (both (tail_known rows jobs line) (is_empty rest)) (more_known n rows jobs text line rest c (λ l.
      let said = few_said l in
      body_known room n (rows + rows_said l) (jobs + keys_said l) rest (omega (arith, within, shorter))
      (omega (arith, few, shorter, said.0)) (omega (arith, few_jobs, shorter, said.1)))))
]

-- ---- replies

abbrev HasHead : List ℕ → Type 0
HasHead line = (key : List ℕ) × HasKeyText key × (codes "reply " ++ key_text key ≡ line)

pub reply_known : (n : ℕ) (text : List ℕ) → length text < 2 ^ 64 → Known ((r : Reply) × IsWholeReply n r text)
reply_known n text short = elim (cut_line text) [
  | inr lacks ↦ inr (λ h.
      let (r, w) = h in
      lacks_none 10 (codes "reply " ++ key_text r.key) (lines_text w.lines ++ tail_text r.tail)
      (subst (Lacks 10) (head_is r.key (lines_text w.lines ++ tail_text r.tail) w.is_text) lacks))
  | inl cut ↦
      let (line, rest, c) = cut in
      with_key line rest c (key_some (λ key. codes "reply " ++ key_text key ≡ line) (λ key. same_texts (codes "reply " ++ key_text key) line))
]
  where
    cut_of : (line rest : List ℕ) → CutsLine text line rest → (r : Reply) (w : IsWholeReply n r text) →
        (line ≡ codes "reply " ++ key_text r.key) × (rest ≡ lines_text w.lines ++ tail_text r.tail)
    cut_of line rest c r w =
        one_line line rest (codes "reply " ++ key_text r.key) (lines_text w.lines ++ tail_text r.tail) c.lacks
        (word_and_key_lack (codes "reply ") r.key (lacks_tested 10 (codes "reply ") refl) w.key)
        (sym c.whole ∙ head_is r.key (lines_text w.lines ++ tail_text r.tail) w.is_text)

    with_body : (line rest key : List ℕ) → CutsLine text line rest → HasKeyText key → codes "reply " ++ key_text key ≡ line →
        Known (Body n 0 0 rest) → Known ((r : Reply) × IsWholeReply n r text)
    with_body line rest key c has is (inl b) = inl (
      record { key = key; rows = rows_in_lines b.lines; keys = keys_in_lines b.lines; tail = b.tail },
      record {
        key = has;
        lines = b.lines;
        fit = b.fit;
        rows = refl;
        keys = refl;
        tail = at_counts _ _ _ _ b.tail (omega arith) (omega arith) b.ends;
        is_text = head_from key (lines_text b.lines ++ tail_text b.tail) (c.whole ∙ (λ i. sym is i ++ 10 ∷ b.is_text i));
      },
    )
    with_body line rest key c has is (inr none) = inr (λ h.
        let (r, w) = h in
        none (record {
          lines = w.lines;
          tail = r.tail;
          fit = w.fit;
          ends = at_counts _ _ _ _ r.tail (omega arith) (omega arith) w.tail;
          is_text = (cut_of line rest c r w).1;
        }))

    with_key : (line rest : List ℕ) → CutsLine text line rest → Known (HasHead line) → Known ((r : Reply) × IsWholeReply n r text)
    with_key line rest c (inl found) =
        let (key, has, is) = found in
        let shorter = line_is_shorter n 0 0 text line rest c in
        with_body line rest key c has is
        (body_known (suc (length rest)) n 0 0 rest (omega arith) (omega (arith, short, shorter)) (omega (arith, short, shorter)))
    with_key line rest c (inr none) = inr (λ h. let (r, w) = h in none (r.key, w.key, sym (cut_of line rest c r w).0))
