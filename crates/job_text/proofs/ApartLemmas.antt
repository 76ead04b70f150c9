-- No whole reply is a proper prefix of another.
use Rattle.std.proofs.Common.{◌≡◌, ◌<◌, ◌≤◌, ◌+◌, ◌^◌, ℕ, List, [], ◌∷◌, ◌++◌, length, get_or, refl, sym, ap, ◌∙◌, inl, inr, arith, append_assoc, append-nil, length-append}
use Rattle.work_core.specs.ReplyLines.{ReplyLine, row_line, job_line, line_text, lines_text, rows_in_lines, keys_in_lines}
use Rattle.job_text.specs.Replies.{IsWholeReply, reply_head, tail_text}
use Rattle.job_text.specs.declared.reply.Reply.{Reply}
use Rattle.job_text.specs.declared.reply.Tail.{Tail}
use Rattle.job_text.specs.declared.reply.Tail.TheVariants as tails
use Rattle.job_text.specs.Fits.{said_text}
use Rattle.job_text.proofs.JobLineLemmas.{same_behind}
use Rattle.job_text.proofs.ReplyLemmas.{line_is_said, tail_is_said, said_behind, said_lacks, said_cut, said_size, compare_lines}
use Rattle.job_text.proofs.NotWholeLemmas.{head_is, other_head}

-- there are no more rows and keys than bytes
pub counts_within : (lines : List ReplyLine) → length (rows_in_lines lines) + length (keys_in_lines lines) ≤ length (lines_text lines)
counts_within [] = omega arith
counts_within (row_line v ∷ lines) =
    omega (
      arith,
      counts_within lines,
      length-append (line_text (row_line v)) (lines_text lines),
      said_size (said_text (inl (row_line v))) (line_is_said (row_line v)),
    )
counts_within (job_line key ∷ lines) =
    omega (
      arith,
      counts_within lines,
      length-append (line_text (job_line key)) (lines_text lines),
      said_size (said_text (inl (job_line key))) (line_is_said (job_line key)),
    )

pub few_counts : (key : List ℕ) (lines : List ReplyLine) (tail : List ℕ) {whole : List ℕ} → whole ≡ reply_head key ++ (lines_text lines ++ tail)
    → length whole < 2 ^ 64 → (length (rows_in_lines lines) < 2 ^ 64) × (length (keys_in_lines lines) < 2 ^ 64)
few_counts key lines tail e lt =
    let size = ap (λ (l : List ℕ). length l) e in
    let parts = length-append (reply_head key) (lines_text lines ++ tail) in
    let more_parts = length-append (lines_text lines) tail in
    (omega (arith, size, parts, more_parts, lt, counts_within lines), omega (arith, size, parts, more_parts, lt, counts_within lines))

-- a line of a reply and a last one begin with other letters
first_letter : (l : ReplyLine) (t : Tail) (a b : List ℕ) → line_text l ++ a ≡ tail_text t ++ b → ⊥
first_letter (row_line v) (tails.End count) a b e = omega (arith, ap (λ (x : List ℕ). get_or x 0 0) e)
first_letter (row_line v) (tails.Overflow o) a b e = omega (arith, ap (λ (x : List ℕ). get_or x 0 0) e)
first_letter (row_line v) tails.Memory a b e = omega (arith, ap (λ (x : List ℕ). get_or x 0 0) e)
first_letter (job_line key) (tails.End count) a b e = omega (arith, ap (λ (x : List ℕ). get_or x 0 0) e)
first_letter (job_line key) (tails.Overflow o) a b e = omega (arith, ap (λ (x : List ℕ). get_or x 0 0) e)
first_letter (job_line key) tails.Memory a b e = omega (arith, ap (λ (x : List ℕ). get_or x 0 0) e)

pub nothing_more : (n : ℕ) (a b : Reply) (text more : List ℕ) → length text < 2 ^ 64 → IsWholeReply n a text
    → IsWholeReply n b (text ++ more) → more ≡ []
nothing_more n a b text more small u w =
    elim (compare_lines n w.lines u.lines (tail_text b.tail) (tail_text a.tail ++ more) w.fit u.fit both) [
      | inl g ↦ absurd (first_letter g.line b.tail g.more [] (sym g.is ∙ sym (append-nil (tail_text b.tail))))
      | inr k ↦ by k.left (sym k.rows) (sym k.keys) k.is
    ]
  where
    few_a : (length (rows_in_lines u.lines) < 2 ^ 64) × (length (keys_in_lines u.lines) < 2 ^ 64)
    few_a = few_counts a.key u.lines (tail_text a.tail) u.is_text small

    heads : reply_head a.key ++ ((lines_text u.lines ++ tail_text a.tail) ++ more) ≡ reply_head b.key ++ (lines_text w.lines ++ tail_text b.tail)
    heads = sym (append_assoc (reply_head a.key) (lines_text u.lines ++ tail_text a.tail) more)
        ∙ ap (λ (l : List ℕ). l ++ more) (sym u.is_text) ∙ w.is_text

    key : a.key ≡ b.key
    key = other_head a.key b.key _ _ u.key w.key (head_is a.key ((lines_text u.lines ++ tail_text a.tail) ++ more) refl)
        (head_is b.key (lines_text w.lines ++ tail_text b.tail) heads)

    bodies : (lines_text u.lines ++ tail_text a.tail) ++ more ≡ lines_text w.lines ++ tail_text b.tail
    bodies = same_behind (reply_head a.key) _ _
        (heads ∙ ap (λ (k : List ℕ). reply_head k ++ (lines_text w.lines ++ tail_text b.tail)) (sym key))

    both : lines_text w.lines ++ tail_text b.tail ≡ lines_text u.lines ++ (tail_text a.tail ++ more)
    both = sym bodies ∙ append_assoc (lines_text u.lines) (tail_text a.tail) more

    by : (left : List ReplyLine) → length (rows_in_lines w.lines) ≡ length (rows_in_lines u.lines) + length (rows_in_lines left)
        → length (keys_in_lines w.lines) ≡ length (keys_in_lines u.lines) + length (keys_in_lines left)
        → tail_text a.tail ++ more ≡ lines_text left ++ tail_text b.tail → more ≡ []
    by [] rows keys e =
        (said_cut (inr a.tail) (inr b.tail) more []
        (said_lacks n (length (rows_in_lines u.lines)) (length (keys_in_lines u.lines)) (inr a.tail) few_a.0 few_a.1 u.tail)
        (said_lacks n (length (rows_in_lines w.lines)) (length (keys_in_lines w.lines)) (inr b.tail)
        (omega (arith, rows, few_a.0)) (omega (arith, keys, few_a.1)) w.tail)
        (sym (said_behind (said_text (inr a.tail)) more (tail_is_said a.tail)) ∙ e ∙ tail_is_said b.tail)).2
    by (l ∷ left) rows keys e =
        absurd (first_letter l a.tail (lines_text left ++ tail_text b.tail) more
        (sym (append_assoc (line_text l) (lines_text left) (tail_text b.tail)) ∙ sym e))
