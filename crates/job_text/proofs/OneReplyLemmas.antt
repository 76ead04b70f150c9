-- A text is one whole reply: its lines, and so its rows, keys and last line, are read in one way.
use Rattle.std.proofs.Common.{◌≡◌, ◌<◌, ◌^◌, ℕ, List, [], ◌∷◌, ◌++◌, length, get_or, refl, sym, ap, ◌∙◌, subst, inl, inr, append_assoc, append-nil}
use Rattle.std.specs.Prelude.{◌==◌, if◌then◌else◌, codes}
use Rattle.std.specs.List.{AllByRecursion}
use Rattle.poly_model.specs.declared.listed.Count.{Count}
use Rattle.poly_model.specs.declared.overflow.Overflow.{Overflow as Passed}
use Rattle.poly_model.specs.declared.overflow.Phase.{Phase}
use Rattle.poly_model.specs.declared.overflow.Phase.TheVariants as phases
use Rattle.poly_model.specs.LabelText.{key_text, phase_text}
use Rattle.poly_model.specs.ListingText.{entries_text}
use Rattle.plain_text.proofs.CutLemmas.{one_cut}
use Rattle.row_printer.specs.OverflowText.{overflow_text}
use Rattle.work_core.specs.ReplyLines.{ReplyLine, row_line, job_line, line_text, lines_text, rows_in_lines, keys_in_lines}
use Rattle.job_text.specs.Overflows.{HasOverflowText}
use Rattle.job_text.specs.LineTexts.{IsReplyLine}
use Rattle.job_text.specs.Replies.{IsTailAt, IsWholeReply, reply_head, tail_text, end_words}
use Rattle.job_text.specs.declared.keyword.Keyword.TheVariants.{Row, Job, End, Overflow, Memory}
use Rattle.job_text.specs.declared.reply.Reply.{Reply}
use Rattle.job_text.specs.declared.reply.Tail.{Tail}
use Rattle.job_text.specs.declared.reply.Tail.TheVariants as tails
use Rattle.job_text.specs.Fits.{keyword_of, said_text}
use Rattle.job_text.proofs.ApartLemmas.{few_counts}
use Rattle.job_text.proofs.EndLemmas.{AreSmall, bases_text, jobs_text, end_pieces, small, count_step}
use Rattle.job_text.proofs.EntryLemmas.{entries_tell}
use Rattle.job_text.proofs.JobLineLemmas.{same_behind}
use Rattle.job_text.proofs.NotWholeLemmas.{head_is, other_head}
use Rattle.job_text.proofs.OverflowLemmas.{a_text, b_text, c_text, d_text, key_behind_text, overflow_pieces, phase_has_no_blank, key_step, place_step}
use Rattle.job_text.proofs.ReplyLemmas.{line_is_said, tail_is_said, said_behind, said_lacks, said_cut, line_lacks, line_or_tail}

-- ---- lines

line_tells : (n : ℕ) (l m : ReplyLine) → IsReplyLine n l → IsReplyLine n m → keyword_of (inl l) ≡ keyword_of (inl m)
    → said_text (inl l) ≡ said_text (inl m) → l ≡ m
line_tells n (row_line v) (row_line w) p q same e =
    ap row_line (entries_tell v w [] p.2 q.2 tt (p.0 ∙ sym q.0)
    (append-nil (entries_text v) ∙ same_behind (codes "row") (entries_text v) (entries_text w) e)).0
line_tells n (job_line key) (job_line other) p q same e =
    ap job_line (key_step key other [] [] (32 ∷ (key_text key ++ [])) p q tt tt refl
    (ap (λ (l : List ℕ). 32 ∷ l) (append-nil (key_text key)) ∙ same_behind (codes "job") (32 ∷ key_text key) (32 ∷ key_text other) e
    ∙ ap (λ (l : List ℕ). 32 ∷ l) (sym (append-nil (key_text other))))).0
line_tells n (row_line v) (job_line key) p q same e = let never : Row ≡ Job = same in absurd cc
line_tells n (job_line key) (row_line v) p q same e = let never : Job ≡ Row = same in absurd cc

-- ---- last lines

-- the phase that begins with this letter
abbrev lettered : ℕ → Phase
lettered b = if b == 99 then phases.Cone else (if b == 112 then phases.Prepare else (if b == 109 then phases.Main else phases.First))

lettered_is : (p : Phase) → lettered (get_or (phase_text p) 0 0) ≡ p
lettered_is phases.Cone = refl
lettered_is phases.Prepare = refl
lettered_is phases.Main = refl
lettered_is phases.First = refl

phase_tells : (p q : Phase) → phase_text p ≡ phase_text q → p ≡ q
phase_tells p q e = sym (lettered_is p) ∙ ap (λ (t : List ℕ). lettered (get_or t 0 0)) e ∙ lettered_is q

overflow_tells : (o p : Passed) → HasOverflowText o → HasOverflowText p → overflow_text o ≡ overflow_text p → o ≡ p
overflow_tells o p h k e =
    let phase = one_cut 32 (phase_text o.phase) (key_behind_text o) (phase_text p.phase) (key_behind_text p) (phase_has_no_blank o.phase) refl
    (phase_has_no_blank p.phase) refl (sym (overflow_pieces o) ∙ e ∙ overflow_pieces p) in
    let key = key_step o.key p.key (a_text o) (a_text p) (key_behind_text o) h.key k.key refl refl refl phase.1 in
    let a = place_step o.a p.a (b_text o) (b_text p) (a_text o) h.a k.a refl refl refl key.1 in
    let b = place_step o.b p.b (c_text o) (c_text p) (b_text o) h.b k.b refl refl refl a.1 in
    let c = place_step o.c p.c (d_text o) (d_text p) (c_text o) h.c k.c refl refl refl b.1 in
    let d = place_step o.d p.d [] [] (d_text o) h.d k.d tt tt refl c.1 in
    let named = phase_tells o.phase p.phase phase.0 in
    λ i. record { phase = named i; key = key.0 i; a = a.0 i; b = b.0 i; c = c.0 i; d = d.0 i }

end_tells : (c d : Count) → AreSmall c → AreSmall d → end_words c ≡ end_words d → c ≡ d
end_tells c d p q e =
    let rows = count_step c.rows d.rows (jobs_text c) (jobs_text d) (end_words c) p.rows q.rows refl refl (end_pieces c) (e ∙ end_pieces d) in
    let jobs = count_step c.jobs d.jobs (bases_text c) (bases_text d) (jobs_text c) p.jobs q.jobs refl refl refl rows.1 in
    let bases = count_step c.bases d.bases [] [] (bases_text c) p.bases q.bases tt tt refl jobs.1 in
    λ i. record { rows = rows.0 i; jobs = jobs.0 i; bases = bases.0 i }

module _ (rows jobs : ℕ) (few_rows : rows < 2 ^ 64) (few_jobs : jobs < 2 ^ 64) where
  said_tells : (t u : Tail) → IsTailAt rows jobs t → IsTailAt rows jobs u → keyword_of (inr t) ≡ keyword_of (inr u)
      → said_text (inr t) ≡ said_text (inr u) → t ≡ u
  said_tells (tails.End c) (tails.End d) p q same e =
      ap tails.End (end_tells c d (small rows jobs c p few_rows few_jobs) (small rows jobs d q few_rows few_jobs)
      (same_behind (codes "end") (end_words c) (end_words d) e))
  said_tells (tails.Overflow o) (tails.Overflow p) h k same e =
      ap tails.Overflow (overflow_tells o p h k (same_behind (codes "overflow ") (overflow_text o) (overflow_text p) e))
  said_tells tails.Memory tails.Memory h k same e = refl
  said_tells (tails.End c) (tails.Overflow o) h k same e = let never : End ≡ Overflow = same in absurd cc
  said_tells (tails.End c) tails.Memory h k same e = let never : End ≡ Memory = same in absurd cc
  said_tells (tails.Overflow o) (tails.End c) h k same e = let never : Overflow ≡ End = same in absurd cc
  said_tells (tails.Overflow o) tails.Memory h k same e = let never : Overflow ≡ Memory = same in absurd cc
  said_tells tails.Memory (tails.End c) h k same e = let never : Memory ≡ End = same in absurd cc
  said_tells tails.Memory (tails.Overflow o) h k same e = let never : Memory ≡ Overflow = same in absurd cc

  tail_tells : (n : ℕ) (t u : Tail) → IsTailAt rows jobs t → IsTailAt rows jobs u → tail_text t ≡ tail_text u → t ≡ u
  tail_tells n t u p q e =
      let cut = said_cut (inr t) (inr u) [] [] (said_lacks n rows jobs (inr t) few_rows few_jobs p)
      (said_lacks n rows jobs (inr u) few_rows few_jobs q) (sym (tail_is_said t) ∙ e ∙ tail_is_said u) in
      said_tells t u p q cut.1 cut.0

-- ---- lines and a last one

module _ (n : ℕ) (t u : Tail) (rows jobs : ℕ) (few_rows : rows < 2 ^ 64) (few_jobs : jobs < 2 ^ 64) (p : IsTailAt rows jobs t)
    (more_rows more_jobs : ℕ) (few_more_rows : more_rows < 2 ^ 64) (few_more_jobs : more_jobs < 2 ^ 64) (q : IsTailAt more_rows more_jobs u) where
  lines_tell : (lines others : List ReplyLine) → AllByRecursion (IsReplyLine n) lines → AllByRecursion (IsReplyLine n) others
      → lines_text lines ++ tail_text t ≡ lines_text others ++ tail_text u → (lines ≡ others) × (tail_text t ≡ tail_text u)
  lines_tell [] [] h k e = (refl, e)
  lines_tell [] (m ∷ others) h k e =
      absurd (line_or_tail n rows jobs m t (lines_text others ++ tail_text u) [] few_rows few_jobs k.0 p
      (sym (e ∙ append_assoc (line_text m) (lines_text others) (tail_text u)) ∙ sym (append-nil (tail_text t))))
  lines_tell (l ∷ lines) [] h k e =
      absurd (line_or_tail n more_rows more_jobs l u (lines_text lines ++ tail_text t) [] few_more_rows few_more_jobs h.0 q
      (sym (append_assoc (line_text l) (lines_text lines) (tail_text t)) ∙ e ∙ sym (append-nil (tail_text u))))
  lines_tell (l ∷ lines) (m ∷ others) h k e =
      let cut = said_cut (inl l) (inl m) (lines_text lines ++ tail_text t) (lines_text others ++ tail_text u) (line_lacks n l h.0) (line_lacks n m k.0)
      (sym (said_behind (said_text (inl l)) (lines_text lines ++ tail_text t) (line_is_said l))
      ∙ sym (append_assoc (line_text l) (lines_text lines) (tail_text t)) ∙ e ∙ append_assoc (line_text m) (lines_text others) (tail_text u)
      ∙ said_behind (said_text (inl m)) (lines_text others ++ tail_text u) (line_is_said m)) in
      let first = line_tells n l m h.0 k.0 cut.1 cut.0 in
      let left = lines_tell lines others h.1 k.1 cut.2 in
      ((λ i. first i ∷ left.0 i), left.1)

-- ---- replies

pub one_reply : (n : ℕ) (a b : Reply) (text : List ℕ) → length text < 2 ^ 64 → IsWholeReply n a text → IsWholeReply n b text → a ≡ b
one_reply n a b text few u w =
    let few_a = few_counts a.key u.lines (tail_text a.tail) u.is_text few in
    let few_b = few_counts b.key w.lines (tail_text b.tail) w.is_text few in
    let same = lines_tell n a.tail b.tail (length (rows_in_lines u.lines)) (length (keys_in_lines u.lines)) few_a.0 few_a.1 u.tail
    (length (rows_in_lines w.lines)) (length (keys_in_lines w.lines)) few_b.0 few_b.1 w.tail u.lines w.lines u.fit w.fit bodies in
    let tail = tail_tells (length (rows_in_lines u.lines)) (length (keys_in_lines u.lines)) few_a.0 few_a.1 n a.tail b.tail u.tail
    (subst (λ (l : List ReplyLine). IsTailAt (length (rows_in_lines l)) (length (keys_in_lines l)) b.tail) (sym same.0) w.tail) same.1 in
    let rows = u.rows ∙ ap rows_in_lines same.0 ∙ sym w.rows in
    let keys = u.keys ∙ ap keys_in_lines same.0 ∙ sym w.keys in
    λ i. record { key = key i; rows = rows i; keys = keys i; tail = tail i }
  where
    heads : reply_head a.key ++ (lines_text u.lines ++ tail_text a.tail) ≡ reply_head b.key ++ (lines_text w.lines ++ tail_text b.tail)
    heads = sym u.is_text ∙ w.is_text

    key : a.key ≡ b.key
    key = other_head a.key b.key _ _ u.key w.key (head_is a.key (lines_text u.lines ++ tail_text a.tail) refl)
        (head_is b.key (lines_text w.lines ++ tail_text b.tail) heads)

    bodies : lines_text u.lines ++ tail_text a.tail ≡ lines_text w.lines ++ tail_text b.tail
    bodies = same_behind (reply_head a.key) _ _
        (heads ∙ ap (λ (k : List ℕ). reply_head k ++ (lines_text w.lines ++ tail_text b.tail)) (sym key))
