-- How far a text is a reply, from where its lines stop.
use Rattle.std.proofs.Common.{◌≡◌, ◌≢◌, ◌≤◌, ◌+◌, ℕ, List, [], ◌∷◌, ◌++◌, length, refl, sym, ap, ◌∙◌, subst, inl, inr, arith, append_assoc, append-nil, length-append}
use Rattle.std.specs.Prelude.{codes}
use Rattle.std.specs.List.{AllByRecursion}
use Rattle.poly_model.specs.LabelText.{key_text}
use Rattle.work_core.specs.ReplyLines.{ReplyLine, line_text, lines_text, rows_in_lines, keys_in_lines}
use Rattle.job_text.specs.KeyTexts.{HasKeyText}
use Rattle.job_text.specs.LineTexts.{IsReplyLine}
use Rattle.job_text.specs.Replies.{IsTailAt, EndsLines, IsWholeReply, IsReplyFront, IsNotWhole, reply_head, tail_text}
use Rattle.job_text.specs.declared.reply.Reply.{Reply}
use Rattle.job_text.specs.declared.reply.Tail.{Tail}
use Rattle.job_text.specs.Fits.{said_text}
use Rattle.job_text.specs.Scans.{StopsScanAt}
use Rattle.job_text.proofs.JobLineLemmas.{same_behind, word_and_key_lack}
use Rattle.plain_text.specs.Cuts.{Lacks}
use Rattle.plain_text.proofs.CutLemmas.{one_line, lacks_tested}
use Rattle.job_text.proofs.KeyTextLemmas.{key_front_tells}
use Rattle.job_text.proofs.ReplyLemmas.{line_is_said, tail_is_said, said_behind, said_lacks, said_cut, line_or_tail, compare_lines, GoesOn}

-- ---- behind the head

module _ (n : ℕ) (body : List ℕ) (place : ℕ) (s : StopsScanAt n body place) where
  rows_before : ℕ
  rows_before = length (rows_in_lines s.lines)

  nothing_goes_on : GoesOn n s.rest → ⊥
  nothing_goes_on g = elim s.stop [
    | inl k ↦ k.1 (inl g.line) g.more g.fit (g.is ∙ said_behind (said_text (inl g.line)) g.more (line_is_said g.line))
    | inr k ↦
        let (tail, behind, ends, is, some, at) = k in
        line_or_tail n (length (rows_in_lines s.lines)) (length (keys_in_lines s.lines)) g.line tail g.more behind s.few.0 s.few.1 g.fit ends
        (sym g.is ∙ is)
  ]

  -- lines in front of it end by the place
  pub lines_end : (others : List ReplyLine) (behind : List ℕ) → AllByRecursion (IsReplyLine n) others → body ≡ lines_text others ++ behind
      → length (lines_text others) ≤ place
  lines_end others behind fit is = elim (compare_lines n s.lines others s.rest behind s.fit fit (sym s.split ∙ is)) [
    | inl g ↦ absurd (nothing_goes_on g)
    | inr k ↦ elim s.stop [
      | inl a ↦ omega (arith, a.0, k.size)
      | inr b ↦ let (tail, more, ends, rest_is, some, at) = b in omega (arith, at, k.size)
    ]
  ]

  -- a reply that ends in front of it ends by the place, and something stands behind it
  pub reply_ends : (others : List ReplyLine) (tail : Tail) (behind : List ℕ) → AllByRecursion (IsReplyLine n) others → EndsLines others tail
      → body ≡ lines_text others ++ (tail_text tail ++ behind)
      → (length (lines_text others) + length (tail_text tail) ≤ place) × (behind ≢ [])
  reply_ends others tail behind fit ends is =
      elim (compare_lines n s.lines others s.rest (tail_text tail ++ behind) s.fit fit (sym s.split ∙ is)) [
        | inl g ↦ absurd (nothing_goes_on g)
        | inr k ↦ by k.left k.fit k.is k.size k.rows k.keys
      ]
    where
      by : (left : List ReplyLine) → AllByRecursion (IsReplyLine n) left → tail_text tail ++ behind ≡ lines_text left ++ s.rest
          → length (lines_text others) + length (lines_text left) ≡ length (lines_text s.lines)
          → length (rows_in_lines others) + length (rows_in_lines left) ≡ length (rows_in_lines s.lines)
          → length (keys_in_lines others) + length (keys_in_lines left) ≡ length (keys_in_lines s.lines)
          → (length (lines_text others) + length (tail_text tail) ≤ place) × (behind ≢ [])
      by (l ∷ left) fits e size rows keys =
          absurd (line_or_tail n (length (rows_in_lines others)) (length (keys_in_lines others)) l tail (lines_text left ++ s.rest) behind
          (omega (arith, s.few.0, rows)) (omega (arith, s.few.1, keys)) fits.0 ends
          (sym (append_assoc (line_text l) (lines_text left) s.rest) ∙ sym e))
      by [] fits e size rows keys =
          let same_rows : length (rows_in_lines others) ≡ length (rows_in_lines s.lines) = omega (arith, rows) in
          let same_keys : length (keys_in_lines others) ≡ length (keys_in_lines s.lines) = omega (arith, keys) in
          let may : IsTailAt (length (rows_in_lines s.lines)) (length (keys_in_lines s.lines)) tail =
          subst (λ (k : ℕ). IsTailAt k (length (keys_in_lines s.lines)) tail) same_rows
          (subst (λ (k : ℕ). IsTailAt (length (rows_in_lines others)) k tail) same_keys ends) in
          let here : s.rest ≡ said_text (inr tail) ++ 10 ∷ behind = sym e ∙ said_behind (said_text (inr tail)) behind (tail_is_said tail) in
          elim s.stop [
            | inl a ↦ absurd (a.1 (inr tail) behind may here)
            | inr b ↦
                let (other, more, other_ends, rest_is, some, at) = b in
                let lacks = said_lacks n (length (rows_in_lines s.lines)) (length (keys_in_lines s.lines)) in
                let cut = said_cut (inr tail) (inr other) behind more (lacks (inr tail) s.few.0 s.few.1 may)
                (lacks (inr other) s.few.0 s.few.1 other_ends)
                (sym here ∙ rest_is ∙ said_behind (said_text (inr other)) more (tail_is_said other)) in
                let sizes : length (tail_text tail) ≡ length (tail_text other) =
                ap (λ (t : List ℕ). length t) (tail_is_said tail ∙ ap (λ (t : List ℕ). t ++ 10 ∷ []) cut.0 ∙ sym (tail_is_said other)) in
                (omega (arith, at, size, sizes), λ none. some (sym cut.2 ∙ none))
          ]

-- ---- the whole text

reply_split : (key behind lines tail : List ℕ) → (reply_head key ++ (lines ++ tail)) ++ behind ≡ reply_head key ++ (lines ++ (tail ++ behind))
reply_split key behind lines tail =
    append_assoc (reply_head key) (lines ++ tail) behind ∙ ap (λ (l : List ℕ). reply_head key ++ l) (append_assoc lines tail behind)

pub not_whole : (n : ℕ) (key text body : List ℕ) (place : ℕ) → HasKeyText key → text ≡ reply_head key ++ body → StopsScanAt n body place
    → IsNotWhole n key text (length (reply_head key) + place)
not_whole n key text body place has is s = record {
  not_whole = λ reply same whole. refused reply same whole;
  front = front.0;
  rest = front.1;
  split = front.2;
  fits = front.3;
  count = front.4;
  longest = λ longer behind parts fits. bounded longer behind parts fits;
}
  where
    body_is : (x : List ℕ) → text ≡ reply_head key ++ x → body ≡ x
    body_is x e = same_behind (reply_head key) body x (sym is ∙ e)

    refused : (reply : Reply) → reply.key ≡ key → IsWholeReply n reply text → ⊥
    refused reply same w =
        let e : text ≡ reply_head key ++ (lines_text w.lines ++ (tail_text reply.tail ++ [])) =
        w.is_text ∙ ap (λ (k : List ℕ). reply_head k ++ (lines_text w.lines ++ tail_text reply.tail)) same
        ∙ ap (λ (t : List ℕ). reply_head key ++ (lines_text w.lines ++ t)) (sym (append-nil (tail_text reply.tail))) in
        (reply_ends n body place s w.lines reply.tail [] w.fit w.tail (body_is _ e)).1 refl

    bounded : (longer behind : List ℕ) → text ≡ longer ++ behind → IsReplyFront n key longer → length longer ≤ length (reply_head key) + place
    bounded longer behind parts (inl none) = omega (arith, ap (λ (l : List ℕ). length l) none)
    bounded longer behind parts (inr (inl (lines, has, fit, e))) =
        let whole : text ≡ reply_head key ++ (lines_text lines ++ behind) =
        parts ∙ ap (λ (l : List ℕ). l ++ behind) e ∙ append_assoc (reply_head key) (lines_text lines) behind in
        let le = lines_end n body place s lines behind fit (body_is _ whole) in
        omega (arith, ap (λ (l : List ℕ). length l) e, length-append (reply_head key) (lines_text lines), le)
    bounded longer behind parts (inr (inr (reply, same, w))) =
        let e : longer ≡ reply_head key ++ (lines_text w.lines ++ tail_text reply.tail) =
        w.is_text ∙ ap (λ (k : List ℕ). reply_head k ++ (lines_text w.lines ++ tail_text reply.tail)) same in
        let whole : text ≡ reply_head key ++ (lines_text w.lines ++ (tail_text reply.tail ++ behind)) =
        parts ∙ ap (λ (l : List ℕ). l ++ behind) e ∙ reply_split key behind (lines_text w.lines) (tail_text reply.tail) in
        let le = (reply_ends n body place s w.lines reply.tail behind w.fit w.tail (body_is _ whole)).0 in
        omega (
          arith,
          ap (λ (l : List ℕ). length l) e,
          length-append (reply_head key) (lines_text w.lines ++ tail_text reply.tail),
          length-append (lines_text w.lines) (tail_text reply.tail),
          le,
        )

    front : (front : List ℕ) × (rest : List ℕ) × (text ≡ front ++ rest) × IsReplyFront n key front × (length front ≡ length (reply_head key) + place)
    front = elim s.stop [
      | inl a ↦ (
        reply_head key ++ lines_text s.lines,
        s.rest,
        is ∙ ap (λ (l : List ℕ). reply_head key ++ l) s.split ∙ sym (append_assoc (reply_head key) (lines_text s.lines) s.rest),
        inr (inl (s.lines, has, s.fit, refl)),
        omega (arith, length-append (reply_head key) (lines_text s.lines), a.0),
      )
      | inr b ↦
          let (tail, behind, ends, rest_is, some, at) = b in
          let reply : Reply = record { key = key; rows = rows_in_lines s.lines; keys = keys_in_lines s.lines; tail = tail } in (
            reply_head key ++ (lines_text s.lines ++ tail_text tail),
            behind,
            is ∙ ap (λ (l : List ℕ). reply_head key ++ l) (s.split ∙ ap (λ (l : List ℕ). lines_text s.lines ++ l) rest_is)
                ∙ sym (reply_split key behind (lines_text s.lines) (tail_text tail)),
            inr (inr (
              reply,
              refl,
              record {
                key = has;
                lines = s.lines;
                fit = s.fit;
                rows = refl;
                keys = refl;
                tail = ends;
                is_text = refl;
              },
            )),
            omega (
              arith,
              length-append (reply_head key) (lines_text s.lines ++ tail_text tail),
              length-append (lines_text s.lines) (tail_text tail),
              at,
            ),
          )
    ]

-- ---- without the head

pub no_head : (n : ℕ) (key text : List ℕ) → ((more : List ℕ) → HasKeyText key → text ≡ reply_head key ++ more → ⊥) → IsNotWhole n key text 0
no_head n key text none = record {
  not_whole = λ reply same w.
      none _ (subst HasKeyText same w.key)
      (w.is_text ∙ ap (λ (k : List ℕ). reply_head k ++ (lines_text w.lines ++ tail_text reply.tail)) same);
  front = [];
  rest = text;
  split = refl;
  fits = inl refl;
  count = refl;
  longest = λ longer behind parts fits. bounded longer behind parts fits;
}
  where
    bounded : (longer behind : List ℕ) → text ≡ longer ++ behind → IsReplyFront n key longer → length longer ≤ 0
    bounded longer behind parts (inl e) = omega (arith, ap (λ (l : List ℕ). length l) e)
    bounded longer behind parts (inr (inl (lines, has, fit, e))) =
        absurd (none (lines_text lines ++ behind) has
        (parts ∙ ap (λ (l : List ℕ). l ++ behind) e ∙ append_assoc (reply_head key) (lines_text lines) behind))
    bounded longer behind parts (inr (inr (reply, same, w))) =
        absurd (none (lines_text w.lines ++ (tail_text reply.tail ++ behind)) (subst HasKeyText same w.key)
        (parts ∙ ap (λ (l : List ℕ). l ++ behind)
        (w.is_text ∙ ap (λ (k : List ℕ). reply_head k ++ (lines_text w.lines ++ tail_text reply.tail)) same)
        ∙ reply_split key behind (lines_text w.lines) (tail_text reply.tail)))

-- the lines do not stop past the text
pub stop_within : (n : ℕ) (body : List ℕ) (place : ℕ) → StopsScanAt n body place → place ≤ length body
stop_within n body place s = elim s.stop [
  | inl a ↦ omega (arith, a.0, ap (λ (l : List ℕ). length l) s.split, length-append (lines_text s.lines) s.rest)
  | inr b ↦
      let (tail, behind, ends, rest_is, some, at) = b in
      omega (
        arith,
        at,
        ap (λ (l : List ℕ). length l) s.split,
        length-append (lines_text s.lines) s.rest,
        ap (λ (l : List ℕ). length l) rest_is,
        length-append (tail_text tail) behind,
      )
]

-- ---- the head

pub head_is : (key more : List ℕ) {text : List ℕ} → text ≡ reply_head key ++ more → text ≡ (codes "reply " ++ key_text key) ++ 10 ∷ more
head_is key more e = e ∙ append_assoc (codes "reply " ++ key_text key) (10 ∷ []) more

pub head_from : (key more : List ℕ) {text : List ℕ} → text ≡ (codes "reply " ++ key_text key) ++ 10 ∷ more → text ≡ reply_head key ++ more
head_from key more e = e ∙ sym (append_assoc (codes "reply " ++ key_text key) (10 ∷ []) more)

pub other_head : (a b rest more : List ℕ) {text : List ℕ} → HasKeyText a → HasKeyText b → text ≡ (codes "reply " ++ key_text a) ++ 10 ∷ rest
    → text ≡ (codes "reply " ++ key_text b) ++ 10 ∷ more → a ≡ b
other_head a b rest more p q is same =
    let word : Lacks 10 (codes "reply ") = lacks_tested 10 (codes "reply ") refl in
    let cut = one_line (codes "reply " ++ key_text a) rest (codes "reply " ++ key_text b) more
    (word_and_key_lack (codes "reply ") a word p) (word_and_key_lack (codes "reply ") b word q) (sym is ∙ same) in
    (key_front_tells a b [] [] p.is_key.room q.is_key.room p.labels q.labels tt tt
    (append-nil (key_text a) ∙ same_behind (codes "reply ") (key_text a) (key_text b) cut.0 ∙ sym (append-nil (key_text b)))).0
