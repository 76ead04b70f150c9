-- What a reply is, as a text: the texts that are written for it, and no others.
use Rattle.std.specs.Prelude.{◌≡◌, ◌⊎◌, ℕ, ◌≤◌, ◌<◌, List, [], ◌∷◌, ◌++◌, length, codes, decimal}
use Rattle.std.specs.List.{AllByRecursion}
use Rattle.poly_model.specs.declared.listed.Count.{Count}
use Rattle.poly_model.specs.LabelText.{key_text}
use Rattle.row_printer.specs.OverflowText.{overflow_text}
use Rattle.work_core.specs.Splits.{most_bases}
use Rattle.work_core.specs.ReplyLines.{ReplyLine, lines_text, rows_in_lines, keys_in_lines}
use Rattle.job_text.specs.declared.reply.Reply.{Reply}
use Rattle.job_text.specs.declared.reply.Tail.{Tail}
use Rattle.job_text.specs.declared.reply.Tail.TheVariants.{End, Overflow, Memory}
use Rattle.job_text.specs.KeyTexts.{HasKeyText}
use Rattle.job_text.specs.LineTexts.{IsReplyLine}
use Rattle.job_text.specs.Overflows.{HasOverflowText}

-- the first line
abbrev pub reply_head : List ℕ → List ℕ
reply_head key = codes "reply " ++ (key_text key ++ 10 ∷ [])

-- the numbers of rows, jobs and bases, each behind one blank
abbrev pub end_words : Count → List ℕ
end_words count = 32 ∷ (decimal count.rows ++ (32 ∷ (decimal count.jobs ++ (32 ∷ decimal count.bases))))

-- the last line
abbrev pub tail_text : Tail → List ℕ
tail_text (End count) =
    codes "end " ++ (decimal count.rows ++ (codes " " ++ (decimal count.jobs ++ (codes " " ++ (decimal count.bases ++ 10 ∷ [])))))
tail_text (Overflow o) = codes "overflow " ++ (overflow_text o ++ 10 ∷ [])
tail_text Memory = codes "memory\n"

-- the numbers of `end`, behind so many rows and keys
pub record EndsAt (rows jobs : ℕ) (count : Count) : Type 0 where
  pub rows_are : count.rows ≡ rows
  pub jobs_are : count.jobs ≡ jobs
  pub some : 0 < count.bases
  pub most : count.bases ≤ most_bases

-- a last line behind so many rows and keys
abbrev pub IsTailAt : ℕ → ℕ → Tail → Type 0
IsTailAt rows jobs (End count) = EndsAt rows jobs count
IsTailAt rows jobs (Overflow o) = HasOverflowText o
IsTailAt rows jobs Memory = Unit {0}

-- a last line behind these lines
abbrev pub EndsLines : List ReplyLine → Tail → Type 0
EndsLines lines tail = IsTailAt (length (rows_in_lines lines)) (length (keys_in_lines lines)) tail

-- the text is this reply, whole, of a file with rows of n numbers
pub record IsWholeReply (n : ℕ) (reply : Reply) (text : List ℕ) : Type 0 where
  pub key : HasKeyText reply.key
  pub lines : List ReplyLine
  pub fit : AllByRecursion (IsReplyLine n) lines
  pub rows : reply.rows ≡ rows_in_lines lines
  pub keys : reply.keys ≡ keys_in_lines lines
  pub tail : EndsLines lines reply.tail
  pub is_text : text ≡ reply_head reply.key ++ (lines_text lines ++ tail_text reply.tail)

-- nothing, the first line and some lines behind it, or a whole reply of this key
abbrev pub IsReplyFront : ℕ → List ℕ → List ℕ → Type 0
IsReplyFront n key text =
    (text ≡ [])
    ⊎ (((lines : List ReplyLine) × HasKeyText key × AllByRecursion (IsReplyLine n) lines × (text ≡ reply_head key ++ lines_text lines))
    ⊎ ((reply : Reply) × (reply.key ≡ key) × IsWholeReply n reply text))

-- the text is no whole reply of this key, and so many of its bytes are lines, from the first, that fit
pub record IsNotWhole (n : ℕ) (key text : List ℕ) (place : ℕ) : Type 0 where
  pub not_whole : (reply : Reply) → reply.key ≡ key → IsWholeReply n reply text → ⊥
  pub front : List ℕ
  pub rest : List ℕ
  pub split : text ≡ front ++ rest
  pub fits : IsReplyFront n key front
  pub count : length front ≡ place
  pub longest : (longer behind : List ℕ) → text ≡ longer ++ behind → IsReplyFront n key longer → length longer ≤ place
