-- Where the lines of a reply behind its head end, or stop to fit.
use Rattle.std.specs.Prelude.{◌≡◌, ◌≢◌, ◌⊎◌, ◌+◌, ◌^◌, ◌<◌, ℕ, List, [], ◌∷◌, ◌++◌, length}
use Rattle.std.specs.List.{AllByRecursion}
use Rattle.work_core.specs.ReplyLines.{ReplyLine, lines_text, rows_in_lines, keys_in_lines}
use Rattle.job_text.specs.declared.reply.Tail.{Tail}
use Rattle.job_text.specs.declared.scan.Scan.{Scan}
use Rattle.job_text.specs.LineTexts.{IsReplyLine}
use Rattle.job_text.specs.Replies.{EndsLines, tail_text}
use Rattle.job_text.specs.Fits.{Said, MaySay, said_text}

-- so far these lines fit, in front of this rest; so many rows and these keys are what they say
pub record Scanned (n : ℕ) (text rest : List ℕ) (rows : ℕ) (keys : List (List ℕ)) (place : ℕ) : Type 0 where
  pub lines : List ReplyLine
  pub fit : AllByRecursion (IsReplyLine n) lines
  pub split : text ≡ lines_text lines ++ rest
  pub rows_are : rows ≡ length (rows_in_lines lines)
  pub keys_are : keys ≡ keys_in_lines lines
  -- how many bytes they have
  pub size : place ≡ length (lines_text lines)

-- these lines and a last one behind them are the whole text
pub record IsScanOf (n : ℕ) (text : List ℕ) (scan : Scan) : Type 0 where
  pub lines : List ReplyLine
  pub fit : AllByRecursion (IsReplyLine n) lines
  pub split : text ≡ lines_text lines ++ tail_text scan.tail
  pub front : scan.front.now ≡ lines_text lines
  pub rows_are : scan.rows ≡ length (rows_in_lines lines)
  pub keys_are : scan.keys ≡ keys_in_lines lines
  pub ends : EndsLines lines scan.tail

-- the lines that fit end here, behind so many bytes: nothing that may follow stands in front of the rest, or more stands
-- behind a last line
pub record StopsScanAt (n : ℕ) (text : List ℕ) (place : ℕ) : Type 0 where
  pub lines : List ReplyLine
  pub rest : List ℕ
  pub fit : AllByRecursion (IsReplyLine n) lines
  pub split : text ≡ lines_text lines ++ rest
  pub few : (length (rows_in_lines lines) < 2 ^ 64) × (length (keys_in_lines lines) < 2 ^ 64)
  pub stop :
      ((place ≡ length (lines_text lines)) × ((s : Said) (more : List ℕ)
      → MaySay n (length (rows_in_lines lines)) (length (keys_in_lines lines)) s → rest ≡ said_text s ++ 10 ∷ more → ⊥))
      ⊎ ((tail : Tail) × (behind : List ℕ) × EndsLines lines tail × (rest ≡ tail_text tail ++ behind) × (behind ≢ [])
      × (place ≡ length (lines_text lines) + length (tail_text tail)))
