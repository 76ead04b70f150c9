-- What is left of a reply whose rows are taken one by one.
use Rattle.std.specs.Prelude.{◌≡◌, ℕ, List, [], ◌∷◌, ◌++◌, length}
use Rattle.std.specs.List.{AllByRecursion}
use Rattle.poly_num.specs.Numbers.{IsNum}
use Rattle.poly_num.specs.Vectors.{Vector}
use Rattle.poly_model.specs.declared.listed.Count.{Count}
use Rattle.plain_text.specs.Cuts.{GoesOnWith}
use Rattle.poly_model.specs.ListingText.{vector_text}
use Rattle.work_core.specs.ReplyLines.{ReplyLine, lines_text, rows_in_lines}
use Rattle.job_text.specs.declared.reply.Tail.TheVariants.{End}
use Rattle.job_text.specs.LineTexts.{IsReplyLine}
use Rattle.job_text.specs.Replies.{tail_text}

-- the text is lines that show these rows of n numbers, and behind them an `end`
pub record LeavesRows (n : ℕ) (rows : List Vector) (text : List ℕ) : Type 0 where
  pub lines : List ReplyLine
  pub fit : AllByRecursion (IsReplyLine n) lines
  pub rows_are : rows ≡ rows_in_lines lines
  pub count : Count
  pub is_text : text ≡ lines_text lines ++ tail_text (End count)

-- this is the line of a listing that has the entries of the first of the rows, and the others are left
pub record TakesRow (n : ℕ) (rows : List Vector) (line rest : List ℕ) : Type 0 where
  pub row : Vector
  pub width : length row ≡ n
  pub nums : AllByRecursion IsNum row
  pub is_text : line ≡ vector_text row
  pub others : List Vector
  pub first : rows ≡ row ∷ others
  pub left : LeavesRows n others rest

-- the text is empty or has a blank in front, but for its line feed at the end
pub record IsEntryLine (line : List ℕ) : Type 0 where
  pub entries : List ℕ
  pub whole : line ≡ entries ++ 10 ∷ []
  pub blank : GoesOnWith 32 entries
