-- What a line of a reply says behind others: a row, a key or how the reply ends.
use Rattle.std.specs.Prelude.{◌≡◌, ◌⊎◌, ℕ, List, [], ◌∷◌, ◌++◌, Option, Some, None}
use Rattle.std.proofs.Common.{inl, inr}
use Rattle.poly_num.specs.Vectors.{Vector}
use Rattle.poly_model.specs.LabelText.{key_text}
use Rattle.poly_model.specs.ListingText.{entries_text}
use Rattle.work_core.specs.ReplyLines.{ReplyLine, row_line, job_line}
use Rattle.job_text.specs.declared.keyword.Keyword.{Keyword}
use Rattle.job_text.specs.declared.keyword.Keyword.TheVariants as keywords
use Rattle.job_text.specs.declared.said.Fit.{Fit}
use Rattle.job_text.specs.declared.said.Fit.TheVariants as fits
use Rattle.job_text.specs.declared.reply.Tail.{Tail}
use Rattle.job_text.specs.declared.reply.Tail.TheVariants as tails
use Rattle.job_text.specs.Keywords.{keyword_text}
use Rattle.row_printer.specs.OverflowText.{overflow_text}
use Rattle.job_text.specs.LineTexts.{IsReplyLine}
use Rattle.job_text.specs.Replies.{IsTailAt, end_words}

-- a line of a reply, or its last
abbrev pub Said : Type 0
Said = ReplyLine ⊎ Tail

-- what a fit says, where the row that was read has these entries
abbrev pub said_by : Vector → Fit → Option Said
said_by row fits.No = None
said_by row fits.Row = Some (inl (row_line row))
said_by row (fits.Job key) = Some (inl (job_line key))
said_by row (fits.Last tail) = Some (inr tail)

-- it may stand behind so many rows and jobs, in a reply for a file with rows of n numbers
abbrev pub MaySay : ℕ → ℕ → ℕ → Said → Type 0
MaySay n rows jobs (inl line) = IsReplyLine n line
MaySay n rows jobs (inr tail) = IsTailAt rows jobs tail

abbrev pub keyword_of : Said → Keyword
keyword_of (inl (row_line v)) = keywords.Row
keyword_of (inl (job_line key)) = keywords.Job
keyword_of (inr (tails.End count)) = keywords.End
keyword_of (inr (tails.Overflow o)) = keywords.Overflow
keyword_of (inr tails.Memory) = keywords.Memory

-- what stands behind its first word
abbrev pub behind_keyword : Said → List ℕ
behind_keyword (inl (row_line v)) = entries_text v
behind_keyword (inl (job_line key)) = 32 ∷ key_text key
behind_keyword (inr (tails.End count)) = end_words count
behind_keyword (inr (tails.Overflow o)) = 32 ∷ overflow_text o
behind_keyword (inr tails.Memory) = []

-- its line, without the LF
abbrev pub said_text : Said → List ℕ
said_text s = keyword_text (keyword_of s) ++ behind_keyword s

-- the same with this first word
abbrev pub MaySayAs : Keyword → ℕ → ℕ → ℕ → Said → Type 0
MaySayAs keyword n rows jobs s = MaySay n rows jobs s × (keyword_of s ≡ keyword)
