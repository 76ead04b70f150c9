-- The lines of a reply between its first and its last.
use Rattle.std.specs.Prelude.{◌≡◌, ℕ, length}
use Rattle.std.specs.List.{AllByRecursion}
use Rattle.poly_num.specs.Numbers.{IsNum}
use Rattle.poly_num.specs.Vectors.{IsPrimitive}
use Rattle.work_core.specs.ReplyLines.{ReplyLine, row_line, job_line}
use Rattle.job_text.specs.KeyTexts.{HasKeyText}

-- such a line, of a file with rows of n numbers
abbrev pub IsReplyLine : ℕ → ReplyLine → Type 0
IsReplyLine n (row_line v) = (length v ≡ n) × IsPrimitive v × AllByRecursion IsNum v
IsReplyLine n (job_line key) = HasKeyText key
