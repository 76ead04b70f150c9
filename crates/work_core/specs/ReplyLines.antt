-- The lines of a reply that show a row or give a key back, and what a run that wrote some may have done.
use Rattle.std.specs.Prelude.{◌≡◌, ℕ, List, [], ◌∷◌, ◌++◌, length, Option, codes}
use Rattle.std.specs.List.{flat_map, AllByRecursion}
use Rattle.std.specs.Io.KnownBytes.{Appends}
use Rattle.poly_num.specs.Numbers.{IsNum}
use Rattle.poly_num.specs.Vectors.{Vector}
use Rattle.poly_model.specs.declared.listed.Count.{Count}
use Rattle.poly_model.specs.Keys.{IsKey}
use Rattle.poly_model.specs.LabelText.{key_text}
use Rattle.poly_model.specs.ListingText.{vector_text}
use Rattle.poly_io.specs.Written.{AppendsPart}
use Rattle.work_core.specs.declared.budget.Budget.{Budget}
use Rattle.work_core.specs.Meanings.{Meaning}
use Rattle.work_core.specs.Outcomes.{IsOutcome}
use Rattle.work_core.specs.Splits.{Splits, IsWithinBudget, AreWithin}

pub data ReplyLine : Type 0 where
  row_line : Vector → ReplyLine
  job_line : List ℕ → ReplyLine

abbrev pub row_line_text : Vector → List ℕ
row_line_text v = codes "row" ++ vector_text v

abbrev pub job_line_text : List ℕ → List ℕ
job_line_text key = codes "job " ++ (key_text key ++ 10 ∷ [])

abbrev pub line_text : ReplyLine → List ℕ
line_text (row_line v) = row_line_text v
line_text (job_line key) = job_line_text key

abbrev pub lines_text : List ReplyLine → List ℕ
lines_text lines = flat_map line_text lines

-- a line of what a program has in hand: numbers of 127 bits and a sign, a key
abbrev pub IsInHand : ReplyLine → Type 0
IsInHand (row_line v) = AllByRecursion IsNum v
IsInHand (job_line key) = IsKey key

-- such lines were written; or first bytes of them
pub record WritesLines (old new : Option (List ℕ)) (lines : List ReplyLine) : Type 0 where
  pub bytes : Appends old new (lines_text lines)
  pub in_hand : AllByRecursion IsInHand lines

pub record WritesPartOfLines (old new : Option (List ℕ)) (lines : List ReplyLine) : Type 0 where
  pub bytes : AppendsPart old new (lines_text lines)
  pub in_hand : AllByRecursion IsInHand lines

-- the rows shown
abbrev pub rows_in_lines : List ReplyLine → List Vector
rows_in_lines [] = []
rows_in_lines (row_line v ∷ lines) = v ∷ rows_in_lines lines
rows_in_lines (job_line key ∷ lines) = rows_in_lines lines

-- the keys given back
abbrev pub keys_in_lines : List ReplyLine → List (List ℕ)
keys_in_lines [] = []
keys_in_lines (row_line v ∷ lines) = keys_in_lines lines
keys_in_lines (job_line key ∷ lines) = key ∷ keys_in_lines lines

module _ (work : Meaning) (key : List ℕ) where
  -- a run that ended: its lines were written, they tell the outcome of the job and so split the share, and their numbers are
  -- told
  pub record IsWholeRun (budget : Budget) (old new : Option (List ℕ)) (count : Count) : Type 0 where
    pub lines : List ReplyLine
    pub written : WritesLines old new lines
    pub splits : Splits work key (rows_in_lines lines) (keys_in_lines lines)
    pub budgeted : IsWithinBudget work key budget (keys_in_lines lines) count.bases
    pub rows : count.rows ≡ length (rows_in_lines lines)
    pub jobs : count.jobs ≡ length (keys_in_lines lines)
    pub outcome : IsOutcome work key budget (rows_in_lines lines) (keys_in_lines lines) count.bases

  -- a run that stopped between two lines
  pub record IsCutRun (old new : Option (List ℕ)) : Type 0 where
    pub lines : List ReplyLine
    pub written : WritesLines old new lines
    pub within : AreWithin work key (rows_in_lines lines) (keys_in_lines lines)

  -- a run that stopped anywhere
  pub record IsTornRun (old new : Option (List ℕ)) : Type 0 where
    pub lines : List ReplyLine
    pub written : WritesPartOfLines old new lines
    pub within : AreWithin work key (rows_in_lines lines) (keys_in_lines lines)
