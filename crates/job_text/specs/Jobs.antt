-- What a job text is: six lines, and the file of a polyhedron behind them.
use Rattle.std.specs.Prelude.{◌≡◌, ◌≢◌, ◌⊎◌, ℕ, ◌+◌, ◌≤◌, List, [], ◌∷◌, ◌++◌, length, codes, decimal, Some}
use Rattle.plain_text.specs.Digits.{decimal_of}
use Rattle.poly_model.specs.declared.kind.WorkKind.{WorkKind}
use Rattle.poly_model.specs.declared.kind.WorkKind.TheVariants.{Subsets, Subtrees}
use Rattle.poly_model.specs.LabelText.{key_text}
use Rattle.poly_reader.specs.declared.bad.BadFile.{BadFile}
use Rattle.poly_reader.specs.Reading.{IsFirstFault, IsOfItsText}
use Rattle.work_core.specs.Splits.{most_bases, most_depth, IsBudget}
use Rattle.job_text.specs.declared.job.Job.{Job}
use Rattle.job_text.specs.declared.job.JobHead.{JobHead}
use Rattle.job_text.specs.KeyTexts.{HasKeyText}

-- ---- the lines, without their LF

abbrev pub work_name : WorkKind → List ℕ
work_name Subsets = codes "subsets"
work_name Subtrees = codes "subtrees"

abbrev pub work_line : WorkKind → List ℕ
work_line work = codes "lrs-job 1 " ++ work_name work

abbrev pub root_line : List ℕ → List ℕ
root_line key = codes "root " ++ key_text key

abbrev pub key_line : List ℕ → List ℕ
key_line key = codes "key " ++ key_text key

abbrev pub bases_line : ℕ → List ℕ
bases_line bases = codes "bases " ++ decimal bases

abbrev pub depth_line : ℕ → List ℕ
depth_line depth = codes "depth " ++ decimal depth

-- the digits say how many bytes the file has
abbrev pub input_line : List ℕ → List ℕ
input_line digits = codes "input " ++ digits

-- a file behind the line that says how many bytes it has
abbrev pub sized : List ℕ → List ℕ
sized file = input_line (decimal (length file)) ++ 10 ∷ file

-- the first five lines, and a text behind them
abbrev pub five_lines : JobHead → List ℕ → List ℕ
five_lines head rest =
    work_line head.work ++ 10 ∷ (root_line head.root.key ++ 10 ∷ (key_line head.key ++ 10 ∷ (bases_line head.budget.bases
    ++ 10 ∷ (depth_line head.budget.depth ++ 10 ∷ rest))))

-- all six, and the file
abbrev pub text_of_job : JobHead → List ℕ → List ℕ
text_of_job head file = five_lines head (sized file)

-- a head whose lines are read again
pub record HasHeadText (head : JobHead) : Type 0 where
  pub root : HasKeyText head.root.key
  pub key : HasKeyText head.key
  pub budget : IsBudget head.budget

-- the text is this job's
pub record IsJobText (job : Job) (text : List ℕ) : Type 0 where
  pub head : HasHeadText job.head
  pub file : IsOfItsText job.poly
  pub is_text : text ≡ text_of_job job.head job.poly.text

-- ---- what is wrong with a text

pub data JobLine : Type 0 where
  first_line : JobLine
  second_line : JobLine
  third_line : JobLine
  fourth_line : JobLine
  fifth_line : JobLine
  sixth_line : JobLine

abbrev pub job_lines : List JobLine
job_lines = first_line ∷ second_line ∷ third_line ∷ fourth_line ∷ fifth_line ∷ sixth_line ∷ []

-- the texts that a line may have
abbrev pub HasForm : JobLine → List ℕ → Type 0
HasForm first_line line = (work : WorkKind) × (line ≡ work_line work)
HasForm second_line line = (key : List ℕ) × HasKeyText key × (line ≡ root_line key)
HasForm third_line line = (key : List ℕ) × HasKeyText key × (line ≡ key_line key)
HasForm fourth_line line = (bases : ℕ) × (1 ≤ bases) × (bases ≤ most_bases) × (line ≡ bases_line bases)
HasForm fifth_line line = (depth : ℕ) × (depth ≤ most_depth) × (line ≡ depth_line depth)
HasForm sixth_line line = (digits : List ℕ) × (size : ℕ) × (decimal_of digits ≡ Some size) × (line ≡ input_line digits)

-- lines of these forms stand in front of a text, and this is what stands behind them
abbrev pub BeginsWithLines : List JobLine → List ℕ → List ℕ → Type 0
BeginsWithLines [] text rest = text ≡ rest
BeginsWithLines (form ∷ forms) text rest =
    (line : List ℕ) × (behind : List ℕ) × HasForm form line × (text ≡ line ++ 10 ∷ behind) × BeginsWithLines forms behind rest

-- the lines before this number have their forms, and this one has not
pub record IsBadLine (text : List ℕ) (place : ℕ) : Type 0 where
  pub before : List JobLine
  pub form : JobLine
  pub after : List JobLine
  pub lines : job_lines ≡ before ++ form ∷ after
  pub number : place ≡ length before + 1
  pub rest : List ℕ
  pub begins : BeginsWithLines before text rest
  pub bad : (line behind : List ℕ) → HasForm form line → rest ≡ line ++ 10 ∷ behind → ⊥

-- the six lines have their forms, but what stands behind them has not the size that they say, or is no polyhedron
pub record IsBadInput (text : List ℕ) : Type 0 where
  pub rest : List ℕ
  pub begins : BeginsWithLines (first_line ∷ second_line ∷ third_line ∷ fourth_line ∷ fifth_line ∷ []) text rest
  pub digits : List ℕ
  pub size : ℕ
  pub file : List ℕ
  pub says : decimal_of digits ≡ Some size
  pub split : rest ≡ input_line digits ++ 10 ∷ file
  pub bad : (length file ≢ size) ⊎ ((fault : BadFile) × IsFirstFault file fault)

-- the text is no job: the first line that is wrong, and 7 for the file behind them
abbrev pub IsBadText : List ℕ → ℕ → Type 0
IsBadText text place = IsBadLine text place ⊎ ((place ≡ 7) × IsBadInput text)
