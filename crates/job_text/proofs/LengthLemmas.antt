-- A job text is short: its six lines have at most 8192 bytes, and its file no more than a file may have.
use Rattle.std.proofs.Common.{◌≡◌, ◌≤◌, ◌+◌, ◌*◌, ℕ, List, [], ◌∷◌, ◌++◌, length, sym, ap, ◌∙◌, subst, arith, inl, inr, Result, Ok, Err, length-append}
use Rattle.std.specs.Prelude.{codes, decimal}
use Rattle.std.specs.List.{AllByRecursion}
use Rattle.std.proofs.lemmas.Bool.{cases_lt}
use Rattle.std.proofs.lemmas.Fmt.{length-decimal-le}
use Rattle.poly_model.specs.declared.kind.WorkKind.{WorkKind}
use Rattle.poly_model.specs.declared.kind.WorkKind.TheVariants.{Subsets, Subtrees}
use Rattle.poly_model.specs.Labels.{coordinate_index}
use Rattle.poly_model.specs.LabelText.{label_text, labels_text, key_text}
use Rattle.poly_model.specs.Systems.{Polyhedron}
use Rattle.poly_reader.specs.declared.bad.BadFile.{BadFile}
use Rattle.poly_reader.specs.Limits.{most_file_bytes}
use Rattle.poly_reader.specs.Reading.{IsFileOf}
use Rattle.poly_reader.proofs.LongTexts.{too_long}
use Rattle.job_text.specs.declared.job.Job.{Job}
use Rattle.job_text.specs.Jobs.{work_line, root_line, key_line, bases_line, depth_line, input_line, IsJobText}
use Rattle.job_text.specs.KeyTexts.{IsKeyLabel, HasKeyText}
use Rattle.job_text.specs.Limits.{most_job_bytes}
use Rattle.job_text.proofs.LabelLemmas.{LabelCase, extra, row, coordinate, label_case, row_label_text, coordinate_label_text}

-- ---- keys

label_is_short : (l : ℕ) → IsKeyLabel l → length (label_text l) ≤ 5
label_is_short l label = by (label_case l)
  where
    by : LabelCase l → length (label_text l) ≤ 5
    by (extra e) = rw e (omega arith)
    by (row some lt) =
        rw (row_label_text l some lt) (omega (arith, length-decimal-le 4 l (omega arith) (omega (arith, lt)) (omega (arith, lt))))
    by (coordinate from) =
        rw (coordinate_label_text l from label)
        (omega (arith, length-decimal-le 4 (coordinate_index l) (omega arith) (omega (arith, label, from)) (omega (arith, label, from))))

labels_are_short : (labels : List ℕ) → AllByRecursion IsKeyLabel labels → length (labels_text labels) ≤ 6 * length labels
unfolding labels_text
labels_are_short [] h = omega arith
labels_are_short (l ∷ labels) h =
    omega (arith, label_is_short l h.0, labels_are_short labels h.1, length-append (label_text l) (labels_text labels))

key_is_short : (key : List ℕ) → HasKeyText key → length (key_text key) ≤ 3075
key_is_short key h =
    omega (
      arith,
      h.is_key.room,
      labels_are_short key h.labels,
      length-decimal-le 3 (length key) (omega arith) (omega (arith, h.is_key.room)) (omega (arith, h.is_key.room)),
      length-append (decimal (length key)) (labels_text key),
    )

-- ---- the file

-- a polyhedron was read
abbrev pub IsTold : Result Polyhedron BadFile → Type 0
IsTold (Ok p) = Unit {0}
IsTold (Err f) = ⊥

pub file_is_short : (text : List ℕ) (p : Polyhedron) → IsFileOf text p → length text ≤ most_file_bytes
file_is_short text p h = elim (cases_lt most_file_bytes (length text)) [
  | inl lt ↦ absurd (subst IsTold (sym h ∙ too_long text lt) tt)
  | inr le ↦ le
]

-- ---- the lines

work_is_short : (work : WorkKind) → length (work_line work) ≤ 18
work_is_short Subsets = omega arith
work_is_short Subtrees = omega arith

length_of_line : (line rest : List ℕ) → length (line ++ 10 ∷ rest) ≡ length line + 1 + length rest
length_of_line line rest = omega (arith, length-append line (10 ∷ rest))

-- a job text has no more bytes than this
pub job_is_short : (job : Job) (text : List ℕ) → IsJobText job text → length text ≤ most_job_bytes
job_is_short job text h =
    let head = job.head in
    let file = job.poly.text in
    let bases = head.budget.bases in
    let depth = head.budget.depth in
    let short = file_is_short file job.poly h.file in
    let sixth = input_line (decimal (length file)) ++ 10 ∷ file in
    let fifth = depth_line depth ++ 10 ∷ sixth in
    let fourth = bases_line bases ++ 10 ∷ fifth in
    let third = key_line head.key ++ 10 ∷ fourth in
    let second = root_line head.root.key ++ 10 ∷ third in
    omega (
      arith,
      ap (λ (l : List ℕ). length l) h.is_text,
      length_of_line (work_line head.work) second,
      length_of_line (root_line head.root.key) third,
      length_of_line (key_line head.key) fourth,
      length_of_line (bases_line bases) fifth,
      length_of_line (depth_line depth) sixth,
      length_of_line (input_line (decimal (length file))) file,
      work_is_short head.work,
      key_is_short head.root.key h.head.root,
      key_is_short head.key h.head.key,
      length-decimal-le 13 bases (omega arith) (omega (arith, h.head.budget.bases)) (omega (arith, h.head.budget.bases)),
      length-decimal-le 7 depth (omega arith) (omega (arith, h.head.budget.depth)) (omega (arith, h.head.budget.depth)),
      length-decimal-le 8 (length file) (omega arith) (omega (arith, short)) (omega (arith, short)),
      length-append (codes "root ") (key_text head.root.key),
      length-append (codes "key ") (key_text head.key),
      length-append (codes "bases ") (decimal bases),
      length-append (codes "depth ") (decimal depth),
      length-append (codes "input ") (decimal (length file)),
      short,
    )
