-- A job text is one job.
use Rattle.std.proofs.Common.{◌≡◌, ◌<◌, ◌^◌, ℕ, List, [], ◌∷◌, ◌++◌, length, refl, sym, ap, ◌∙◌, arith, append-nil}
use Rattle.std.specs.Prelude.{codes, decimal}
use Rattle.plain_text.specs.Cuts.{Lacks}
use Rattle.plain_text.proofs.CutLemmas.{one_line, lacks_tested}
use Rattle.plain_text.proofs.NumberLemmas.{decimal_tells}
use Rattle.poly_model.specs.declared.kind.WorkKind.{WorkKind}
use Rattle.poly_model.specs.declared.kind.WorkKind.TheVariants.{Subsets, Subtrees}
use Rattle.poly_model.specs.LabelText.{key_text}
use Rattle.poly_model.specs.Systems.{Polyhedron}
use Rattle.poly_reader.specs.Reading.{reading, IsOfItsText}
use Rattle.poly_reader.proofs.ReadingLaws.{one_reading}
use Rattle.job_text.specs.KeyTexts.{HasKeyText}
use Rattle.job_text.specs.declared.job.Job.{Job}
use Rattle.job_text.specs.declared.job.JobHead.{JobHead}
use Rattle.job_text.specs.Jobs.{work_line, five_lines, HasHeadText, IsJobText}
use Rattle.job_text.proofs.KeyTextLemmas.{key_front_tells}
use Rattle.job_text.proofs.JobLineLemmas.{work_lacks, word_and_key_lack, word_and_count_lack, same_behind}
use Rattle.job_text.proofs.LengthLemmas.{file_is_short}

work_tells : (v w : WorkKind) → work_line v ≡ work_line w → v ≡ w
work_tells Subsets Subsets e = refl
work_tells Subtrees Subtrees e = refl
work_tells Subsets Subtrees e = absurd (omega (arith, ap (λ (l : List ℕ). length l) e))
work_tells Subtrees Subsets e = absurd (omega (arith, ap (λ (l : List ℕ). length l) e))

-- a word and a key, cut off as a line
pub key_cut : (word a b x y : List ℕ) → Lacks 10 word → HasKeyText a → HasKeyText b
    → (word ++ key_text a) ++ 10 ∷ x ≡ (word ++ key_text b) ++ 10 ∷ y → (a ≡ b) × (x ≡ y)
key_cut word a b x y lacks p q e =
    let cut = one_line (word ++ key_text a) x (word ++ key_text b) y (word_and_key_lack word a lacks p) (word_and_key_lack word b lacks q) e in (
      (key_front_tells a b [] [] p.is_key.room q.is_key.room p.labels q.labels tt tt
          (append-nil (key_text a) ∙ same_behind word (key_text a) (key_text b) cut.0 ∙ sym (append-nil (key_text b)))).0,
      cut.1,
    )

pub count_cut : (word : List ℕ) (m n : ℕ) (x y : List ℕ) → Lacks 10 word → m < 2 ^ 64 → n < 2 ^ 64
    → (word ++ decimal m) ++ 10 ∷ x ≡ (word ++ decimal n) ++ 10 ∷ y → (m ≡ n) × (x ≡ y)
count_cut word m n x y lacks p q e =
    let cut = one_line (word ++ decimal m) x (word ++ decimal n) y (word_and_count_lack word m lacks p) (word_and_count_lack word n lacks q) e in
    (decimal_tells m n (omega (arith, p)) (omega (arith, q)) (same_behind word (decimal m) (decimal n) cut.0), cut.1)

pub one_head : (a b : JobHead) (x y : List ℕ) → HasHeadText a → HasHeadText b → five_lines a x ≡ five_lines b y → (a ≡ b) × (x ≡ y)
one_head a b x y p q e =
    let work = one_line (work_line a.work) _ (work_line b.work) _ (work_lacks a.work) (work_lacks b.work) e in
    let root = key_cut (codes "root ") a.root.key b.root.key _ _ (lacks_tested 10 (codes "root ") refl) p.root q.root work.1 in
    let key = key_cut (codes "key ") a.key b.key _ _ (lacks_tested 10 (codes "key ") refl) p.key q.key root.1 in
    let bases = count_cut (codes "bases ") a.budget.bases b.budget.bases _ _ (lacks_tested 10 (codes "bases ") refl)
    (omega (arith, p.budget.bases)) (omega (arith, q.budget.bases)) key.1 in
    let depth = count_cut (codes "depth ") a.budget.depth b.budget.depth x y (lacks_tested 10 (codes "depth ") refl)
    (omega (arith, p.budget.depth)) (omega (arith, q.budget.depth)) bases.1 in
    let kind = work_tells a.work b.work work.0 in (
      (λ i. record {
        work = kind i;
        root = record { key = root.0 i };
        key = key.0 i;
        budget = record { bases = bases.0 i; depth = depth.0 i };
      }),
      depth.1,
    )

-- polyhedra of one text are the same
pub one_polyhedron : (p q : Polyhedron) → IsOfItsText p → IsOfItsText q → p.text ≡ q.text → p ≡ q
one_polyhedron p q own also same = (one_reading q.text).one_polyhedron p q (ap reading (sym same) ∙ own) also

-- a text is one job
pub one_job : (a b : Job) (text : List ℕ) → IsJobText a text → IsJobText b text → a ≡ b
one_job a b text u w =
    let cut = one_head a.head b.head _ _ u.head w.head (sym u.is_text ∙ w.is_text) in
    let file = count_cut (codes "input ") (length a.poly.text) (length b.poly.text) a.poly.text b.poly.text
    (lacks_tested 10 (codes "input ") refl) (within a text u) (within b text w) cut.1 in
    let same : a.poly ≡ b.poly = one_polyhedron a.poly b.poly u.file w.file file.1 in
    λ i. record { head = cut.0 i; poly = same i }
  where
    within : (job : Job) (text : List ℕ) → IsJobText job text → length job.poly.text < 2 ^ 64
    within job text h = omega (arith, file_is_short job.poly.text job.poly h.file)
