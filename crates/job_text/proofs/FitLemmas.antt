-- What a line says, by its first word.
use Rattle.std.proofs.Common.{◌≡◌, ◌⊎◌, ℕ, List, ◌∷◌, ◌++◌, Option, Some, None, refl, sym, ap, ap₂, ◌∙◌, inl, inr, get_or}
use Rattle.std.specs.Prelude.{◌==◌, if◌then◌else◌}
use Rattle.plain_text.specs.Cuts.{Lacks, GoesOnWith, CutsWord}
use Rattle.plain_text.specs.Texts.{IsReadOf}
use Rattle.plain_text.proofs.CutLemmas.{one_cut, lacks_tested}
use Rattle.plain_text.proofs.ReadLemmas.{some_read, none_read, read_at, read_none}
use Rattle.poly_num.specs.Vectors.{Vector}
use Rattle.poly_model.specs.declared.overflow.Overflow.{Overflow as Passed}
use Rattle.poly_model.specs.ListingText.{entries_text}
use Rattle.poly_model.specs.LabelText.{key_text}
use Rattle.work_core.specs.ReplyLines.{row_line, job_line}
use Rattle.job_text.specs.KeyTexts.{HasKeyText}
use Rattle.row_printer.specs.OverflowText.{overflow_text}
use Rattle.job_text.specs.Overflows.{HasOverflowText}
use Rattle.job_text.specs.LineTexts.{IsReplyLine}
use Rattle.job_text.specs.declared.keyword.Keyword.{Keyword}
use Rattle.job_text.specs.declared.keyword.Keyword.TheVariants.{Row, Job, End, Overflow, Memory}
use Rattle.job_text.specs.declared.reply.Tail.TheVariants as tails
use Rattle.job_text.specs.Keywords.{keyword_text}
use Rattle.job_text.specs.Fits.{Said, MaySay, MaySayAs, keyword_of, behind_keyword, said_text}
use Rattle.job_text.proofs.EntryLemmas.{entries_go_on}

-- ---- first words

pub keyword_lacks : (byte : ℕ) (k : Keyword) → (byte ≡ 10) ⊎ (byte ≡ 32) → Lacks byte (keyword_text k)
keyword_lacks byte k (inl e) = rw e (by k)
  where
    by : (k : Keyword) → Lacks 10 (keyword_text k)
    by Row = lacks_tested 10 (keyword_text Row) refl
    by Job = lacks_tested 10 (keyword_text Job) refl
    by End = lacks_tested 10 (keyword_text End) refl
    by Overflow = lacks_tested 10 (keyword_text Overflow) refl
    by Memory = lacks_tested 10 (keyword_text Memory) refl
keyword_lacks byte k (inr e) = rw e (by k)
  where
    by : (k : Keyword) → Lacks 32 (keyword_text k)
    by Row = lacks_tested 32 (keyword_text Row) refl
    by Job = lacks_tested 32 (keyword_text Job) refl
    by End = lacks_tested 32 (keyword_text End) refl
    by Overflow = lacks_tested 32 (keyword_text Overflow) refl
    by Memory = lacks_tested 32 (keyword_text Memory) refl

-- the word that begins with this letter
abbrev lettered : ℕ → Keyword
lettered b = if b == 114 then Row else (if b == 106 then Job else (if b == 101 then End else (if b == 111 then Overflow else Memory)))

lettered_is : (k : Keyword) → lettered (get_or (keyword_text k) 0 0) ≡ k
lettered_is Row = refl
lettered_is Job = refl
lettered_is End = refl
lettered_is Overflow = refl
lettered_is Memory = refl

pub keyword_tells : (j k : Keyword) → keyword_text j ≡ keyword_text k → j ≡ k
keyword_tells j k e = sym (lettered_is j) ∙ ap (λ (t : List ℕ). lettered (get_or t 0 0)) e ∙ lettered_is k

-- ---- the line cut at its first blank

pub behind_goes_on : (s : Said) → GoesOnWith 32 (behind_keyword s)
behind_goes_on (inl (row_line v)) = entries_go_on v
behind_goes_on (inl (job_line key)) = refl
behind_goes_on (inr (tails.End count)) = refl
behind_goes_on (inr (tails.Overflow o)) = refl
behind_goes_on (inr tails.Memory) = tt

pub said_parts : (line word rest : List ℕ) (s : Said) → CutsWord line word rest → line ≡ said_text s
    → (word ≡ keyword_text (keyword_of s)) × (rest ≡ behind_keyword s)
said_parts line word rest s cuts e =
    one_cut 32 word rest (keyword_text (keyword_of s)) (behind_keyword s) cuts.lacks cuts.goes_on
    (keyword_lacks 32 (keyword_of s) (inr refl)) (behind_goes_on s) (sym cuts.whole ∙ e)

-- what is read behind the first word is what the line says
pub fits_as : (keyword : Keyword) (n rows jobs : ℕ) (line word rest : List ℕ) (said : Option Said) → CutsWord line word rest
    → word ≡ keyword_text keyword → IsReadOf (MaySayAs keyword n rows jobs) behind_keyword rest said
    → IsReadOf (MaySay n rows jobs) said_text line said
fits_as keyword n rows jobs line word rest (Some s) cuts is h =
    let k = read_at refl h in
    some_read s k.0.0 (cuts.whole ∙ ap₂ (λ (a b : List ℕ). a ++ b) (is ∙ ap keyword_text (sym k.0.1)) k.1)
fits_as keyword n rows jobs line word rest None cuts is h = none_read (λ s may e.
    let parts = said_parts line word rest s cuts e in
    read_none refl h s (may, keyword_tells (keyword_of s) keyword (sym parts.0 ∙ is)) parts.1)

-- ---- nothing with this first word

pub no_row : (n rows jobs : ℕ) (rest : List ℕ) → ((v : Vector) → IsReplyLine n (row_line v) → rest ≡ entries_text v → ⊥)
    → (s : Said) → MaySayAs Row n rows jobs s → rest ≡ behind_keyword s → ⊥
no_row n rows jobs rest none (inl (row_line v)) may e = none v may.0 e
no_row n rows jobs rest none (inl (job_line key)) may e = let no : Job ≡ Row = may.1 in absurd cc
no_row n rows jobs rest none (inr (tails.End count)) may e = let no : End ≡ Row = may.1 in absurd cc
no_row n rows jobs rest none (inr (tails.Overflow o)) may e = let no : Overflow ≡ Row = may.1 in absurd cc
no_row n rows jobs rest none (inr tails.Memory) may e = let no : Memory ≡ Row = may.1 in absurd cc

pub no_job : (n rows jobs : ℕ) (rest : List ℕ) → ((key : List ℕ) → HasKeyText key → rest ≡ 32 ∷ key_text key → ⊥)
    → (s : Said) → MaySayAs Job n rows jobs s → rest ≡ behind_keyword s → ⊥
no_job n rows jobs rest none (inl (row_line v)) may e = let no : Row ≡ Job = may.1 in absurd cc
no_job n rows jobs rest none (inl (job_line key)) may e = none key may.0 e
no_job n rows jobs rest none (inr (tails.End count)) may e = let no : End ≡ Job = may.1 in absurd cc
no_job n rows jobs rest none (inr (tails.Overflow o)) may e = let no : Overflow ≡ Job = may.1 in absurd cc
no_job n rows jobs rest none (inr tails.Memory) may e = let no : Memory ≡ Job = may.1 in absurd cc

pub no_overflow : (n rows jobs : ℕ) (rest : List ℕ) → ((o : Passed) → HasOverflowText o → rest ≡ 32 ∷ overflow_text o → ⊥)
    → (s : Said) → MaySayAs Overflow n rows jobs s → rest ≡ behind_keyword s → ⊥
no_overflow n rows jobs rest none (inl (row_line v)) may e = let no : Row ≡ Overflow = may.1 in absurd cc
no_overflow n rows jobs rest none (inl (job_line key)) may e = let no : Job ≡ Overflow = may.1 in absurd cc
no_overflow n rows jobs rest none (inr (tails.End count)) may e = let no : End ≡ Overflow = may.1 in absurd cc
no_overflow n rows jobs rest none (inr (tails.Overflow o)) may e = none o may.0 e
no_overflow n rows jobs rest none (inr tails.Memory) may e = let no : Memory ≡ Overflow = may.1 in absurd cc
