-- Whether a payload is the first of a search can be found out by trying.
use Rattle.std.proofs.Common.{arith, ◌≡◌, ◌<◌, ◌^◌, ℕ, List, [], ◌∷◌, ◌++◌, length, length-append, refl, sym, ap, ◌∙◌, subst, inl, inr}
use Rattle.std.specs.Prelude.{codes, decimal}
use Rattle.plain_text.specs.Cuts.{CutsLine, Lacks}
use Rattle.plain_text.proofs.CutLemmas.{lacks_none, lacks_tested, one_line}
use Rattle.poly_model.specs.declared.kind.WorkKind.{WorkKind}
use Rattle.poly_model.specs.declared.kind.WorkKind.TheVariants.{Subsets, Subtrees}
use Rattle.poly_reader.specs.Reading.{IsFileOf}
use Rattle.poly_reader.proofs.ReadingLaws.{one_reading}
use Rattle.work_core.specs.Searches.{Search}
use Rattle.job_text.specs.FirstPayloads.{IsFirstPayload, IsRootText, ledger_line}
use Rattle.job_text.specs.Jobs.{input_line, root_line, sized}
use Rattle.job_text.specs.KeyTexts.{HasKeyText}
use Rattle.job_text.proofs.FirstPayloadLemmas.{ledger_lacks, no_fault, of_parts, root_text, same_file, same_root, same_work}
use Rattle.job_text.proofs.JobLineLemmas.{word_and_count_lack, word_and_key_lack}
use Rattle.job_text.proofs.JobOrBadLemmas.{Known, both, same_texts, text_is_kept}
use Rattle.job_text.proofs.TriedTexts.{cut_line, front_some, key_some}

-- ---- the lines

abbrev IsLedgerLine : List ℕ → Type 0
IsLedgerLine line = (work : WorkKind) × (line ≡ ledger_line work)

ledger_known : (line : List ℕ) → Known (IsLedgerLine line)
ledger_known line = by (same_texts line (ledger_line Subsets)) (same_texts line (ledger_line Subtrees))
  where
    none : (line ≡ ledger_line Subsets → ⊥) → (line ≡ ledger_line Subtrees → ⊥) → (work : WorkKind) → line ≡ ledger_line work → ⊥
    none a b Subsets e = a e
    none a b Subtrees e = b e

    by : Known (line ≡ ledger_line Subsets) → Known (line ≡ ledger_line Subtrees) → Known (IsLedgerLine line)
    by (inl e) other = inl (Subsets, e)
    by (inr a) (inl e) = inl (Subtrees, e)
    by (inr a) (inr b) = inr (λ h. none a b h.0 h.1)

ledger_line_lacks : (line : List ℕ) → IsLedgerLine line → Lacks 10 line
ledger_line_lacks line h = subst (Lacks 10) (sym h.1) (ledger_lacks h.0)

-- of a key that has a text
abbrev MayBeRoot : WorkKind → List ℕ → Type 0
MayBeRoot Subsets key = key ≡ []
MayBeRoot Subtrees key = Unit {0}

may_known : (work : WorkKind) (key : List ℕ) → Known (MayBeRoot work key)
may_known Subsets key = same_texts key []
may_known Subtrees key = inl tt

may_be : (work : WorkKind) (key : List ℕ) → IsRootText work key → MayBeRoot work key
may_be Subsets key h = h
may_be Subtrees key h = tt

is_root : (work : WorkKind) (key : List ℕ) → HasKeyText key → MayBeRoot work key → IsRootText work key
is_root Subsets key k h = h
is_root Subtrees key k h = k

abbrev IsRootLine : WorkKind → List ℕ → Type 0
IsRootLine work line = (key : List ℕ) × HasKeyText key × (MayBeRoot work key × (line ≡ root_line key))

root_known : (work : WorkKind) (line : List ℕ) → Known (IsRootLine work line)
root_known work line =
    key_some (λ key. MayBeRoot work key × (line ≡ root_line key)) (λ key. both (may_known work key) (same_texts line (root_line key)))

root_line_lacks : (work : WorkKind) (line : List ℕ) → IsRootLine work line → Lacks 10 line
root_line_lacks work line h =
    let (key, k, p) = h in
    subst (Lacks 10) (sym p.1) (word_and_key_lack (codes "root ") key (lacks_tested 10 (codes "root ") refl) k)

-- ---- the file

size_of_sized : (file : List ℕ) → length file < length (sized file)
size_of_sized file = omega (arith, length-append (input_line (decimal (length file))) (10 ∷ file))

sized_known : (text : List ℕ) → length text < 2 ^ 64 → Known ((file : List ℕ) × (text ≡ sized file))
sized_known text short = elim (cut_line text) [
  | inl cut ↦ let (line, rest, c) = cut in with_line line rest c (same_texts line (input_line (decimal (length rest))))
  | inr lacks ↦ inr (λ h. lacks_none 10 (input_line (decimal (length h.0))) h.0 (subst (Lacks 10) h.1 lacks))
]
  where
    line_lacks : (file : List ℕ) → text ≡ sized file → Lacks 10 (input_line (decimal (length file)))
    line_lacks file is =
        word_and_count_lack (codes "input ") (length file) (lacks_tested 10 (codes "input ") refl)
        (omega (arith, short, ap (λ (l : List ℕ). length l) is, size_of_sized file))

    with_line : (line rest : List ℕ) → CutsLine text line rest → Known (line ≡ input_line (decimal (length rest))) →
        Known ((file : List ℕ) × (text ≡ sized file))
    with_line line rest c (inl e) = inl (rest, c.whole ∙ ap (λ (l : List ℕ). l ++ 10 ∷ rest) e)
    with_line line rest c (inr none) = inr (λ h.
        let (file, is) = h in
        let cut = one_line line rest (input_line (decimal (length file))) file c.lacks (line_lacks file is) (sym c.whole ∙ is) in
        none (cut.0 ∙ ap (λ (l : List ℕ). input_line (decimal (length l))) (sym cut.1)))

-- ---- a payload

module _ (payload : List ℕ) (short : length payload < 2 ^ 64) where
  abbrev Found : Type 0
  Found = Known ((s : Search) × IsFirstPayload s payload)

  with_file : (work : WorkKind) (rest key more file : List ℕ) → payload ≡ ledger_line work ++ 10 ∷ rest → rest ≡ root_line key ++ 10 ∷ more →
      HasKeyText key → MayBeRoot work key → more ≡ sized file → Found
  with_file work rest key more file first second has may third = elim (one_reading file).some [
    | inl found ↦
        let (p, reads) = found in
        let kept = text_is_kept file p reads in
        let s : Search = record { work = work; polyhedron = p; root = key } in
        inl (
          s,
          of_parts s payload rest key more file first second third refl (is_root work key has may) kept
              (subst (λ (t : List ℕ). IsFileOf t p) (sym kept) reads),
        )
    | inr found ↦ inr (λ h.
        let (s, f) = h in
        let w = same_work s payload f work rest first in
        let r = same_root s payload f rest key more w.1 has second in
        no_fault s payload f found.0 file (same_file s payload f more file r.1 small third) found.1)
  ]
    where
      small : length file < 2 ^ 64
      small =
          omega (
            arith,
            short,
            size_of_sized file,
            ap (λ (l : List ℕ). length l) first,
            length-append (ledger_line work) (10 ∷ rest),
            ap (λ (l : List ℕ). length l) second,
            length-append (root_line key) (10 ∷ more),
            ap (λ (l : List ℕ). length l) third,
          )

  with_root : (work : WorkKind) (rest key more : List ℕ) → payload ≡ ledger_line work ++ 10 ∷ rest → rest ≡ root_line key ++ 10 ∷ more →
      HasKeyText key → MayBeRoot work key → Found
  with_root work rest key more first second has may = elim (sized_known more small) [
    | inl found ↦ with_file work rest key more found.0 first second has may found.1
    | inr none ↦ inr (λ h.
        let (s, f) = h in
        let w = same_work s payload f work rest first in
        none (s.polyhedron.text, (same_root s payload f rest key more w.1 has second).1))
  ]
    where
      small : length more < 2 ^ 64
      small =
          omega (
            arith,
            short,
            ap (λ (l : List ℕ). length l) first,
            length-append (ledger_line work) (10 ∷ rest),
            ap (λ (l : List ℕ). length l) second,
            length-append (root_line key) (10 ∷ more),
          )

  with_work : (work : WorkKind) (rest : List ℕ) → payload ≡ ledger_line work ++ 10 ∷ rest → Found
  with_work work rest first = elim (front_some (IsRootLine work) (root_line_lacks work) (root_known work) rest) [
    | inl found ↦
        let (line, more, root, is) = found in
        let (key, has, may) = root in
        with_root work rest key more first (is ∙ ap (λ (l : List ℕ). l ++ 10 ∷ more) may.1) has may.0
    | inr none ↦ inr (λ h.
        let (s, f) = h in
        let w = same_work s payload f work rest first in
        none (
          root_line s.root,
          sized s.polyhedron.text,
          (s.root, root_text s.work s.root f.root, (subst (λ (k : WorkKind). MayBeRoot k s.root) (sym w.0) (may_be s.work s.root f.root), refl)),
          w.1,
        ))
  ]

  pub first_known : Found
  first_known = elim (front_some IsLedgerLine ledger_line_lacks ledger_known payload) [
    | inl found ↦
        let (line, rest, ledger, is) = found in
        let (work, e) = ledger in
        with_work work rest (is ∙ ap (λ (l : List ℕ). l ++ 10 ∷ rest) e)
    | inr none ↦ inr (λ h.
        let (s, f) = h in
        none (ledger_line s.work, root_line s.root ++ 10 ∷ sized s.polyhedron.text, (s.work, refl), f.is_text))
  ]
