-- The first payload of a ledger is that of one search.
use Rattle.std.proofs.Common.{◌≡◌, ◌<◌, ◌^◌, ℕ, List, ◌∷◌, ◌++◌, length, refl, sym, ap, ◌∙◌, arith, Ok, Err}
use Rattle.std.specs.Prelude.{codes}
use Rattle.plain_text.specs.Cuts.{Lacks}
use Rattle.plain_text.proofs.CutLemmas.{one_line, lacks_tested}
use Rattle.poly_model.specs.declared.kind.WorkKind.{WorkKind}
use Rattle.poly_model.specs.declared.kind.WorkKind.TheVariants.{Subsets, Subtrees}
use Rattle.poly_model.specs.Systems.{Polyhedron}
use Rattle.poly_reader.specs.declared.bad.BadFile.{BadFile}
use Rattle.poly_reader.specs.Reading.{reading, IsOfItsText, IsFirstFault}
use Rattle.work_core.specs.Searches.{Search}
use Rattle.job_text.specs.FirstPayloads.{ledger_line, IsRootText, IsFirstPayload}
use Rattle.job_text.specs.Jobs.{root_line, sized}
use Rattle.job_text.specs.KeyTexts.{HasKeyText}
use Rattle.job_text.proofs.JobLaws.{key_cut, count_cut, one_polyhedron}
use Rattle.job_text.proofs.LengthLemmas.{file_is_short}

pub ledger_lacks : (work : WorkKind) → Lacks 10 (ledger_line work)
ledger_lacks Subsets = lacks_tested 10 (ledger_line Subsets) refl
ledger_lacks Subtrees = lacks_tested 10 (ledger_line Subtrees) refl

ledger_tells : (v w : WorkKind) → ledger_line v ≡ ledger_line w → v ≡ w
ledger_tells Subsets Subsets e = refl
ledger_tells Subtrees Subtrees e = refl
ledger_tells Subsets Subtrees e = absurd (omega (arith, ap (λ (l : List ℕ). length l) e))
ledger_tells Subtrees Subsets e = absurd (omega (arith, ap (λ (l : List ℕ). length l) e))

pub root_text : (work : WorkKind) (root : List ℕ) → IsRootText work root → HasKeyText root
root_text Subsets root h = rw h (record { is_key = record { room = omega arith; ascending = tt }; labels = tt })
root_text Subtrees root h = h

pub file_is_small : (p : Polyhedron) → IsOfItsText p → length p.text < 2 ^ 64
file_is_small p h = omega (arith, file_is_short p.text p h)

module _ (s : Search) (payload : List ℕ) (h : IsFirstPayload s payload) where
  -- the first line tells the work
  pub same_work : (work : WorkKind) (rest : List ℕ) → payload ≡ ledger_line work ++ 10 ∷ rest →
      (work ≡ s.work) × (rest ≡ root_line s.root ++ 10 ∷ sized s.polyhedron.text)
  same_work work rest is =
      let cut = one_line (ledger_line work) rest (ledger_line s.work) _ (ledger_lacks work) (ledger_lacks s.work)
      (sym is ∙ h.is_text) in
      (ledger_tells work s.work cut.0, cut.1)

  -- the second the root
  pub same_root : (rest root more : List ℕ) → rest ≡ root_line s.root ++ 10 ∷ sized s.polyhedron.text → HasKeyText root →
      rest ≡ root_line root ++ 10 ∷ more → (root ≡ s.root) × (more ≡ sized s.polyhedron.text)
  same_root rest root more there has here =
      key_cut (codes "root ") root s.root more (sized s.polyhedron.text) (lacks_tested 10 (codes "root ") refl) has
      (root_text s.work s.root h.root) (sym here ∙ there)

  -- the third, and what stands behind it, the file
  pub same_file : (more file : List ℕ) → more ≡ sized s.polyhedron.text → length file < 2 ^ 64 → more ≡ sized file →
      file ≡ s.polyhedron.text
  same_file more file there small here =
      (count_cut (codes "input ") (length file) (length s.polyhedron.text) file s.polyhedron.text
      (lacks_tested 10 (codes "input ") refl) small (file_is_small s.polyhedron h.file) (sym here ∙ there)).1

  -- and that is no file with a fault
  pub no_fault : (fault : BadFile) (file : List ℕ) → file ≡ s.polyhedron.text → IsFirstFault file fault → ⊥
  no_fault fault file same bad =
      let no : Err fault ≡ Ok s.polyhedron = sym bad ∙ ap reading same ∙ h.file in absurd cc

  pub root_of_work : (work : WorkKind) (root : List ℕ) → work ≡ s.work → root ≡ s.root → IsRootText work root
  root_of_work work root w r = rw (w, r) h.root

pub one_first_payload : (s t : Search) (payload : List ℕ) → IsFirstPayload s payload → IsFirstPayload t payload → s ≡ t
one_first_payload s t payload h k =
    let work = same_work t payload k s.work _ h.is_text in
    let root = same_root t payload k _ s.root _ work.1 (root_text s.work s.root h.root) refl in
    let file = same_file t payload k _ s.polyhedron.text root.1 (file_is_small s.polyhedron h.file) refl in
    let same : s.polyhedron ≡ t.polyhedron = one_polyhedron s.polyhedron t.polyhedron h.file k.file file in
    λ i. record { work = work.0 i; polyhedron = same i; root = root.0 i }

-- what the lines and the file say is a first payload
pub of_parts : (s : Search) (payload rest root more file : List ℕ) → payload ≡ ledger_line s.work ++ 10 ∷ rest →
    rest ≡ root_line root ++ 10 ∷ more → more ≡ sized file → s.root ≡ root → IsRootText s.work root → s.polyhedron.text ≡ file →
    IsOfItsText s.polyhedron → IsFirstPayload s payload
of_parts s payload rest root more file first second third same has text own = record {
  root = rw same has;
  file = own;
  is_text =
      first ∙ ap (λ (l : List ℕ). ledger_line s.work ++ 10 ∷ l)
      (second ∙ ap (λ (l : List ℕ). root_line l ++ 10 ∷ more) (sym same)
      ∙ ap (λ (l : List ℕ). root_line s.root ++ 10 ∷ l) (third ∙ ap sized (sym text)));
}
