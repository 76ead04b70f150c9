-- The first payload of a ledger: it tells what is searched.
use Rattle.std.specs.Prelude.{◌≡◌, ℕ, List, [], ◌∷◌, ◌++◌, codes}
use Rattle.poly_model.specs.declared.kind.WorkKind.{WorkKind}
use Rattle.poly_model.specs.declared.kind.WorkKind.TheVariants.{Subsets, Subtrees}
use Rattle.poly_reader.specs.Reading.{IsOfItsText}
use Rattle.work_core.specs.Searches.{Search}
use Rattle.job_text.specs.KeyTexts.{HasKeyText}
use Rattle.job_text.specs.Jobs.{work_name, root_line, sized}

-- its first line, without the LF
abbrev pub ledger_line : WorkKind → List ℕ
ledger_line work = codes "lrs-ledger 1 " ++ work_name work

-- three lines, and the file of the polyhedron
abbrev pub first_payload : Search → List ℕ
first_payload s = ledger_line s.work ++ 10 ∷ (root_line s.root ++ 10 ∷ sized s.polyhedron.text)

-- any key with a text may be the root of subtrees; that of subsets is empty
abbrev pub IsRootText : WorkKind → List ℕ → Type 0
IsRootText Subsets root = root ≡ []
IsRootText Subtrees root = HasKeyText root

-- the payload is the first of this search
pub record IsFirstPayload (s : Search) (payload : List ℕ) : Type 0 where
  pub root : IsRootText s.work s.root
  pub file : IsOfItsText s.polyhedron
  pub is_text : payload ≡ first_payload s
