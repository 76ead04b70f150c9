-- What is told of a text: the polyhedron, or the first fault, of what was taken from a source is that of all that it
-- had.
use Rattle.std.proofs.Common.{◌≡◌, ◌++◌, ◌+◌, ◌⊎◌, inl, inr, ℕ, List, [], length, arith, sym, subst, ◌∙◌, Option, Some, None, Err, length-append, append-nil}
use Rattle.poly_reader.specs.declared.bad.BadFile.{BadFile}
use Rattle.poly_reader.specs.Limits.{most_file_bytes}
use Rattle.poly_reader.specs.Reading.{reading, IsFileOf}
use Rattle.poly_reader.specs.Taking.{FindsPolyhedron, FindsFault}
use Rattle.poly_reader.proofs.LongTexts.{too_long}
use Rattle.poly_model.specs.Systems.{Polyhedron}
use Rattle.disk_core.specs.Contents.{Told}
use Rattle.lrs_cli.specs.Answers.{Describes, IsBadFile}

-- more bytes behind a text that is too long change nothing
fault_of_long : (text rest : List ℕ) (f : BadFile) → length text ≡ most_file_bytes + 1 → reading text ≡ Err f →
    reading (text ++ rest) ≡ Err f
fault_of_long text rest f l e =
    too_long (text ++ rest) (omega (arith, length-append text rest))
    ∙ sym (too_long text (omega arith))
    ∙ e

fault_of_all : (text rest : List ℕ) (f : BadFile) → (rest ≡ []) ⊎ (length text ≡ most_file_bytes + 1) →
    reading text ≡ Err f → reading (text ++ rest) ≡ Err f
fault_of_all text rest f (inl end) e = rw (end, append-nil text) e
fault_of_all text rest f (inr long) e = fault_of_long text rest f long e

fault_of_known : (whole : List ℕ) (new : Option (List ℕ)) (f : BadFile) → FindsFault (Some whole) new f → IsBadFile f whole
fault_of_known whole None f h = absurd h.taken
fault_of_known whole (Some rest) f h = rw h.taken (fault_of_all h.text rest f h.enough h.read)

pub fault_of_source : (old new : Option (List ℕ)) (f : BadFile) → FindsFault old new f → Told old (IsBadFile f)
fault_of_source old new f h whole told =
    fault_of_known whole new f (subst (λ (s : Option (List ℕ)). FindsFault s new f) told h)

-- the polyhedron that was found is that of all that the source had
text_of_known : (whole : List ℕ) (new : Option (List ℕ)) (p : Polyhedron) → FindsPolyhedron (Some whole) new p → IsFileOf whole p
text_of_known whole None p h = absurd h.taken
text_of_known whole (Some rest) p h = rw (h.taken, h.ends, append-nil p.text) h.read

pub text_of_source : (old new : Option (List ℕ)) (p : Polyhedron) → FindsPolyhedron old new p →
    Told old (λ text. IsFileOf text p)
text_of_source old new p h whole told =
    text_of_known whole new p (subst (λ (s : Option (List ℕ)). FindsPolyhedron s new p) told h)

-- what holds of the polyhedron of a text
pub described : (P : Polyhedron → Type 0) (p : Polyhedron) (source : Option (List ℕ)) →
    Told source (λ text. IsFileOf text p) → P p →
    Told source (Describes P)
described P p source t h text told = record { polyhedron = p; read = t text told; holds = h }
