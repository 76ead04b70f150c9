-- The lines before `begin`, one after the other: what is read so far, and what is left.
use Rattle.std.proofs.Common.{◌≡◌, ℕ, true, false, List, [], ◌∷◌, ◌++◌, drop, Ok, Err, refl}
use Rattle.std.specs.List.{fold}
use Rattle.poly_model.specs.declared.kind.Kind.{Kind}
use Rattle.poly_model.specs.declared.kind.Kind.TheVariants.{H}
use Rattle.poly_reader.specs.declared.bad.BadFile.{BadFile}
use Rattle.poly_reader.specs.declared.bad.BadKind.TheVariants.{NoBegin}
use Rattle.poly_reader.specs.Lines.{Line, joined}
use Rattle.poly_reader.specs.FirstFault.{bad, each}
use Rattle.poly_reader.specs.Head.{begins, head_of, body_of, line_fault, kind_after, kind_of, opening_of}

-- with this kind so far, the lines that are left give what all of them give
pub record IsAt (kind : Kind) (lines all : List Line) : Type 0 where
  pub checks : each line_fault (head_of lines) ≡ each line_fault (head_of all)
  pub body : body_of lines ≡ body_of all
  pub kinds : fold kind_after kind (head_of lines) ≡ kind_of (head_of all)

pub starts : (lines : List Line) → IsAt H lines lines
starts lines = record { checks = refl; body = refl; kinds = refl }

pub ends : (last : ℕ) (kind : Kind) (lines all : List Line) → lines ≡ [] → IsAt kind lines all
    → opening_of last all ≡ bad NoBegin last
unfolding opening_of head_of body_of each
ends last kind lines all e at = rw (← at.checks, ← at.body, e) refl

pub begun : (last : ℕ) (kind : Kind) (lines all after : List Line) (line : Line) → lines ≡ line ∷ after
    → begins line ≡ true → IsAt kind lines all
    → opening_of last all ≡ Ok (record { kind = kind; words = drop 1 line ++ joined after })
unfolding opening_of head_of body_of each
begun last kind lines all after line e b at = rw (← at.checks, ← at.body, ← at.kinds, e, b) refl

pub fails : (last : ℕ) (f : BadFile) (kind : Kind) (lines all after : List Line) (line : Line) → lines ≡ line ∷ after
    → begins line ≡ false → line_fault line ≡ Err f → IsAt kind lines all → opening_of last all ≡ Err f
unfolding opening_of head_of body_of each
fails last f kind lines all after line e b fault at = rw (← at.checks, e, b, fault) refl

pub goes_on : (kind : Kind) (lines all after : List Line) (line : Line) (u : Unit {0}) → lines ≡ line ∷ after
    → begins line ≡ false → line_fault line ≡ Ok u → IsAt kind lines all → IsAt (kind_after kind line) after all
unfolding head_of body_of each
goes_on kind lines all after line u e b fine at = record {
  checks = rw (e, b, fine) at at.checks;
  body = rw (e, b) at at.body;
  kinds = rw (e, b) at at.kinds;
}
