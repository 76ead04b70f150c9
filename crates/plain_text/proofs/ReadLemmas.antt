-- Answers of exact readers: a value with its text, and none where no value has the text; and how they are used.
use Rattle.std.proofs.Common.{◌≡◌, ℕ, List, ◌∷◌, ◌++◌, Option, Some, None, true, false, Bor, refl, sym, ap, ◌∙◌, subst, drop}
use Rattle.std.specs.Prelude.{IfSome}
use Rattle.plain_text.specs.Cuts.{Lacks, GoesOnWith, CutsLine, CutsWord}
use Rattle.plain_text.specs.Texts.{IsReadOf, IsLineReadOf, IsFrontReadOf}
use Rattle.plain_text.proofs.CutLemmas.{one_cut, one_line, lacks_none}

pub some_read : {A : Type 0} {May : A → Type 0} {text_of : A → List ℕ} {text : List ℕ} (x : A) → May x → text ≡ text_of x
    → IsReadOf May text_of text (Some x)
some_read x may is = record { some = (may, is); none = λ h. let no : true ≡ false = h in absurd cc }

pub none_read : {A : Type 0} {May : A → Type 0} {text_of : A → List ℕ} {text : List ℕ}
    → ((x : A) → May x → text ≡ text_of x → ⊥) → IsReadOf May text_of text None
none_read none = record { some = tt; none = λ _. none }

pub some_line_read : {A : Type 0} {May : A → Type 0} {text_of : A → List ℕ} {text : List ℕ} (x : A) (rest : Bor (List ℕ))
    → May x → text ≡ text_of x ++ 10 ∷ rest.now → IsLineReadOf May text_of text (Some (x, rest))
some_line_read x rest may is = record { some = (may, is); none = λ h. let no : true ≡ false = h in absurd cc }

pub none_line_read : {A : Type 0} {May : A → Type 0} {text_of : A → List ℕ} {text : List ℕ}
    → ((x : A) (rest : List ℕ) → May x → text ≡ text_of x ++ 10 ∷ rest → ⊥) → IsLineReadOf May text_of text None
none_line_read none = record { some = tt; none = λ _. none }

pub read_at : {A : Type 0} {May : A → Type 0} {text_of : A → List ℕ} {text : List ℕ} {result : Option A} {x : A} → result ≡ Some x
    → IsReadOf May text_of text result → May x × (text ≡ text_of x)
read_at {May = May} {text_of = text_of} {text = text} {x = x} e h =
    subst (λ r. IfSome r (λ y. May y × (text ≡ text_of y))) e h.some

pub read_none : {A : Type 0} {May : A → Type 0} {text_of : A → List ℕ} {text : List ℕ} {result : Option A} → result ≡ None
    → IsReadOf May text_of text result → (x : A) → May x → text ≡ text_of x → ⊥
read_none e h = h.none (rw e refl)

-- a line that was cut off is the one in front
pub line_is : {text line rest : List ℕ} (form more : List ℕ) → CutsLine text line rest → Lacks 10 form → text ≡ form ++ 10 ∷ more
    → (line ≡ form) × (rest ≡ more)
line_is {line = line} {rest = rest} form more h lacks e = one_line line rest form more h.lacks lacks (sym h.whole ∙ e)

-- a text without LF has no line in front
pub no_line : (text form more : List ℕ) → Lacks 10 text → text ≡ form ++ 10 ∷ more → ⊥
no_line text form more h e = lacks_none 10 form more (subst (λ (l : List ℕ). Lacks 10 l) e h)

pub some_front_read : {A : Type 0} {May : A → Type 0} {text_of : A → List ℕ} {text : List ℕ} (x : A) (rest : Bor (List ℕ))
    → May x → text ≡ text_of x ++ rest.now → GoesOnWith 32 rest.now → IsFrontReadOf May text_of text (Some (x, rest))
some_front_read x rest may is goes_on =
    record { some = (may, is, goes_on); none = λ h. let no : true ≡ false = h in absurd cc }

pub none_front_read : {A : Type 0} {May : A → Type 0} {text_of : A → List ℕ} {text : List ℕ}
    → ((x : A) (more : List ℕ) → May x → GoesOnWith 32 more → text ≡ text_of x ++ more → ⊥) → IsFrontReadOf May text_of text None
none_front_read none = record { some = tt; none = λ _. none }

-- a word behind a blank that was cut off is the one in front
pub word_is : {text cut word rest : List ℕ} (form more : List ℕ) → text ≡ 32 ∷ cut → CutsWord cut word rest → Lacks 32 form
    → GoesOnWith 32 more → text ≡ 32 ∷ (form ++ more) → (word ≡ form) × (rest ≡ more)
word_is {word = word} {rest = rest} form more at cuts lacks g e =
    one_cut 32 word rest form more cuts.lacks cuts.goes_on lacks g (sym cuts.whole ∙ ap (λ (l : List ℕ). drop 1 l) (sym at ∙ e))
