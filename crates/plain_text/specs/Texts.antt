-- Readers that are exact: what is written for a value is read as this value, and no other text is read.
use Rattle.std.specs.Prelude.{◌≡◌, ℕ, List, ◌∷◌, ◌++◌, Option, Some, IfSome, IsNone}
use Rattle.std.specs.Borrow.{Bor}
use Rattle.plain_text.specs.Cuts.{GoesOnWith}
use Rattle.plain_text.specs.Digits.{decimal_of}

-- a value that may be, and the text is the one that is written for it; none exactly where there is no such value
pub record IsReadOf {A : Type 0} (May : A → Type 0) (text_of : A → List ℕ) (text : List ℕ) (result : Option A) : Type 0 where
  pub some : IfSome result (λ x. May x × (text ≡ text_of x))
  pub none : IsNone result → (x : A) → May x → text ≡ text_of x → ⊥

-- the same of a line in front of a text, with what stands behind its LF
pub record IsLineReadOf {A : Type 0} (May : A → Type 0) (text_of : A → List ℕ) (text : List ℕ) (result : Option (A × Bor (List ℕ))) : Type 0 where
  pub some : IfSome result (λ r. May r.0 × (text ≡ text_of r.0 ++ 10 ∷ r.1.now))
  pub none : IsNone result → (x : A) (rest : List ℕ) → May x → text ≡ text_of x ++ 10 ∷ rest → ⊥

-- the same of what stands in front of a text, before a blank or the end
pub record IsFrontReadOf {A : Type 0} (May : A → Type 0) (text_of : A → List ℕ) (text : List ℕ) (result : Option (A × Bor (List ℕ))) : Type 0 where
  pub some : IfSome result (λ r. May r.0 × (text ≡ text_of r.0 ++ r.1.now) × GoesOnWith 32 r.1.now)
  pub none : IsNone result → (x : A) (more : List ℕ) → May x → GoesOnWith 32 more → text ≡ text_of x ++ more → ⊥

-- the text begins with the decimal text of a value, which ends before a blank or the end of all
pub record BeginsWithDecimal (text : List ℕ) (value : ℕ) (rest : List ℕ) : Type 0 where
  pub digits : List ℕ
  pub whole : text ≡ digits ++ rest
  pub reads : decimal_of digits ≡ Some value
  pub goes_on : GoesOnWith 32 rest
