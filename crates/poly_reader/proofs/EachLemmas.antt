-- Steps that end well or in a fault; checks of one element after the other, and of the words that begin a line.
use Rattle.std.proofs.Common.{◌≡◌, ℕ, Bool, true, false, List, [], ◌∷◌, ◌++◌, Result, Ok, Err, refl, ◌∙◌, cond}
use Rattle.std.specs.Prelude.{◌==◌, if◌then◌else◌}
use Rattle.std.proofs.lemmas.Bool.{eqb-true}
use Rattle.poly_reader.specs.declared.bad.BadFile.{BadFile}
use Rattle.poly_reader.specs.Lines.{Word, firsts}
use Rattle.poly_reader.specs.FirstFault.{◌>>=◌, Check, each}

-- what ended well went well at each of its steps
pub ok_then : {A B : Type 0} (r : Result A BadFile) (f : A → Result B BadFile) (y : B) → (r >>= f) ≡ Ok y →
    (x : A) × (r ≡ Ok x) × (f x ≡ Ok y)
ok_then (Ok x) f y e = (x, refl, e)
ok_then (Err b) f y e = absurd cc

after_passed : (r a b c : Check) (u : Unit {0}) → (r >>= λ _. a) ≡ Ok u → ((v : Unit {0}) → a ≡ Ok v → b ≡ c)
    → (r >>= λ _. b) ≡ c
after_passed (Ok v) a b c u e f = f u e
after_passed (Err x) a b c u e f = absurd cc

pub each_passed : {X : Type 0} (test : X → Check) (xs ys : List X) (u : Unit {0}) → each test xs ≡ Ok u
    → each test (xs ++ ys) ≡ each test ys
unfolding each
each_passed test [] ys u e = refl
each_passed test (x ∷ xs) ys u e =
    after_passed (test x) (each test xs) (each test (xs ++ ys)) (each test ys) u e (each_passed test xs ys)

after_failed : (r a b : Check) (f : BadFile) → (r >>= λ _. a) ≡ Err f → (a ≡ Err f → b ≡ Err f) → (r >>= λ _. b) ≡ Err f
after_failed (Ok v) a b f e h = h e
after_failed (Err x) a b f e h = e

pub each_failed : {X : Type 0} (test : X → Check) (xs ys : List X) (f : BadFile) → each test xs ≡ Err f
    → each test (xs ++ ys) ≡ Err f
unfolding each
each_failed test [] ys f e = absurd cc
each_failed test (x ∷ xs) ys f e =
    after_failed (test x) (each test xs) (each test (xs ++ ys)) f e (each_failed test xs ys f)

rest_passed : (r a : Check) (u : Unit {0}) → (r >>= λ _. a) ≡ Ok u → a ≡ Ok u
rest_passed (Ok v) a u e = e
rest_passed (Err x) a u e = absurd cc

pub others_passed : {X : Type 0} (test : X → Check) (x : X) (xs : List X) (u : Unit {0}) → each test (x ∷ xs) ≡ Ok u
    → each test xs ≡ Ok u
unfolding each
others_passed test x xs u e = rest_passed (test x) (each test xs) u e

-- the check of a word on this line
abbrev pub unless_on : (Word → Check) → ℕ → Word → Check
unless_on test line w = if w.line == line then Ok tt else test w

firsts_step : (b : Bool) (test : Word → Check) (line : ℕ) (w : Word) (words : List Word) → (w.line == line) ≡ b
    → each test (firsts line (w ∷ words)) ≡ (cond b (Ok tt) (test w) >>= λ done. each test (firsts w.line words))
unfolding each firsts
firsts_step true test line w words e = rw (e, eqb-true w.line line e) refl
firsts_step false test line w words e = rw e refl

pub firsts_passed : (test : Word → Check) (line : ℕ) (w : Word) (words rest : List Word) (u : Unit {0}) →
    words ≡ w ∷ rest
    → unless_on test line w ≡ Ok u → each test (firsts line words) ≡ each test (firsts w.line rest)
firsts_passed test line w words rest u z e = rw z (firsts_step (w.line == line) test line w rest refl ∙ rw e refl)

pub firsts_failed : (f : BadFile) (test : Word → Check) (line : ℕ) (w : Word) (words rest : List Word) →
    words ≡ w ∷ rest
    → unless_on test line w ≡ Err f → each test (firsts line words) ≡ Err f
firsts_failed f test line w words rest z e = rw z (firsts_step (w.line == line) test line w rest refl ∙ rw e refl)

pub firsts_done : (test : Word → Check) (line : ℕ) (words : List Word) → words ≡ [] →
    each test (firsts line words) ≡ Ok tt
unfolding each firsts
firsts_done test line words z = rw z refl
