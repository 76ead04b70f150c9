-- Where each attempt is answered in full, that is honest, and is given to starts that are not yet collected.
use Rattle.std.proofs.Common.{ℕ, List, ◌≡◌, ◌≢◌, inl, inr, ◌==◌, true, false, [], ◌∷◌, refl, sym, ◌∙◌, subst, Option, Some, None}
use Rattle.std.proofs.lemmas.Bool.{cases_Bool, eqb-true, ne_eqb}
use Rattle.std.proofs.lemmas.List.{append-nil}
use Rattle.job_text.specs.Rule.{IsReplyFor}
use Rattle.workers_io.specs.History.{Happening, StartedTexts, started, refused, replied, broken, IsAllowed, IsHonest, last_text}
use Rattle.coordinator_laws.specs.Answered.{AreAnswered, IsFullReplyTo, starts_without}

-- of the starts that are not yet collected the last with each number is the last of all
abbrev pub AreLastOf : StartedTexts → StartedTexts → Type 0
AreLastOf left all = (a : ℕ) (text : List ℕ) → last_text a left ≡ Some text → last_text a all ≡ Some text

pub last-pushed : (left all : StartedTexts) (a : ℕ) (text : List ℕ) → AreLastOf left all → AreLastOf ((a, text) ∷ left) ((a, text) ∷ all)
last-pushed left all a text h b t e = elim (cases_Bool (b == a)) [
  | inl y ↦ rw y (rw y at e)
  | inr n ↦ rw n (h b t (rw n at e))
]

pub last-without : (left : StartedTexts) (a b : ℕ) (text : List ℕ) → last_text b (starts_without a left) ≡ Some text → (last_text b left ≡ Some text) × (b ≢ a)
last-without [] a b text e = absurd cc
last-without (s ∷ left) a b text e = elim (cases_Bool (a == s.0)) [
  | inl y ↦
      let p = last-without left a b text (rw y at e) in
      let other : b ≢ s.0 = λ q. p.1 (q ∙ sym (eqb-true a s.0 y)) in
      (rw (ne_eqb b s.0 other) p.0, p.1)
  | inr n ↦
      let e1 : last_text b (s ∷ starts_without a left) ≡ Some text = rw n at e in
      elim (cases_Bool (b == s.0)) [
        | inl z ↦
            let e2 : Some s.1 ≡ Some text = rw z at e1 in
            let there : last_text b (s ∷ left) ≡ Some s.1 = rw z refl in
            let other : b ≢ a = λ q.
            let same : a == s.0 ≡ true = subst (λ (i : ℕ). i == s.0 ≡ true) q z in
            let never : true ≡ false = sym same ∙ n in
            absurd cc in
            (there ∙ e2, other)
        | inr w ↦
            let p = last-without left a b text (rw w at e1) in
            (rw w p.0, p.1)
      ]
]

allowed-full : (left all : Option (List ℕ)) (bytes : List ℕ) → ((text : List ℕ) → left ≡ Some text → all ≡ Some text) → IsFullReplyTo left bytes →
    IsAllowed IsReplyFor all bytes
allowed-full None all bytes h f = absurd f
allowed-full (Some text) all bytes h f =
    subst (λ (o : Option (List ℕ)). IsAllowed IsReplyFor o bytes) (sym (h text refl)) (bytes, λ job is. (f job is).reply, [], sym (append-nil bytes))

pub answered-honest : (left all : StartedTexts) (hs : List Happening) → AreLastOf left all → AreAnswered left hs → IsHonest IsReplyFor all hs
answered-honest left all [] h f = tt
answered-honest left all (started a text ∷ hs) h f = answered-honest ((a, text) ∷ left) ((a, text) ∷ all) hs (last-pushed left all a text h) f
answered-honest left all (refused a text ∷ hs) h f = absurd f
answered-honest left all (replied a bytes ∷ hs) h f = (
  allowed-full (last_text a left) (last_text a all) bytes (h a) f.0,
  answered-honest (starts_without a left) all hs (λ b text e. h b text (last-without left a b text e).0) f.1,
)
answered-honest left all (broken a ∷ hs) h f = absurd f
