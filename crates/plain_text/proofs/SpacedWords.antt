-- Texts of words, each behind one blank: they are read word by word in one way, whatever stands behind them.
use Rattle.std.proofs.Common.{◌≡◌, ◌<◌, ◌≤◌, ℕ, List, [], ◌∷◌, ◌++◌, length, refl, sym, ap, ◌∙◌, append_assoc, append-nil, drop, subst, arith, length-append}
use Rattle.std.specs.List.{AllByRecursion, flat_map}
use Rattle.std.proofs.lemmas.List.Concat.{flat_map-append}
use Rattle.plain_text.specs.Cuts.{Lacks, GoesOnWith, CutsWord}
use Rattle.plain_text.proofs.CutLemmas.{one_cut}

module _ {A : Type 0} (May : A → Type 0) (word_of : A → List ℕ) where
  -- each word behind a blank
  abbrev pub spaced : List A → List ℕ
  spaced xs = flat_map (λ (x : A). 32 ∷ word_of x) xs

  pub spaced_goes_on : (xs : List A) → GoesOnWith 32 (spaced xs)
  spaced_goes_on [] = tt
  spaced_goes_on (x ∷ xs) = refl

  pub behind_goes_on : (xs : List A) (rest : List ℕ) → GoesOnWith 32 rest → GoesOnWith 32 (spaced xs ++ rest)
  behind_goes_on [] rest h = h
  behind_goes_on (x ∷ xs) rest h = refl

  -- one word more was cut off
  pub one_more : (front : List A) (x : A) (text rest word behind : List ℕ) → text ≡ spaced front ++ rest
      → rest ≡ 32 ∷ (word ++ behind) → word ≡ word_of x → text ≡ spaced (front ++ x ∷ []) ++ behind
  one_more front x text rest word behind is cut same =
      is ∙ ap (λ (l : List ℕ). spaced front ++ l) (cut ∙ ap (λ (l : List ℕ). 32 ∷ (l ++ behind)) same)
      ∙ sym (append_assoc (spaced front) (32 ∷ word_of x) behind)
      ∙ ap (λ (l : List ℕ). l ++ behind)
      (ap (λ (l : List ℕ). spaced front ++ l) (sym (append-nil (32 ∷ word_of x)))
      ∙ sym (flat_map-append (λ (y : A). 32 ∷ word_of y) front (x ∷ [])))

  -- the text is that of all the values with more behind it, and these are the first of them, with the rest behind them
  pub record AreFirst (xs front : List A) (text rest more : List ℕ) : Type 0 where
    pub front_may : AllByRecursion May front
    pub all_may : AllByRecursion May xs
    pub rest_goes_on : GoesOnWith 32 rest
    pub more_goes_on : GoesOnWith 32 more
    pub is : text ≡ spaced front ++ rest
    pub same : text ≡ spaced xs ++ more

  module _ (no_blank : (x : A) → May x → Lacks 32 (word_of x))
      (tells : (x y : A) → May x → May y → word_of x ≡ word_of y → x ≡ y) where
    -- what some values are written as begins that of others: they are the first of them
    pub begins : (front xs : List A) (rest more : List ℕ) → AllByRecursion May front → AllByRecursion May xs
        → GoesOnWith 32 rest → GoesOnWith 32 more → length front ≤ length xs → spaced front ++ rest ≡ spaced xs ++ more
        → (behind : List A) × (xs ≡ front ++ behind) × (rest ≡ spaced behind ++ more)
    begins [] xs rest more a b g h le e = (xs, refl, e)
    begins (x ∷ front) [] rest more a b g h le e = absurd (omega (arith, le))
    begins (x ∷ front) (y ∷ xs) rest more a b g h le e =
        let same : word_of x ++ (spaced front ++ rest) ≡ word_of y ++ (spaced xs ++ more) =
        sym (append_assoc (word_of x) (spaced front) rest) ∙ ap (λ (l : List ℕ). drop 1 l) e
        ∙ append_assoc (word_of y) (spaced xs) more in
        let k = one_cut 32 (word_of x) (spaced front ++ rest) (word_of y) (spaced xs ++ more) (no_blank x a.0)
        (behind_goes_on front rest g) (no_blank y b.0) (behind_goes_on xs more h) same in
        let is : x ≡ y = tells x y a.0 b.0 k.0 in
        let (behind, same_behind, rest_is) = begins front xs rest more a.1 b.1 g h (omega (arith, le)) k.1 in
        (behind, (λ i. sym is i ∷ same_behind i), rest_is)

    all_behind : (front behind : List A) → AllByRecursion May (front ++ behind) → AllByRecursion May behind
    all_behind [] behind h = h
    all_behind (x ∷ front) behind h = all_behind front behind h.1

    -- where values are left, the rest is a blank and the word of the next
    pub next_is : (xs front : List A) (text rest more : List ℕ) → AreFirst xs front text rest more → length front < length xs
        → (x : A) × (left : List A) × May x × (rest ≡ 32 ∷ (word_of x ++ (spaced left ++ more)))
    next_is xs front text rest more h lt =
        let (behind, parts, rest_is) = begins front xs rest more h.front_may h.all_may h.rest_goes_on h.more_goes_on
        (omega (arith, lt)) (sym h.is ∙ h.same) in
        by behind parts rest_is
      where
        by : (behind : List A) → xs ≡ front ++ behind → rest ≡ spaced behind ++ more
            → (x : A) × (left : List A) × May x × (rest ≡ 32 ∷ (word_of x ++ (spaced left ++ more)))
        by [] parts rest_is = absurd (omega (arith, ap (λ (l : List A). length l) parts, length-append front [], lt))
        by (x ∷ left) parts rest_is = (
          x,
          left,
          (all_behind front (x ∷ left) (subst (λ (l : List A). AllByRecursion May l) parts h.all_may)).0,
          rest_is ∙ ap (λ (l : List ℕ). 32 ∷ l) (append_assoc (word_of x) (spaced left) more),
        )

    pub next_exists : (xs front : List A) (text rest more : List ℕ) → AreFirst xs front text rest more
        → length front < length xs → ((left : List ℕ) → rest ≡ 32 ∷ left → ⊥) → ⊥
    next_exists xs front text rest more h lt none =
        let (x, left, may, is) = next_is xs front text rest more h lt in none _ is

    -- the next word is that of a value
    pub next_word_is : (xs front : List A) (text rest more cut word behind : List ℕ) → AreFirst xs front text rest more
        → length front < length xs → rest ≡ 32 ∷ cut → CutsWord cut word behind → (x : A) × May x × (word ≡ word_of x)
    next_word_is xs front text rest more cut word behind h lt at cuts =
        let (x, left, may, is) = next_is xs front text rest more h lt in
        let words : word ++ behind ≡ word_of x ++ (spaced left ++ more) =
        sym cuts.whole ∙ ap (λ (l : List ℕ). drop 1 l) (sym at ∙ is) in (
          x,
          may,
          (one_cut 32 word behind (word_of x) (spaced left ++ more) cuts.lacks cuts.goes_on (no_blank x may)
              (behind_goes_on left more h.more_goes_on) words).0,
        )

    -- as many values as there are: they are the same, and so is what stands behind them
    pub spaced_tell : (a b : List A) (rest more : List ℕ) → AllByRecursion May a → AllByRecursion May b → GoesOnWith 32 rest
        → GoesOnWith 32 more → length a ≡ length b → spaced a ++ rest ≡ spaced b ++ more → (a ≡ b) × (rest ≡ more)
    spaced_tell a b rest more p q g h count e =
        let (behind, parts, rest_is) = begins a b rest more p q g h (omega (arith, count)) e in
        by behind parts rest_is
      where
        by : (behind : List A) → b ≡ a ++ behind → rest ≡ spaced behind ++ more → (a ≡ b) × (rest ≡ more)
        by [] parts rest_is = (sym (append-nil a) ∙ sym parts, rest_is)
        by (x ∷ behind) parts rest_is =
            absurd (omega (arith, ap (λ (l : List A). length l) parts, length-append a (x ∷ behind), count))
