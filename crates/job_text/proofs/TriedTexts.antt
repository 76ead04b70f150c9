-- Whether there is a key, a place or an overflow with a text for which something holds can be found out by trying, where it
-- can be found out of each.
use Rattle.std.proofs.Common.{◌≡◌, ◌⊎◌, ◌*◌, ℕ, List, ◌∷◌, ◌++◌, take, drop, refl, sym, ◌∙◌, subst, inl, inr, Option, Some, None}
use Rattle.std.specs.Prelude.{◌==◌, ◌+◌, position}
use Rattle.plain_text.specs.Cuts.{CutsLine, Lacks}
use Rattle.plain_text.proofs.CutLemmas.{cuts_line, lacks_all, lacks_none, one_line}
use Rattle.poly_model.specs.declared.overflow.Overflow.{Overflow}
use Rattle.poly_model.specs.declared.overflow.Phase.{Phase}
use Rattle.poly_model.specs.declared.overflow.Phase.TheVariants as phases
use Rattle.poly_model.specs.declared.overflow.Place.{Place}
use Rattle.poly_model.specs.Keys.{IsAscending}
use Rattle.poly_model.specs.Labels.{constant_label, coordinates_from}
use Rattle.poly_model.specs.Limits.{most_labels}
use Rattle.job_text.specs.KeyTexts.{HasKeyText, IsPlaceLabel}
use Rattle.job_text.specs.Overflows.{HasOverflowText, HasPlaceText}
use Rattle.job_text.proofs.JobOrBadLemmas.{Below, Known, both, is_ascending, list_below, number_below}

-- the same of what says the same
pub known_as : {P Q : Type 0} → (P → Q) → (Q → P) → Known P → Known Q
known_as there back (inl p) = inl (there p)
known_as there back (inr none) = inr (λ q. none (back q))

pub known_or : {P Q : Type 0} → Known P → Known Q → Known (P ⊎ Q)
known_or (inl p) q = inl (inl p)
known_or (inr none) (inl q) = inl (inr q)
known_or (inr none) (inr never) = inr (λ h. elim h [ inl p ↦ none p | inr q ↦ never q ])

-- ---- keys and places

pub key_some : (P : List ℕ → Type 0) → ((key : List ℕ) → Known (P key)) → Known ((key : List ℕ) × HasKeyText key × P key)
key_some P known = known_as
    (λ f. let (key, room, labels, k) = f in (key, record { is_key = record { room = room; ascending = k.0 }; labels = labels }, k.1))
    (λ h. let (key, k, p) = h in (key, k.is_key.room, k.labels, (k.is_key.ascending, p)))
    (list_below most_labels (2 * coordinates_from) (λ key. IsAscending key × P key) (λ key. both (is_ascending key) (known key)))

label_some : (P : ℕ → Type 0) → ((l : ℕ) → Known (P l)) → Known ((l : ℕ) × IsPlaceLabel l × P l)
label_some P known = by (number_below (2 * coordinates_from) P known) (known constant_label)
  where
    by : Known (Below (2 * coordinates_from) P) → Known (P constant_label) → Known ((l : ℕ) × IsPlaceLabel l × P l)
    by (inl found) last = let (l, lt, p) = found in inl (l, inl lt, p)
    by (inr none) (inl p) = inl (constant_label, inr refl, p)
    by (inr none) (inr never) = inr (λ h.
        let (l, is, p) = h in
        elim is [
          | inl lt ↦ none (l, lt, p)
          | inr e ↦ never (subst P e p)
        ])

abbrev AtRow : (Place → Type 0) → ℕ → Type 0
AtRow P row = (column : ℕ) × IsPlaceLabel column × P (record { row = row; col = column })

place_some : (P : Place → Type 0) → ((place : Place) → Known (P place)) → Known ((place : Place) × HasPlaceText place × P place)
place_some P known = known_as there back
    (label_some (AtRow P) (λ row. label_some (λ column. P (record { row = row; col = column })) (λ column. known (record { row = row; col = column }))))
  where
    there : ((row : ℕ) × IsPlaceLabel row × AtRow P row) → (place : Place) × HasPlaceText place × P place
    there f = let (row, r, at) = f in let (column, c, p) = at in (record { row = row; col = column }, record { row = r; column = c }, p)

    back : ((place : Place) × HasPlaceText place × P place) → (row : ℕ) × IsPlaceLabel row × AtRow P row
    back h = let (place, has, p) = h in (place.row, has.row, (place.col, has.column, p))

phase_some : (P : Phase → Type 0) → ((phase : Phase) → Known (P phase)) → Known ((phase : Phase) × P phase)
phase_some P known = by (known phases.Cone) (known phases.Prepare) (known phases.Main) (known phases.First)
  where
    none : (P phases.Cone → ⊥) → (P phases.Prepare → ⊥) → (P phases.Main → ⊥) → (P phases.First → ⊥) → (phase : Phase) → P phase → ⊥
    none a b c d phases.Cone p = a p
    none a b c d phases.Prepare p = b p
    none a b c d phases.Main p = c p
    none a b c d phases.First p = d p

    by : Known (P phases.Cone) → Known (P phases.Prepare) → Known (P phases.Main) → Known (P phases.First) → Known ((phase : Phase) × P phase)
    by (inl p) b c d = inl (phases.Cone, p)
    by (inr x) (inl p) c d = inl (phases.Prepare, p)
    by (inr x) (inr y) (inl p) d = inl (phases.Main, p)
    by (inr x) (inr y) (inr z) (inl p) = inl (phases.First, p)
    by (inr x) (inr y) (inr z) (inr w) = inr (λ h. none x y z w h.0 h.1)

-- ---- overflows

module _ (P : Overflow → Type 0) where
  abbrev At : Phase → List ℕ → Place → Place → Place → Place → Type 0
  At phase key a b c d = P (record { phase = phase; key = key; a = a; b = b; c = c; d = d })

  abbrev AtC : Phase → List ℕ → Place → Place → Place → Type 0
  AtC phase key a b c = (d : Place) × HasPlaceText d × At phase key a b c d

  abbrev AtB : Phase → List ℕ → Place → Place → Type 0
  AtB phase key a b = (c : Place) × HasPlaceText c × AtC phase key a b c

  abbrev AtA : Phase → List ℕ → Place → Type 0
  AtA phase key a = (b : Place) × HasPlaceText b × AtB phase key a b

  abbrev AtKey : Phase → List ℕ → Type 0
  AtKey phase key = (a : Place) × HasPlaceText a × AtA phase key a

  abbrev AtPhase : Phase → Type 0
  AtPhase phase = (key : List ℕ) × HasKeyText key × AtKey phase key

  there : ((phase : Phase) × AtPhase phase) → (o : Overflow) × HasOverflowText o × P o
  there f =
      let (phase, g) = f in
      let (key, k, h) = g in
      let (a, la, i) = h in
      let (b, lb, j) = i in
      let (c, lc, l) = j in
      let (d, ld, p) = l in
      (record { phase = phase; key = key; a = a; b = b; c = c; d = d }, record { key = k; a = la; b = lb; c = lc; d = ld }, p)

  back : ((o : Overflow) × HasOverflowText o × P o) → (phase : Phase) × AtPhase phase
  back h =
      let (o, has, p) = h in
      let at_d : AtC o.phase o.key o.a o.b o.c = (o.d, has.d, p) in
      let at_c : AtB o.phase o.key o.a o.b = (o.c, has.c, at_d) in
      let at_b : AtA o.phase o.key o.a = (o.b, has.b, at_c) in
      let at_a : AtKey o.phase o.key = (o.a, has.a, at_b) in
      let at_key : AtPhase o.phase = (o.key, has.key, at_a) in
      (o.phase, at_key)

  pub overflow_some : ((o : Overflow) → Known (P o)) → Known ((o : Overflow) × HasOverflowText o × P o)
  overflow_some known = known_as there back
      (phase_some AtPhase (λ phase. key_some (AtKey phase) (λ key. place_some (AtA phase key) (λ a. place_some (AtB phase key a)
      (λ b. place_some (AtC phase key a b) (λ c. place_some (At phase key a b c)
      (λ d. known (record { phase = phase; key = key; a = a; b = b; c = c; d = d }))))))))

-- ---- lines

-- a text with a LF is cut at its first
pub cut_line : (text : List ℕ) → ((line : List ℕ) × (rest : List ℕ) × CutsLine text line rest) ⊎ Lacks 10 text
cut_line text = by (position (λ b. b == 10) text) refl
  where
    by : (found : Option ℕ) → position (λ b. b == 10) text ≡ found → ((line : List ℕ) × (rest : List ℕ) × CutsLine text line rest) ⊎ Lacks 10 text
    by (Some n) e = inl (take n text, drop (n + 1) text, cuts_line text n e)
    by None e = inr (lacks_all 10 text e)

-- a line with P stands in front of the text
abbrev pub Front : (List ℕ → Type 0) → List ℕ → Type 0
Front P text = (line : List ℕ) × (rest : List ℕ) × P line × (text ≡ line ++ 10 ∷ rest)

pub front_some : (P : List ℕ → Type 0) → ((line : List ℕ) → P line → Lacks 10 line) → ((line : List ℕ) → Known (P line)) → (text : List ℕ) →
    Known (Front P text)
front_some P lack known text = elim (cut_line text) [
  | inl cut ↦ let (line, rest, c) = cut in with_line line rest c (known line)
  | inr lacks ↦ inr (λ h. let (line, rest, p, is) = h in lacks_none 10 line rest (subst (Lacks 10) is lacks))
]
  where
    with_line : (line rest : List ℕ) → CutsLine text line rest → Known (P line) → Known (Front P text)
    with_line line rest c (inl p) = inl (line, rest, p, c.whole)
    with_line line rest c (inr none) = inr (λ h.
        let (other, more, p, is) = h in
        none (subst P (sym (one_line line rest other more c.lacks (lack other p) (sym c.whole ∙ is)).0) p))
