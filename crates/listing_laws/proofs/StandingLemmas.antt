-- Where a pass over the rows stands: their labels, the rows taken so far, and the dual vectors of those to come.
use Rattle.std.proofs.Common.{◌≡◌, ◌≢◌, ⊎_elim, Bool, true, false, ℕ, suc, ◌+◌, ◌-◌, ◌<◌, ◌≤◌, pos, List, [], ◌∷◌, length, sym, ap, ◌∙◌, subst, arith}
use Rattle.std.proofs.lemmas.Bool.{cases_eq}
use Rattle.std.specs.List.{Contains, slice_index_or}
use Rattle.poly_num.specs.Vectors.{Vector, ◌·◌}
use Rattle.poly_model.specs.Independence.{Vanish, IsNew, taken}
use Rattle.linear_laws.specs.NewRows.{AreNew}
use Rattle.linear_laws.proofs.Members.{Contains-first, Contains-later, Contains-cons_cases}
use Rattle.listing_laws.specs.ListedCone.{ListedCone, row_at}
use Rattle.listing_laws.specs.Prefixes.{labels_from}
use Rattle.listing_laws.specs.Directions.{DualVectors}
use Rattle.listing_laws.proofs.FirstLists.{taken-nil, labels_within}

-- ---- rows by their labels
-- the rows are those with the labels from j on
abbrev pub AreRowsFrom : ListedCone → ℕ → List Vector → Type 0
AreRowsFrom cone j [] = Unit {0}
AreRowsFrom cone j (g ∷ gs) = (row_at cone j ≡ g) × AreRowsFrom cone (suc j) gs

rows_from : (cone : ListedCone) (j : ℕ) (gs : List Vector) →
    ((i : ℕ) → i < length gs → row_at cone (j + i) ≡ slice_index_or gs i []) → AreRowsFrom cone j gs
rows_from cone j [] h = tt
rows_from cone j (g ∷ gs) h = (
  (let e : j + 0 ≡ j = omega arith in sym (ap (row_at cone) e) ∙ h 0 (omega arith)),
  rows_from cone (suc j) gs
      (λ i l. let e : suc j + i ≡ j + suc i = omega arith in ap (row_at cone) e ∙ h (suc i) (omega arith)),
)

pub rows_by_label : (cone : ListedCone) → AreRowsFrom cone 1 cone.rows
rows_by_label cone =
    rows_from cone 1 cone.rows
    (λ i l. let e : 1 + i - 1 ≡ i = omega arith in ap (λ k. slice_index_or cone.rows k []) e)

module _ {cone : ListedCone} {labels : List ℕ} (duals : DualVectors cone labels) where
  -- where the test stands: the rows `gs` have the labels from j on, those marked are the labels from j on, and the
  -- rows before are 0 at their dual vectors
  pub record Stands (j : ℕ) (before gs : List Vector) (ms : List Bool) : Type 0 where
    pub rows : AreRowsFrom cone j gs
    pub within : length ms ≤ length gs
    pub into : (k : ℕ) → Contains (labels_from j ms) k → Contains labels k
    pub back : (k : ℕ) → Contains labels k → j ≤ k → Contains (labels_from j ms) k
    pub zero_before : (k : ℕ) (c : Contains labels k) → j ≤ k → Vanish before (duals k c).vector

  -- ---- a row that is marked
  module _ (j : ℕ) (before : List Vector) (g : Vector) (gs : List Vector) (ms : List Bool)
      (s : Stands j before (g ∷ gs) (true ∷ ms)) where
    pub label : Contains labels j
    label = s.into j (Contains-first j (labels_from (suc j) ms))

    at_dual : (k : ℕ) (c : Contains labels k) → j ≢ k → g · (duals k c).vector ≡ pos 0
    at_dual k c n = subst (λ t. t · (duals k c).vector ≡ pos 0) s.rows.0 ((duals k c).elsewhere j label n)

    pub is_new : IsNew cone.n before g
    is_new =
        let d = duals j label in
        (d.vector, d.width, s.zero_before j label (omega arith), subst (λ t. t · d.vector ≢ pos 0) s.rows.0 d.here)

    pub after_taking : Stands (suc j) (g ∷ before) gs ms
    after_taking = record {
      rows = s.rows.1;
      within = (let l = s.within in omega arith);
      into = λ k c. s.into k (Contains-later k j (labels_from (suc j) ms) c);
      back = λ k c l.
          ⊎_elim (λ e. absurd (omega (arith, e))) (λ d. d)
          (Contains-cons_cases k j (labels_from (suc j) ms) (s.back k c (omega arith)));
      zero_before = λ k c l. (at_dual k c (λ e. omega (arith, e)), s.zero_before k c (omega arith));
    }

  -- ---- a row that is not
  module _ (j : ℕ) (before : List Vector) (g : Vector) (gs : List Vector) (ms : List Bool)
      (s : Stands j before (g ∷ gs) (false ∷ ms)) where
    no_label : Contains labels j → ⊥
    no_label c = let l = (labels_within (suc j) ms j (s.back j c (omega arith))).0 in omega arith

    pub after_skipping : Stands (suc j) before gs ms
    after_skipping = record {
      rows = s.rows.1;
      within = (let l = s.within in omega arith);
      into = s.into;
      back = λ k c l. s.back k c (omega arith);
      zero_before = λ k c l. s.zero_before k c (omega arith);
    }

    -- a label from j on is one from the next on
    pub later_label : (k : ℕ) → Contains labels k → j ≤ k → suc j ≤ k
    later_label k c l =
        ⊎_elim (λ (e : j ≡ k). absurd (no_label (subst (Contains labels) (sym e) c))) (λ (n : j ≢ k). omega (arith, n))
        (cases_eq j k)

  -- ---- the rows taken
  -- the rows of the labels from j on are 0 at w
  abbrev pub VanishFrom : ℕ → Vector → Type 0
  VanishFrom j w = (k : ℕ) → Contains labels k → j ≤ k → row_at cone k · w ≡ pos 0

  pub new_taken : (j : ℕ) (before gs : List Vector) (ms : List Bool) → Stands j before gs ms → AreNew cone.n before →
      AreNew cone.n (taken before gs ms)
  new_taken j before gs [] s a = subst (AreNew cone.n) (sym (taken-nil before gs)) a
  new_taken j before [] (m ∷ ms) s a = a
  new_taken j before (g ∷ gs) (true ∷ ms) s a =
      new_taken (suc j) (g ∷ before) gs ms (after_taking j before g gs ms s) (is_new j before g gs ms s, a)
  new_taken j before (g ∷ gs) (false ∷ ms) s a =
      new_taken (suc j) before gs ms (after_skipping j before g gs ms s) a

  pub vanish_from_labels : (j : ℕ) (before gs : List Vector) (ms : List Bool) → Stands j before gs ms → (w : Vector) →
      Vanish before w → VanishFrom j w → Vanish (taken before gs ms) w
  vanish_from_labels j before gs [] s w v h = subst (λ t. Vanish t w) (sym (taken-nil before gs)) v
  vanish_from_labels j before [] (m ∷ ms) s w v h = v
  vanish_from_labels j before (g ∷ gs) (true ∷ ms) s w v h =
      let e = subst (λ t. t · w ≡ pos 0) s.rows.0 (h j (label j before g gs ms s) (omega arith)) in
      vanish_from_labels (suc j) (g ∷ before) gs ms (after_taking j before g gs ms s) w (e, v)
      (λ k c l. h k c (omega arith))
  vanish_from_labels j before (g ∷ gs) (false ∷ ms) s w v h =
      vanish_from_labels (suc j) before gs ms (after_skipping j before g gs ms s) w v (λ k c l. h k c (omega arith))
