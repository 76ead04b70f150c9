-- Where rows leave one direction, the local test by the values at dual vectors says whether the rows taken are the
-- first independent list of the rows tight there.
use Rattle.std.proofs.Common.{◌≡◌, ◌≢◌, ◌↔◌, ⊎_elim, Bool, true, false, ℕ, suc, ◌<◌, ◌≤◌, pos, List, [], ◌∷◌, length, sym, ap, ◌∙◌, subst, arith}
use Rattle.std.proofs.lemmas.Bool.{cases_eq}
use Rattle.std.specs.List.{Contains}
use Rattle.poly_num.specs.Vectors.{Vector, ◌·◌}
use Rattle.poly_num.proofs.Order.{zero_factor}
use Rattle.poly_model.specs.Independence.{Vanish, Follows}
use Rattle.linear_laws.specs.LocalTest.{AreFirstTight, HaveSameZeros}
use Rattle.linear_laws.proofs.Members.{Contains-nil}
use Rattle.listing_laws.specs.ListedCone.{ListedCone, row_at}
use Rattle.listing_laws.specs.Prefixes.{labels_from}
use Rattle.listing_laws.specs.Directions.{DualVectors, IsLeft}
use Rattle.listing_laws.proofs.FirstLists.{labels_within}
use Rattle.listing_laws.proofs.StandingLemmas.{Stands, VanishFrom, label, is_new, after_taking, after_skipping, later_label}
use Rattle.listing_laws.proofs.ClearedVectors.{Cleared, clear_all}

module _ {cone : ListedCone} {labels : List ℕ} (duals : DualVectors cone labels) where
  module _ (z : Vector) (left : IsLeft cone labels z) where
    -- what is 0 at z is 0 wherever the rows before and those of the labels from j on are
    abbrev pub LeavesOnly : ℕ → List Vector → Type 0
    LeavesOnly j before =
        (g w : Vector) → g · z ≡ pos 0 → length w ≡ cone.n → Vanish before w → VanishFrom duals j w → g · w ≡ pos 0

    -- the test of the rows from the label j on
    abbrev pub PassesFrom : ℕ → Type 0
    PassesFrom j =
        (i : ℕ) → j ≤ i → row_at cone i · z ≡ pos 0 →
        (k : ℕ) (c : Contains labels k) → i < k → row_at cone i · (duals k c).vector ≡ pos 0

    -- what is 0 at z and at the dual vectors of the labels from j on follows from the rows before
    follows : (j : ℕ) (before gs : List Vector) (ms : List Bool) → Stands duals j before gs ms → LeavesOnly j before →
        (g : Vector) → g · z ≡ pos 0 →
        ((k : ℕ) (c : Contains labels k) → j ≤ k → g · (duals k c).vector ≡ pos 0) → Follows cone.n before g
    follows j before gs ms s only g e h w l v =
        by (clear_all duals before g w (labels_from j ms) l v s.into
        (λ k m. s.zero_before k (s.into k m) (labels_within j ms k m).0)
        (λ k m. h k (s.into k m) (labels_within j ms k m).0))
      where
        by : Cleared duals before g w (labels_from j ms) → g · w ≡ pos 0
        by r =
            let x = only g r.vector e r.width r.zero_before (λ k c m. r.cleared k (s.back k c m)) in
            zero_factor r.factor (g · w) (sym r.value ∙ x) r.nonzero

    -- ---- it holds exactly where the marks are those of the first independent list
    pub test_is_first : (y : Vector) → HaveSameZeros y z → (j : ℕ) (before gs : List Vector) (ms : List Bool) →
        Stands duals j before gs ms → LeavesOnly j before → PassesFrom j ↔ AreFirstTight cone.n before y gs ms
    test_is_first y same j before gs [] s only =
        (λ p. tt, λ h i l e k c m. absurd (Contains-nil k (s.back k c (omega arith))))
    test_is_first y same j before [] (m ∷ ms) s only = absurd (let l = s.within in omega arith)
    test_is_first y same j before (g ∷ gs) (true ∷ ms) s only =
        let go = test_is_first y same (suc j) (g ∷ before) gs ms (after_taking duals j before g gs ms s) only_later in (
          λ p. (tight, is_new duals j before g gs ms s, go.0 (λ i l. p i (omega arith))),
          λ h i l e k c m.
              ⊎_elim
              (λ (q : i ≡ j). (duals k c).elsewhere i (subst (Contains labels) (sym q) (label duals j before g gs ms s))
              (λ r. omega (arith, r)))
              (λ (n : i ≢ j). go.1 h.2 i (omega (arith, n)) e k c m)
              (cases_eq i j),
        )
      where
        tight : g · y ≡ pos 0
        tight = (same g).1 (subst (λ t. t · z ≡ pos 0) s.rows.0 (left.taken j (label duals j before g gs ms s)))

        only_later : LeavesOnly (suc j) (g ∷ before)
        only_later f w e l v h =
            only f w e l v.1
            (λ k c m.
            ⊎_elim (λ (q : k ≡ j). subst (λ (i : ℕ). row_at cone i · w ≡ pos 0) (sym q)
            (subst (λ t. t · w ≡ pos 0) (sym s.rows.0) v.0))
            (λ (n : k ≢ j). h k c (omega (arith, n))) (cases_eq k j))
    test_is_first y same j before (g ∷ gs) (false ∷ ms) s only =
        let next = after_skipping duals j before g gs ms s in
        let go = test_is_first y same (suc j) before gs ms next only_later in (
          λ p. (
            λ t. follows j before (g ∷ gs) (false ∷ ms) s only g ((same g).0 t) (entries p ((same g).0 t)),
            go.0 (λ i l. p i (omega arith)),
          ),
          λ h i l e k c m.
              ⊎_elim (λ (q : i ≡ j). at_dual_of h.0 i q e k c m)
              (λ (n : i ≢ j). go.1 h.1 i (omega (arith, n)) e k c m)
              (cases_eq i j),
        )
      where
        only_later : LeavesOnly (suc j) before
        only_later f w e l v h = only f w e l v (λ k c m. h k c (later_label duals j before g gs ms s k c m))

        entries : PassesFrom j → g · z ≡ pos 0 → (k : ℕ) (c : Contains labels k) → j ≤ k →
            g · (duals k c).vector ≡ pos 0
        entries p e k c l =
            let n = later_label duals j before g gs ms s k c l in
            subst (λ t. t · (duals k c).vector ≡ pos 0) s.rows.0
            (p j (omega arith) (subst (λ t. t · z ≡ pos 0) (sym s.rows.0) e) k c (omega arith))

        at_dual_of : (g · y ≡ pos 0 → Follows cone.n before g) → (i : ℕ) → i ≡ j → row_at cone i · z ≡ pos 0 →
            (k : ℕ) (c : Contains labels k) → i < k → row_at cone i · (duals k c).vector ≡ pos 0
        at_dual_of f i q e k c m =
            let is : row_at cone i ≡ g = ap (row_at cone) q ∙ s.rows.0 in
            let d = duals k c in
            subst (λ t. t · d.vector ≡ pos 0) (sym is)
            (f ((same g).1 (subst (λ t. t · z ≡ pos 0) is e)) d.vector d.width (s.zero_before k c (omega (arith, q))))
