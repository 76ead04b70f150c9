-- Which labels of the key are fixed: those of linear rows and of free coordinates. The others are rows taken, or left.
use Rattle.std.proofs.Common.{◌≡◌, ◌↔◌, ⊎_elim, Bool, true, false, ℕ, List, ◌++◌, sym, ◌∙◌, arith}
use Rattle.std.specs.Prelude.{not}
use Rattle.std.specs.List.{Contains}
use Rattle.std.proofs.lemmas.Bool.{lt-ltb, le-ltb, cond-true, cond-false, false_from_ne_true, not_from_true, not_from_false}
use Rattle.std.proofs.lemmas.List.Elements.{Contains-append_left, Contains-append_cases}
use Rattle.poly_model.specs.Systems.{Row, row_of, Polyhedron}
use Rattle.poly_model.specs.Spaces.{is_member}
use Rattle.poly_model.specs.Labels.{coordinates_from, IsRow, IsCoordinate, is_row, coordinate_index}
use Rattle.dictionary.specs.Views.{Dictionary}
use Rattle.dictionary.specs.MainPhase.{stays_in}
use Rattle.listing_laws.specs.ListedCone.{ListedCone}
use Rattle.listing_laws.specs.Prefixes.{marked_labels}
use Rattle.plain_enum.specs.Standing.{StandsAt}
use Rattle.plain_enum.proofs.Parts.{distinct_apart, in_second, in_third}
use Rattle.plain_enum.proofs.RowsTaken.{as_many}
use Rattle.plain_enum.proofs.Standings.{taken_within, left_is_not_fixed}

-- of the labels of the key those are fixed that do not stay
abbrev pub FixedAre : List Row → List ℕ → Dictionary → List ℕ → Type 0
FixedAre rows free d fixed = (k : ℕ) → Contains d.key k → Contains fixed k ↔ (stays_in rows free k ≡ false)

module _ (rows : List Row) (free : List ℕ) where
  -- ---- the test of labels
  pub row_stays : (k : ℕ) → IsRow k → stays_in rows free k ≡ not (row_of rows k).linear
  row_stays k l =
      cond-true (is_row k) (not (row_of rows k).linear) (not (is_member (coordinate_index k) free)) (lt-ltb k coordinates_from l)

  pub coordinate_stays : (k : ℕ) → IsCoordinate k → stays_in rows free k ≡ not (is_member (coordinate_index k) free)
  coordinate_stays k l =
      cond-false (is_row k) (not (row_of rows k).linear) (not (is_member (coordinate_index k) free)) (le-ltb k coordinates_from l)

  -- ---- a label of the key
  module _ (d : Dictionary) (fixed : List ℕ) (are : FixedAre rows free d fixed) (k : ℕ) (c : Contains d.key k) where
    stays_if_not_fixed : (b : Bool) → stays_in rows free k ≡ not b → (Contains fixed k → ⊥) → b ≡ false
    stays_if_not_fixed b same n = false_from_ne_true b (λ e. n ((are k c).1 (same ∙ not_from_true b e)))

    not_fixed_if_stays : (b : Bool) → stays_in rows free k ≡ not b → b ≡ false → Contains fixed k → ⊥
    not_fixed_if_stays b same e f =
        let both : true ≡ false = sym (same ∙ not_from_false b e) ∙ (are k c).0 f in cc

    row_not_linear : IsRow k → (Contains fixed k → ⊥) → (row_of rows k).linear ≡ false
    row_not_linear l = stays_if_not_fixed (row_of rows k).linear (row_stays k l)

    row_not_fixed : IsRow k → (row_of rows k).linear ≡ false → Contains fixed k → ⊥
    row_not_fixed l = not_fixed_if_stays (row_of rows k).linear (row_stays k l)

    coordinate_not_free : IsCoordinate k → (Contains fixed k → ⊥) → is_member (coordinate_index k) free ≡ false
    coordinate_not_free l = stays_if_not_fixed (is_member (coordinate_index k) free) (coordinate_stays k l)

    coordinate_not_fixed : IsCoordinate k → is_member (coordinate_index k) free ≡ false → Contains fixed k → ⊥
    coordinate_not_fixed l = not_fixed_if_stays (is_member (coordinate_index k) free) (coordinate_stays k l)

-- ---- where a dictionary stands
module _ (p : Polyhedron) (cone : ListedCone) (d : Dictionary) (fixed left : List ℕ) (marks : List Bool)
    (s : StandsAt p cone d fixed left marks) where
  pub left_in_key : (k : ℕ) → Contains left k → Contains d.key k
  left_in_key k c = s.key.back k (in_third fixed (marked_labels marks) left k c)

  taken_low : (k : ℕ) → Contains (marked_labels marks) k → IsRow k
  taken_low k c = omega (arith, taken_within p cone d fixed left marks s k c, as_many p cone s.over, s.over.few)

  -- what is not fixed is a row taken, or left
  not_fixed_cases : (P : Type 0) (k : ℕ) → Contains d.key k → (Contains fixed k → ⊥) →
      (Contains (marked_labels marks) k → P) → (Contains left k → P) → P
  not_fixed_cases P k c n taken rest =
      ⊎_elim (λ f. absurd (n f)) (λ r. ⊎_elim taken rest (Contains-append_cases (marked_labels marks) left k r))
      (Contains-append_cases fixed (marked_labels marks ++ left) k (s.key.there k c))

  module _ (rows : List Row) (free : List ℕ) (are : FixedAre rows free d fixed) where
    -- the rows of the key that are not linear are those taken
    pub taken_not_linear : (k : ℕ) → Contains (marked_labels marks) k → (row_of rows k).linear ≡ false
    taken_not_linear k c =
        row_not_linear rows free d fixed are k
        (s.key.back k (in_second fixed (marked_labels marks) left k c)) (taken_low k c)
        (λ f. distinct_apart fixed (marked_labels marks ++ left) s.distinct k f
        (Contains-append_left (marked_labels marks) left k c))

    pub is_taken : (k : ℕ) → Contains d.key k → IsRow k → (row_of rows k).linear ≡ false → Contains (marked_labels marks) k
    is_taken k c low e =
        not_fixed_cases (Contains (marked_labels marks) k) k c (row_not_fixed rows free d fixed are k c low e) (λ t. t)
        (λ l. absurd (let high = s.coordinates k l in omega arith))

    -- the coordinates of the key that are not free are left
    pub left_not_free : (k : ℕ) → Contains left k → is_member (coordinate_index k) free ≡ false
    left_not_free k c =
        coordinate_not_free rows free d fixed are k (left_in_key k c) (s.coordinates k c)
        (λ f. left_is_not_fixed p cone d fixed left marks s k f c)

    pub is_left : (k : ℕ) → Contains d.key k → IsCoordinate k → is_member (coordinate_index k) free ≡ false → Contains left k
    is_left k c high e =
        not_fixed_cases (Contains left k) k c (coordinate_not_fixed rows free d fixed are k c high e)
        (λ t. absurd (let low = taken_low k t in omega arith)) (λ l. l)
