-- The last coordinate that is not free, among the first labels of a key.
use Rattle.std.proofs.Common.{◌≡◌, false, ℕ, ◌+◌, ◌<◌, ◌≤◌, List, ◌∷◌, length, sym, subst, ◌∙◌, get_or, arith}
use Rattle.std.proofs.lemmas.List.{get_or_default}
use Rattle.std.proofs.lemmas.List.Elements.{Contains-get_or}
use Rattle.std.specs.List.{Contains}
use Rattle.poly_model.specs.Labels.{IsCoordinate, coordinate_index}
use Rattle.poly_model.specs.Keys.{IsAscending}
use Rattle.poly_model.specs.Spaces.{is_member}
use Rattle.dictionary_laws.proofs.Members.{ascending_places}
use Rattle.dictionary.specs.Views.{Dictionary}
use Rattle.plain_enum.specs.Columns.{IsLeftCoordinate, LeavesNoCoordinate}
use Rattle.plain_enum.proofs.Parts.{with_next}

at_most : (xs : List ℕ) → IsAscending xs → (i : ℕ) → i < length xs → (k : ℕ) (c : Contains xs k) →
    c.0 ≤ i → k ≤ get_or xs i 0
at_most xs a i m k c l =
    subst (λ j. j ≤ get_or xs i 0) (get_or_default xs c.0 0 k c.1 ∙ c.2) (ascending_places xs a c.0 i l m)

module _ (free labels : List ℕ) where
  -- col is such a coordinate, and no other one before place i is above it
  pub record IsLastBefore (i col : ℕ) : Type 0 where
    pub inside : Contains labels col
    pub coordinate : IsCoordinate col
    pub not_free : is_member (coordinate_index col) free ≡ false
    pub last : (k : ℕ) (c : Contains labels k) → c.0 < i → IsCoordinate k → is_member (coordinate_index k) free ≡ false → k ≤ col

  -- there is none before place i
  abbrev pub NoneBefore : ℕ → Type 0
  NoneBefore i = (k : ℕ) (c : Contains labels k) → c.0 < i → IsCoordinate k → is_member (coordinate_index k) free ≡ false → ⊥

  -- ---- the label at place i
  module _ (ascending : IsAscending labels) (i : ℕ) (here : i < length labels) where
    abbrev label : ℕ
    label = get_or labels i 0

    pub is_last : IsCoordinate label → is_member (coordinate_index label) free ≡ false → IsLastBefore (i + 1) label
    is_last high out = record {
      inside = Contains-get_or labels i 0 here;
      coordinate = high;
      not_free = out;
      last = λ k c l a b. at_most labels ascending i here k c (omega arith);
    }

  module _ (i : ℕ) (other : IsCoordinate (get_or labels i 0) → is_member (coordinate_index (get_or labels i 0)) free ≡ false → ⊥) where
    pub stays_last : (col : ℕ) → IsLastBefore i col → IsLastBefore (i + 1) col
    stays_last col h = record {
      inside = h.inside;
      coordinate = h.coordinate;
      not_free = h.not_free;
      last = with_next (λ k. IsCoordinate k → is_member (coordinate_index k) free ≡ false → k ≤ col) labels i h.last
          (λ a b. absurd (other a b));
    }

    pub still_none : NoneBefore i → NoneBefore (i + 1)
    still_none h = with_next (λ k. IsCoordinate k → is_member (coordinate_index k) free ≡ false → ⊥) labels i h other

-- ---- behind the last label
module _ (d : Dictionary) (free labels : List ℕ) (same : labels ≡ d.key) (i : ℕ) (behind : length labels ≤ i) where
  pub is_left_coordinate : (col : ℕ) → IsLastBefore free labels i col → IsLeftCoordinate d free col
  is_left_coordinate col h = record {
    inside = subst (λ ks. Contains ks col) same h.inside;
    coordinate = h.coordinate;
    not_free = h.not_free;
    last = λ k m. let c = subst (λ ks. Contains ks k) (sym same) m in h.last k c (omega (arith, c.1));
  }

  pub leaves_none : NoneBefore free labels i → LeavesNoCoordinate d free
  leaves_none h k m = let c = subst (λ ks. Contains ks k) (sym same) m in h k c (omega (arith, c.1))
