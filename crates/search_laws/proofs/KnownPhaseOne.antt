-- What the known roots share: the rows x >= 0, x - 1 >= 0 and a third one, the start cobasis {1}, the cobasis {1, 2} of
-- the space with t, and what holds of these whatever the third row is.
use Rattle.std.proofs.Common.{◌≡◌, ◌⊎◌, inl, ◌≤◌, ℕ, ℤ, pos, negsuc, List, [], ◌∷◌, length, refl, sym, subst, ◌∙◌, arith}
use Rattle.std.specs.Prelude.{◌≤ℤ◌, ◌<ℤ◌}
use Rattle.std.specs.List.{AllByRecursion, Contains}
use Rattle.std.proofs.lemmas.Int.{ints}
use Rattle.poly_num.specs.Vectors.{Vector, ◌·◌, IsZero}
use Rattle.poly_model.specs.Spaces.{Space, lifted}
use Rattle.poly_model.specs.Dictionaries.{Table}
use Rattle.poly_model.specs.LexOrder.{rows_in, IsEarlier}
use Rattle.poly_model.specs.Tree.{IsRowOutside, Leaves, exchanged_key}
use Rattle.poly_model.specs.PhaseOne.{lowering_root, IsFirstWorst}
use Rattle.poly_model.specs.Lowering.{IsLoweringStep}
use Rattle.linear_laws.specs.Distinct.{AreDistinct}
use Rattle.linear_laws.proofs.Members.{Contains-first, Contains-later, all_at}
use Rattle.linear_laws.proofs.Signs.{not_both}
use Rattle.dictionary_laws.proofs.KeyExchange.{ascending_distinct}
use Rattle.dictionary_laws.proofs.PhasePoints.{point_of_lifted}
use Rattle.tree_laws.proofs.OrderLemmas.{row_outside}
use Rattle.tree_laws.proofs.KnownTables.{HasEnoughLabels, space_of, has_enough_labels, number_at, line_of, IsLineOf, IsSolved, one_is_least}
use Rattle.search_laws.specs.PhaseOne.{HasNoRowZero}
use Rattle.search_laws.proofs.LiftedForms.{same_infinity, value_of_t, value_without}

-- a table whose key may have the label 0, by the constant and the entries of each label
abbrev pub table_with_t : ℤ → List ℕ → List ℕ → List ℤ → List (List ℤ) → Table
table_with_t denominator key labels constants lines = record {
  denominator = denominator;
  constant = λ i. number_at i labels constants;
  entry = λ i k. number_at k key (line_of i labels lines);
}

-- rows 1: x >= 0, 2: x - 1 >= 0, and 3
abbrev pub space_with : Vector → Space
space_with third = space_of 2 ((pos 0 ∷ pos 1 ∷ []) ∷ (negsuc 0 ∷ pos 1 ∷ []) ∷ third ∷ [])

abbrev pub start : List ℕ
start = 1 ∷ []

-- with t
abbrev pub first_with : Vector → Space
first_with third = lifted (space_with third) start

abbrev pub root : List ℕ
root = 1 ∷ 2 ∷ []

pub first_key : lowering_root start 2 ≡ root
first_key = refl

-- with t it is so too
with_t : (space : Space) (start : List ℕ) → HasNoRowZero space → HasEnoughLabels space →
    HasEnoughLabels (lifted space start)
with_t space start none h = record { points = point_of_lifted space start h.points; enough = enough }
  where
    enough : (z : Vector) → length z ≡ (lifted space start).n → (lifted space start).infinity · z ≡ pos 0 →
        ((i : ℕ) → Contains (lifted space start).labels i → (lifted space start).form i · z ≡ pos 0) → IsZero z
    enough [] w l v = tt
    enough (x ∷ z) w l v = (t_is_zero, h.enough z (omega arith) (sym (same_infinity space start x z) ∙ l) rest)
      where
        t_is_zero : x ≡ pos 0
        t_is_zero = sym (value_of_t space start x z) ∙ v 0 (Contains-first 0 space.labels)

        rest : (i : ℕ) → Contains space.labels i → space.form i · z ≡ pos 0
        rest i c =
            sym (value_without space start i (λ e. none (subst (Contains space.labels) e c)) x z t_is_zero)
            ∙ v i (Contains-later i 0 space.labels c)

module _ (third : Vector) where
  abbrev rows : List Vector
  rows = (pos 0 ∷ pos 1 ∷ []) ∷ (negsuc 0 ∷ pos 1 ∷ []) ∷ third ∷ []

  pub no_row_zero : HasNoRowZero (space_with third)
  no_row_zero c =
      all_at (λ k. k ≡ 0 → ⊥) (space_with third).labels
      (λ e. omega arith, (λ e. omega arith, (λ e. omega arith, (λ e. omega arith, tt)))) 0 c refl

  pub first_has_enough_labels : HasEnoughLabels (first_with third)
  first_has_enough_labels =
      with_t (space_with third) start no_row_zero (has_enough_labels 2 rows (pos 0 ∷ []) refl)

  -- ---- a table over 1 with the lines of the labels is a dictionary
  pub start_is_solved : (t : Table) → t.denominator ≡ pos 1 →
      AllByRecursion (IsLineOf (space_with third) start t) (space_with third).labels →
      IsSolved (space_with third) start t
  start_is_solved t one lines = record {
    labels = has_enough_labels 2 rows (pos 0 ∷ []) refl;
    ascending = (tt, tt);
    rows = ((0, omega arith, refl), tt);
    directions = (pos 0 ∷ pos 1 ∷ []) ∷ [];
    independent = (((refl, tt, refl), tt, λ e. cc), tt);
    lines = lines;
    least = one_is_least (space_with third) start t one;
  }

  pub root_is_solved : (t : Table) → t.denominator ≡ pos 1 →
      AllByRecursion (IsLineOf (first_with third) root t) (first_with third).labels → IsSolved (first_with third) root t
  root_is_solved t one lines = record {
    labels = first_has_enough_labels;
    ascending = ((omega arith, tt), (tt, tt));
    rows = ((1, omega arith, refl), ((2, omega arith, refl), tt));
    directions = (pos 0 ∷ pos 0 ∷ pos 1 ∷ []) ∷ (pos 1 ∷ pos 0 ∷ pos 0 ∷ []) ∷ [];
    independent = (((refl, tt, refl), tt, λ e. cc), (((refl, tt, refl), (refl, tt), λ e. cc), tt));
    lines = lines;
    least = one_is_least (first_with third) root t one;
  }

  -- ---- rows
  pub both_rows : (P : ℕ → Type 0) → P 2 → P 3 → (i : ℕ) → IsRowOutside (space_with third).labels start i → P i
  both_rows P p q i o = all_at P (2 ∷ 3 ∷ []) (p, (q, tt)) i (row_outside (space_with third) start i o)

  pub rows_are_distinct : AreDistinct (rows_in (space_with third).labels)
  rows_are_distinct =
      ascending_distinct (rows_in (space_with third).labels)
      ((omega arith, (omega arith, tt)), ((omega arith, tt), (tt, tt)))

  -- ---- steps
  -- row 2 is the first of the worst rows where the constant of row 3 is not less
  pub second_is_worst : (t : Table) → t.constant 2 <ℤ pos 0 → t.constant 2 ≤ℤ t.constant 3 →
      IsFirstWorst (space_with third) start t 2
  second_is_worst t negative least = record {
    worst = record {
      row = record {
        row = (1, omega arith, refl);
        outside = λ c. all_at (λ k. k ≡ 2 → ⊥) start (λ e. omega arith, tt) 2 c refl;
      };
      negative = negative;
      least = both_rows (λ i. t.constant 2 ≤ℤ t.constant i) (itself (t.constant 2)) least;
    };
    first = λ i w. both_rows (λ k. 2 ≤ k) (omega arith) (omega arith) i w.row;
  }
    where
      itself : (a : ℤ) → a ≤ℤ a
      itself a = omega (arith, ints)

  -- t is lowered in the column of row 1, where it is negative there alone
  pub lowers_first : (t : Table) (r : ℕ) → t.entry 0 1 <ℤ pos 0 → pos 0 ≤ℤ t.entry 0 2 →
      Leaves (first_with third).labels root root t 1 r →
      IsLoweringStep (first_with third).labels root 0 root t (exchanged_key root 1 r)
  lowers_first t r down up leaves = record {
    s = 1;
    lowers = record {
      column = (0, omega arith, refl);
      negative = down;
      least = all_at (λ k. t.entry 0 k <ℤ pos 0 → (k ≡ 1) ⊎ IsEarlier (first_with third).labels root 1 k) root
          (λ h. inl refl, (λ h. absurd (not_both (t.entry 0 2) h up), tt));
    };
    neighbour = record { column = (0, omega arith, refl); r = r; leaves = leaves; exchange = refl };
  }
