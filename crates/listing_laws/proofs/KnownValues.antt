-- Known values of the definitions: a square, its cone, and the first list of its corner. A wrong definition does not
-- check.
use Rattle.std.proofs.Common.{◌≡◌, ⊎_elim, true, false, ℕ, [], ◌∷◌, refl, sym, subst}
use Rattle.std.specs.List.{All, Contains}
use Rattle.std.proofs.lemmas.List.Elements.{All-from_recursion}
use Rattle.poly_num.specs.Vectors.{Vector}
use Rattle.poly_model.specs.FreeColumns.{IsFree, IsZeroAtFree, AreFreeColumns}
use Rattle.poly_model.specs.Cones.{IsTight, coordinate}
use Rattle.poly_model.specs.Independence.{Vanish}
use Rattle.linear_laws.proofs.Members.{Contains-nil, Contains-first, Contains-cons_cases}
use Rattle.cone_laws.proofs.KnownValues.{square, strip, half_line, corner, axis, upward, bound, infinity}
use Rattle.cone_laws.proofs.KnownColumns.{square_has_no_free_column, height_is_free, only_height_is_free}
use Rattle.cone_laws.proofs.KnownExtremes.{corner_is_extreme}
use Rattle.listing_laws.specs.ListedCone.{ListedCone, IsConeOf, shows_of, cone_over}
use Rattle.listing_laws.specs.Lists.{Lists}
use Rattle.listing_laws.specs.Prefixes.{marked_labels, taken_at, IsCornerUnder}
use Rattle.listing_laws.proofs.BaseLemmas.{nothing_is_base, first_basis_is_base}
use Rattle.listing_laws.proofs.ConeLemmas.{extreme_is_shown_corner}

-- ---- lists
-- a vector is not listed twice
listed_twice : (P : Vector → Type 0) (x : Vector) → Lists P (x ∷ x ∷ []) → ⊥
listed_twice P x l = l.distinct.0 (Contains-first x [])

-- of five rows the second and the third
labels_of_marks : marked_labels (false ∷ true ∷ true ∷ false ∷ false ∷ []) ≡ 2 ∷ 3 ∷ []
labels_of_marks = refl

-- the last row that was taken stands first
taken_of_square : taken_at (cone_over [] square) (true ∷ true ∷ []) ≡ upward ∷ axis ∷ []
taken_of_square = refl

-- ---- what is shown of a V file
bound_is_shown : shows_of half_line.kind half_line.rows bound ≡ true
bound_is_shown = refl

infinity_is_not_shown : shows_of half_line.kind half_line.rows infinity ≡ false
infinity_is_not_shown = refl

-- ---- the unit square
-- its rows: 1 says x >= 0, 2 says y >= 0, 3 says x <= 1, 4 says y <= 1, and 5 is at infinity
abbrev pub square_cone : ListedCone
square_cone = cone_over [] square

pub square_has_cone : IsConeOf square square_cone
square_has_cone = nothing_is_base square columns none
  where
    columns : AreFreeColumns square []
    columns = record {
      ascending = tt;
      exactly = λ j. (λ f. absurd (square_has_no_free_column j f), λ m. absurd (Contains-nil j m));
    }

    none : All (λ row. row.linear ≡ true → ⊥) square.rows
    none =
        All-from_recursion (λ row. row.linear ≡ true → ⊥) square.rows
        (λ e. cc, (λ e. cc, (λ e. cc, (λ e. cc, (λ e. cc, tt)))))

-- with x >= 0 for a base it is another cone
not_with_a_base : IsConeOf square (cone_over (axis ∷ []) square) → ⊥
not_with_a_base is = by ((is.fixed axis refl).1 (free, linear))
  where
    free : IsZeroAtFree square axis
    free j f = absurd (square_has_no_free_column j f)

    linear : All (λ row. row.linear ≡ true → IsTight axis row) square.rows
    linear =
        All-from_recursion (λ row. row.linear ≡ true → IsTight axis row) square.rows
        (λ e. cc, (λ e. cc, (λ e. cc, (λ e. cc, (λ e. cc, tt)))))

    by : Vanish (axis ∷ []) axis → ⊥
    by v = let e = v.0 in cc

-- the list of the corner (0, 0) are the rows 1 and 2
list_of_corner : IsCornerUnder square_cone (true ∷ true ∷ false ∷ false ∷ false ∷ []) corner
list_of_corner = (
  (extreme_is_shown_corner square square_cone square_has_cone corner).0 corner_is_extreme,
  (
    refl,
    (axis, refl, tt, λ e. cc),
    (refl, (upward, refl, (refl, tt), λ e. cc), ((λ e. cc), ((λ e. cc), ((λ e. cc), tt)))),
  ),
)

-- so row 2 cannot be left out
not_without_row_2 : IsCornerUnder square_cone (true ∷ false ∷ []) corner → ⊥
not_without_row_2 u = let e = u.1.2.0 refl upward refl (refl, tt) in cc

-- ---- the strip 0 <= x <= 1
-- the column of y is free: the base reads it
strip_has_cone : IsConeOf strip (cone_over (coordinate 2 ∷ []) strip)
strip_has_cone = first_basis_is_base strip (2 ∷ []) (true ∷ []) columns ((upward, refl, tt, λ e. cc), tt)
  where
    free_at : (j : ℕ) → Contains (2 ∷ []) j → IsFree strip j
    free_at j c =
        ⊎_elim (λ e. subst (IsFree strip) e height_is_free) (λ d. absurd (Contains-nil j d))
        (Contains-cons_cases j 2 [] c)

    columns : AreFreeColumns strip (2 ∷ [])
    columns = record {
      ascending = (tt, tt);
      exactly = λ j. (
        λ f. subst (Contains (2 ∷ [])) (sym (only_height_is_free j f)) (Contains-first 2 []),
        free_at j,
      );
    }

-- without a base it is not that of the strip: the line is 0 on nothing, and is not 0 at the free column
not_without_a_base : IsConeOf strip (cone_over [] strip) → ⊥
not_without_a_base is = let e = ((is.fixed upward refl).0 tt).0 2 height_is_free in cc
