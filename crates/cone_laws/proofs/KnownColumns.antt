-- Free columns and lines that are known from a drawing: a wrong definition does not check.
use Rattle.std.proofs.Common.{◌≡◌, ◌≢◌, ℕ, zero, suc, pos, negsuc, ◌*ℤ◌, List, [], ◌∷◌, length, take, arith, refl, sym, ap, subst, ◌∙◌}
use Rattle.std.specs.Prelude.{◌<◌}
use Rattle.std.proofs.lemmas.Int.{ints}
use Rattle.std.specs.List.{AllByRecursion, slice_index_or}
use Rattle.std.proofs.lemmas.List.Elements.{All-from_recursion}
use Rattle.poly_num.specs.Vectors.{Vector, ◌·◌, IsZero}
use Rattle.poly_num.specs.Divisors.{gcd_in, gcd_of}
use Rattle.poly_num.proofs.Order.{zero_factor}
use Rattle.poly_num.proofs.PrimitiveLemmas.{primitive_from_gcd, gcd_from_primitive}
use Rattle.poly_model.specs.Systems.{System}
use Rattle.poly_model.specs.Cones.{at, IsTight}
use Rattle.poly_model.specs.FreeColumns.{IsFree, IsZeroAtFree, IsLine, AreFreeColumns, AreLinesOf, AreLines}
use Rattle.linear_laws.proofs.Signs.{one_is_not_zero}
use Rattle.cone_laws.proofs.KnownValues.{row_of, row_at, square, quadrant, half_plane, strip, plane, diagonal, upward}

-- a vector of j entries, and one whose first j entries are 0
front_zero : (j : ℕ) (w g : Vector) → length w ≡ j → IsZero (take j g) → w · g ≡ pos 0
front_zero j [] g l z = refl
front_zero zero (x ∷ w) g l z = absurd (omega arith)
front_zero (suc j) (x ∷ w) [] l z = refl
front_zero (suc j) (x ∷ w) (a ∷ g) l z =
    let e : a ≡ pos 0 = z.0 in
    let f = front_zero j w g (omega arith) z.1 in
    rw (e, f) (omega (arith, ints))

-- a column in which row k begins is not free
pub begins_not_free : (sys : System) (j k : ℕ) → k < length sys.rows → IsZero (take j (row_at sys k).entries) →
    at j (row_at sys k).entries ≢ pos 0 → IsFree sys j → ⊥
begins_not_free sys j k l z n f =
    let e = f.combines k (row_of []) l in
    let g = front_zero j f.weights (row_at sys k).entries f.earlier z in
    n (zero_factor f.factor (at j (row_at sys k).entries) (e ∙ g) f.nonzero)

-- ---- free columns
-- a column that is this combination of the earlier ones
combined_is_free : (sys : System) (j : ℕ) (weights : Vector) → j < sys.n → length weights ≡ j →
    AllByRecursion (λ row. pos 1 *ℤ at j row.entries ≡ weights · row.entries) sys.rows → IsFree sys j
combined_is_free sys j weights within earlier combines = record {
  within = within;
  factor = pos 1;
  weights = weights;
  nonzero = one_is_not_zero;
  earlier = earlier;
  combines = All-from_recursion (λ row. pos 1 *ℤ at j row.entries ≡ weights · row.entries) sys.rows combines;
}

-- of x + y >= 0 and 2 x + 2 y >= 0 the column of y is free: it is once the column of x
pub second_of_equal_columns_is_free : IsFree half_plane 2
second_of_equal_columns_is_free =
    combined_is_free half_plane 2 (pos 0 ∷ pos 1 ∷ []) (omega arith) refl (refl, (refl, (refl, tt)))

pub first_of_equal_columns_is_not_free : IsFree half_plane 1 → ⊥
first_of_equal_columns_is_not_free = begins_not_free half_plane 1 0 (omega arith) (refl, tt) one_is_not_zero

-- a column past the last one is not free
past_the_end_is_not_free : IsFree half_plane 3 → ⊥
past_the_end_is_not_free f = let l = f.within in omega arith

-- the columns of a bounded set are not free, nor are those of a cone with a corner
pub square_has_no_free_column : (j : ℕ) → IsFree square j → ⊥
square_has_no_free_column zero = begins_not_free square 0 4 (omega arith) tt one_is_not_zero
square_has_no_free_column (suc zero) = begins_not_free square 1 0 (omega arith) (refl, tt) one_is_not_zero
square_has_no_free_column (suc (suc zero)) =
    begins_not_free square 2 1 (omega arith) (refl, (refl, tt)) one_is_not_zero
square_has_no_free_column (suc (suc (suc j))) = λ f. let l = f.within in omega arith

pub quadrant_has_no_free_column : (j : ℕ) → IsFree quadrant j → ⊥
quadrant_has_no_free_column zero = begins_not_free quadrant 0 2 (omega arith) tt one_is_not_zero
quadrant_has_no_free_column (suc zero) = begins_not_free quadrant 1 0 (omega arith) (refl, tt) one_is_not_zero
quadrant_has_no_free_column (suc (suc zero)) =
    begins_not_free quadrant 2 1 (omega arith) (refl, (refl, tt)) one_is_not_zero
quadrant_has_no_free_column (suc (suc (suc j))) = λ f. let l = f.within in omega arith

pub zero_at_free_of_quadrant : (y : Vector) → IsZeroAtFree quadrant y
zero_at_free_of_quadrant y j f = absurd (quadrant_has_no_free_column j f)

-- ---- the strip 0 <= x <= 1
pub height_is_free : IsFree strip 2
height_is_free = combined_is_free strip 2 (pos 0 ∷ pos 0 ∷ []) (omega arith) refl (refl, (refl, (refl, tt)))

pub only_height_is_free : (j : ℕ) → IsFree strip j → j ≡ 2
only_height_is_free zero f = absurd (begins_not_free strip 0 2 (omega arith) tt one_is_not_zero f)
only_height_is_free (suc zero) f = absurd (begins_not_free strip 1 0 (omega arith) (refl, tt) one_is_not_zero f)
only_height_is_free (suc (suc j)) f = let l = f.within in omega arith

zero_at_free : IsZeroAtFree strip (pos 3 ∷ pos 1 ∷ pos 0 ∷ [])
zero_at_free j f = ap (λ k. at k (pos 3 ∷ pos 1 ∷ pos 0 ∷ [])) (only_height_is_free j f)

not_zero_at_free : IsZeroAtFree strip (pos 3 ∷ pos 1 ∷ pos 4 ∷ []) → ⊥
not_zero_at_free h = let e = h 2 height_is_free in cc

height_is_the_free_column : AreFreeColumns strip (2 ∷ [])
height_is_the_free_column = record {
  ascending = (tt, tt);
  exactly = λ j. (λ f. (0, omega arith, sym (only_height_is_free j f)), λ c. here j c.0 c.1 c.2);
}
  where
    here : (j k : ℕ) → k < 1 → slice_index_or (2 ∷ []) k j ≡ j → IsFree strip j
    here j zero l e = subst (IsFree strip) e height_is_free
    here j (suc k) l e = absurd (omega arith)

-- a list that leaves it out, and one with a column more
no_free_column_is_wrong : AreFreeColumns strip [] → ⊥
no_free_column_is_wrong h = let l = ((h.exactly 2).0 height_is_free).1 in omega arith

two_free_columns_are_wrong : AreFreeColumns strip (1 ∷ 2 ∷ []) → ⊥
two_free_columns_are_wrong h =
    let e = only_height_is_free 1 ((h.exactly 1).1 (0, omega arith, refl)) in omega arith

pub upward_is_the_line : IsLine strip 2 upward
unfolding gcd_in gcd_of
upward_is_the_line = record {
  free = height_is_free;
  width = refl;
  primitive = primitive_from_gcd upward refl;
  vanishing = All-from_recursion (IsTight upward) strip.rows (refl, (refl, (refl, tt)));
  here = omega (arith, ints);
  elsewhere = λ k f n. absurd (n (only_height_is_free k f));
}

-- the other way, twice as far, and aslant
downward_is_no_line : IsLine strip 2 (pos 0 ∷ pos 0 ∷ negsuc 0 ∷ []) → ⊥
downward_is_no_line l = let p = l.here in omega (arith, ints)

twice_is_no_line : IsLine strip 2 (pos 0 ∷ pos 0 ∷ pos 2 ∷ []) → ⊥
unfolding gcd_in gcd_of
twice_is_no_line l = let e = gcd_from_primitive (pos 0 ∷ pos 0 ∷ pos 2 ∷ []) l.primitive in omega arith

aslant_is_no_line : IsLine strip 2 diagonal → ⊥
aslant_is_no_line l = let e = l.vanishing 0 (row_of []) (omega arith) in cc

upward_is_the_only_line : AreLines strip (upward ∷ [])
upward_is_the_only_line = record {
  columns = 2 ∷ [];
  free = height_is_the_free_column;
  each = (upward_is_the_line, tt);
}

-- a strip has a line
no_line_is_wrong : AreLines strip [] → ⊥
no_line_is_wrong h = by h.columns h.free h.each
  where
    by : (columns : List ℕ) → AreFreeColumns strip columns → AreLinesOf strip columns [] → ⊥
    by [] f e = no_free_column_is_wrong f
    by (j ∷ js) f e = e

-- the square has none
square_has_no_line : AreLines square []
square_has_no_line = record {
  columns = [];
  free = record {
    ascending = tt;
    exactly = λ j. (λ f. absurd (square_has_no_free_column j f), λ c. absurd (none c.0 c.1));
  };
  each = tt;
}
  where
    none : (k : ℕ) → k < 0 → ⊥
    none k l = omega arith

-- ---- the plane, which has two lines
first_of_plane_is_free : IsFree plane 1
first_of_plane_is_free = combined_is_free plane 1 (pos 0 ∷ []) (omega arith) refl (refl, tt)

second_of_plane_is_free : IsFree plane 2
second_of_plane_is_free = combined_is_free plane 2 (pos 0 ∷ pos 0 ∷ []) (omega arith) refl (refl, tt)

upward_is_the_second_line : IsLine plane 2 upward
unfolding gcd_in gcd_of
upward_is_the_second_line = record {
  free = second_of_plane_is_free;
  width = refl;
  primitive = primitive_from_gcd upward refl;
  vanishing = All-from_recursion (IsTight upward) plane.rows (refl, tt);
  here = omega (arith, ints);
  elsewhere = λ k f n. elsewhere k n;
}
  where
    elsewhere : (k : ℕ) → k ≢ 2 → at k upward ≡ pos 0
    elsewhere zero n = refl
    elsewhere (suc zero) n = refl
    elsewhere (suc (suc zero)) n = absurd (n refl)
    elsewhere (suc (suc (suc k))) n = refl

-- the diagonal is not 0 at the other free column
diagonal_is_no_line : IsLine plane 2 diagonal → ⊥
diagonal_is_no_line l = let e = l.elsewhere 1 first_of_plane_is_free (λ q. omega arith) in cc
