-- Free columns, lines and slots that are known, and some that are none: a wrong definition does not
-- check.
use Rattle.std.proofs.Common.{◌≡◌, ◌≢◌, ⊎_elim, ℕ, zero, suc, ℤ, pos, negsuc, ◌*ℤ◌, List, [], ◌∷◌, length, refl, subst, arith, ◌<◌}
use Rattle.std.proofs.lemmas.Int.{ints}
use Rattle.std.specs.List.{Contains}
use Rattle.poly_num.specs.Vectors.{Vector, ◌·◌}
use Rattle.poly_num.specs.Divisors.{gcd_in, gcd_of, gcd_of_all}
use Rattle.poly_num.proofs.PrimitiveLemmas.{primitive_from_gcd, gcd_from_primitive}
use Rattle.poly_model.specs.Cones.{at, coordinate}
use Rattle.linear_laws.specs.Slots.{IsSlot}
use Rattle.linear_laws.specs.FreeColumns.{IsFreeColumn, AreFreeColumnsOf, IsLineOf, LeavesSlots}
use Rattle.linear_laws.specs.Frames.{Column}
use Rattle.linear_laws.proofs.Coordinates.{coordinates_frame}
use Rattle.linear_laws.proofs.Entries.{at-nil, first_reads}
use Rattle.linear_laws.proofs.Members.{Contains-nil, Contains-first, Contains-later, Contains-cons_cases}

-- ---- the rows (0, 1, 1) and (0, 2, 2): columns 0 and 2 are free
abbrev rows : List Vector
rows = (pos 0 ∷ pos 1 ∷ pos 1 ∷ []) ∷ (pos 0 ∷ pos 2 ∷ pos 2 ∷ []) ∷ []

column_2_is_free : IsFreeColumn 3 rows 2
column_2_is_free = record {
  within = omega arith;
  factor = pos 1;
  weights = pos 0 ∷ pos 1 ∷ [];
  nonzero = λ e. omega (arith, ints);
  earlier = refl;
  combines = (refl, (refl, tt));
}

column_0_is_free : IsFreeColumn 3 rows 0
column_0_is_free = record {
  within = omega arith;
  factor = pos 1;
  weights = [];
  nonzero = λ e. omega (arith, ints);
  earlier = refl;
  combines = (refl, (refl, tt));
}

column_1_is_not_free : IsFreeColumn 3 rows 1 → ⊥
column_1_is_not_free f = f.nonzero (no_factor f.weights f.factor f.earlier f.combines.0)
  where
    no_factor : (w : Vector) (p : ℤ) → length w ≡ 1 → p *ℤ pos 1 ≡ w · (pos 0 ∷ pos 1 ∷ pos 1 ∷ []) → p ≡ pos 0
    no_factor [] p l e = absurd (omega arith)
    no_factor (x ∷ []) p l e = omega (arith, ints)
    no_factor (x ∷ y ∷ w) p l e = absurd (omega arith)

free_columns : AreFreeColumnsOf 3 rows (0 ∷ 2 ∷ [])
free_columns = record {
  ascending = ((omega arith, tt), (tt, tt));
  exactly = λ j. (listed j, free j);
}
  where
    listed : (j : ℕ) → IsFreeColumn 3 rows j → Contains (0 ∷ 2 ∷ []) j
    listed zero f = Contains-first 0 (2 ∷ [])
    listed (suc zero) f = absurd (column_1_is_not_free f)
    listed (suc (suc zero)) f = Contains-later 2 0 (2 ∷ []) (Contains-first 2 [])
    listed (suc (suc (suc j))) f = let l = f.within in absurd (omega arith)

    free : (j : ℕ) → Contains (0 ∷ 2 ∷ []) j → IsFreeColumn 3 rows j
    free j m =
        ⊎_elim (λ e. subst (λ k. IsFreeColumn 3 rows k) e column_0_is_free)
        (λ q. ⊎_elim (λ e. subst (λ k. IsFreeColumn 3 rows k) e column_2_is_free) (λ r. absurd (Contains-nil j r))
        (Contains-cons_cases j 2 [] q))
        (Contains-cons_cases j 0 (2 ∷ []) m)

not_the_free_columns : AreFreeColumnsOf 3 rows (1 ∷ 2 ∷ []) → ⊥
not_the_free_columns a = column_1_is_not_free ((a.exactly 1).1 (Contains-first 1 (2 ∷ [])))

-- the line of column 2 is (0, -1, 1)
line_of_2 : IsLineOf 3 rows 2 (pos 0 ∷ negsuc 0 ∷ pos 1 ∷ [])
unfolding gcd_in gcd_of
line_of_2 = record {
  free = column_2_is_free;
  width = refl;
  primitive = primitive_from_gcd (pos 0 ∷ negsuc 0 ∷ pos 1 ∷ []) refl;
  vanishing = (refl, (refl, tt));
  here = omega (arith, ints);
  elsewhere = elsewhere;
}
  where
    elsewhere : (k : ℕ) → IsFreeColumn 3 rows k → k ≢ 2 → at k (pos 0 ∷ negsuc 0 ∷ pos 1 ∷ []) ≡ pos 0
    elsewhere zero f n = refl
    elsewhere (suc zero) f n = absurd (column_1_is_not_free f)
    elsewhere (suc (suc zero)) f n = absurd (n refl)
    elsewhere (suc (suc (suc k))) f n = let l = f.within in absurd (omega arith)

two_is_shared : gcd_of_all (pos 0 ∷ negsuc 1 ∷ pos 2 ∷ []) ≡ 2
unfolding gcd_in gcd_of
two_is_shared = refl

-- (0, -2, 2) is along it, but not primitive; (0, 1, -1) is opposite
not_primitive : IsLineOf 3 rows 2 (pos 0 ∷ negsuc 1 ∷ pos 2 ∷ []) → ⊥
not_primitive l = two_is_not_one (gcd_from_primitive (pos 0 ∷ negsuc 1 ∷ pos 2 ∷ []) l.primitive)
  where
    two_is_not_one : gcd_of_all (pos 0 ∷ negsuc 1 ∷ pos 2 ∷ []) ≡ 1 → ⊥
    two_is_not_one e = let f = two_is_shared in omega arith

opposite_line : IsLineOf 3 rows 2 (pos 0 ∷ pos 1 ∷ negsuc 0 ∷ []) → ⊥
opposite_line l = let h = l.here in omega (arith, ints)

-- ---- slots of coordinate 0: (1, 0) with the dual vector (1, 0), but not with (1, 1)
slot : IsSlot 0 (record { row = pos 1 ∷ pos 0 ∷ []; dual = pos 1 ∷ pos 0 ∷ [] })
slot = record { reads = reads; beyond = beyond }
  where
    reads : (y : Vector) → (pos 1 ∷ pos 0 ∷ []) · y ≡ at 0 y
    reads [] = refl
    reads (a ∷ []) = omega (arith, ints)
    reads (a ∷ b ∷ y) = omega (arith, ints)

    beyond : (i : ℕ) → 0 < i → at i (pos 1 ∷ pos 0 ∷ []) ≡ pos 0
    beyond zero l = absurd (omega arith)
    beyond (suc zero) l = refl
    beyond (suc (suc i)) l = at-nil i

not_a_slot : IsSlot 0 (record { row = pos 1 ∷ pos 0 ∷ []; dual = pos 1 ∷ pos 1 ∷ [] }) → ⊥
not_a_slot s = let e = s.beyond 1 (omega arith) in omega (arith, ints)

-- entry 1 of (4, 5, 6), read off and by its form
entry_1 : at 1 (pos 4 ∷ pos 5 ∷ pos 6 ∷ []) ≡ pos 5
entry_1 = refl

entry_1_by_form : coordinate 1 · (pos 4 ∷ pos 5 ∷ pos 6 ∷ []) ≡ pos 5
entry_1_by_form = refl

-- ---- of no row at width 1 the slot of coordinate 0 is left, and not none
abbrev unit : Column
unit = record { row = pos 1 ∷ []; dual = pos 1 ∷ [] }

one_is_left : LeavesSlots 1 [] (0 ∷ []) (pos 1) (unit ∷ []) []
one_is_left = record {
  frame = coordinates_frame 1;
  ascending = (tt, tt);
  slots_of = (record { reads = first_reads 0; beyond = beyond }, tt);
  same = λ y l. (λ v. tt, λ v. tt);
}
  where
    beyond : (i : ℕ) → 0 < i → at i (pos 1 ∷ []) ≡ pos 0
    beyond zero l = absurd (omega arith)
    beyond (suc i) l = at-nil i

none_is_left : LeavesSlots 1 [] [] (pos 1) (unit ∷ []) [] → ⊥
none_is_left s = s.slots_of
