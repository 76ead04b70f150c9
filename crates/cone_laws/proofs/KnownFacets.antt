-- Extreme vectors of a V file, which are facets, that are known from a drawing: a wrong definition does
-- not check. The file is a half line; the vectors of its cone are the inequalities that hold on it.
use Rattle.std.proofs.Common.{◌≡◌, ℕ, zero, suc, ℤ, pos, negsuc, ◌*ℤ◌, ◌+ℤ◌, [], ◌∷◌, length, arith, refl, sym, ap, subst, ◌∙◌}
use Rattle.std.specs.Prelude.{◌<◌, ◌≤ℤ◌}
use Rattle.std.proofs.lemmas.Int.{ints}
use Rattle.std.specs.List.{slice_index_or}
use Rattle.std.proofs.lemmas.List.Elements.{All-from_recursion}
use Rattle.poly_num.specs.Vectors.{Vector, ◌·◌, IsPrimitive, IsMultipleOf}
use Rattle.poly_num.specs.Divisors.{gcd_in, gcd_of}
use Rattle.poly_num.proofs.DivisorLemmas.{gcd_of-zero, zero-gcd_of}
use Rattle.poly_num.proofs.PrimitiveLemmas.{primitive_from_gcd, gcd_from_primitive}
use Rattle.poly_num.proofs.Ring.{mul_comm}
use Rattle.poly_model.specs.Systems.{Row}
use Rattle.poly_model.specs.Cones.{Meets}
use Rattle.poly_model.specs.FreeColumns.{IsFree}
use Rattle.poly_model.specs.Extreme.{IsOnFace, TouchesPoint, IsExtreme, AreExtreme}
use Rattle.linear_laws.proofs.Signs.{one_is_not_zero}
use Rattle.cone_laws.proofs.KnownValues.{row_of, half_line, bound, infinity, bound_touches_the_point, infinity_touches_no_point}
use Rattle.cone_laws.proofs.KnownColumns.{begins_not_free}
use Rattle.cone_laws.proofs.KnownExtremes.{gone}

-- what holds of each (a, b) holds of each vector of width 2
by_two : (P : Vector → Type 0) → ((a b : ℤ) → P (a ∷ b ∷ [])) → (z : Vector) → length z ≡ 2 → P z
by_two P h [] w = absurd (omega arith)
by_two P h (a ∷ []) w = absurd (omega arith)
by_two P h (a ∷ b ∷ []) w = h a b
by_two P h (a ∷ b ∷ x ∷ z) w = absurd (omega arith)

half_line_has_no_free_column : (j : ℕ) → IsFree half_line j → ⊥
half_line_has_no_free_column zero = begins_not_free half_line 0 0 (omega arith) tt one_is_not_zero
half_line_has_no_free_column (suc zero) = begins_not_free half_line 1 1 (omega arith) (refl, tt) one_is_not_zero
half_line_has_no_free_column (suc (suc j)) = λ f. let l = f.within in omega arith

-- x >= 0 is a facet
bound_is_extreme : IsExtreme half_line bound
unfolding gcd_in gcd_of
bound_is_extreme = record {
  primitive = primitive_from_gcd bound refl;
  free = λ j f. absurd (half_line_has_no_free_column j f);
  in_cone = record {
    width = refl;
    meets = All-from_recursion (Meets bound) half_line.rows (omega (arith, ints), (omega (arith, ints), tt));
  };
  alone = λ z f. by_two (λ z. IsOnFace half_line bound z → IsMultipleOf bound z) alone z f.width f;
  shown = bound_touches_the_point;
}
  where
    first : (a b : ℤ) → pos 1 *ℤ a +ℤ (pos 0 *ℤ b +ℤ pos 0) ≡ pos 0 → a ≡ pos 0
    first a b e = omega (arith, ints)

    alone : (a b : ℤ) → IsOnFace half_line bound (a ∷ b ∷ []) → IsMultipleOf bound (a ∷ b ∷ [])
    alone a b f =
        let p = gone a b (first a b (f.tight 0 (row_of []) (omega arith) refl)) in
        let q = mul_comm (pos 1) b in
        (pos 1, b, one_is_not_zero, cc)

-- 1 >= 0 is none, since it touches no point
infinity_is_not_extreme : IsExtreme half_line infinity → ⊥
infinity_is_not_extreme x = infinity_touches_no_point x.shown

-- an inequality that touches the point is a x >= 0, and a is 1
only_the_bound : (y : Vector) → IsExtreme half_line y → y ≡ pos 0 ∷ pos 1 ∷ []
only_the_bound y x = by_two (λ y. IsExtreme half_line y → y ≡ pos 0 ∷ pos 1 ∷ []) by y x.in_cone.width x
  where
    at_point : (a b : ℤ) → TouchesPoint half_line (a ∷ b ∷ []) → a ≡ pos 0
    at_point a b t = by t.within.0 t.within.1 t.within.2
      where
        by : (k : ℕ) → k < 2 → slice_index_or half_line.rows k t.row ≡ t.row → a ≡ pos 0
        by zero l e = first a b (ap (λ (row : Row). row.entries · (a ∷ b ∷ [])) e ∙ t.tight)
          where
            first : (a b : ℤ) → pos 1 *ℤ a +ℤ (pos 0 *ℤ b +ℤ pos 0) ≡ pos 0 → a ≡ pos 0
            first a b e = omega (arith, ints)
        by (suc zero) l e = let none = ap (λ (row : Row). row.point) e ∙ t.point in cc
        by (suc (suc k)) l e = absurd (omega arith)

    up : (a b : ℤ) → pos 0 ≤ℤ (pos 0 *ℤ a +ℤ (pos 1 *ℤ b +ℤ pos 0)) → pos 0 ≤ℤ b
    up a b h = omega (arith, ints)

    one : (b : ℤ) → pos 0 ≤ℤ b → IsPrimitive (pos 0 ∷ b ∷ []) → b ≡ pos 1
    one (pos n) h p =
        let all = gcd_from_primitive (pos 0 ∷ pos n ∷ []) p in
        ap pos (sym (zero-gcd_of n) ∙ ap (gcd_of 0) (sym (gcd_of-zero n)) ∙ all)
    one (negsuc n) h p = absurd (omega (arith, ints))

    by : (a b : ℤ) → IsExtreme half_line (a ∷ b ∷ []) → a ∷ b ∷ [] ≡ pos 0 ∷ pos 1 ∷ []
    by a b x =
        let e : a ≡ pos 0 = at_point a b x.shown in
        let h = up a b (x.in_cone.meets 1 (row_of []) (omega arith)) in
        let f : b ≡ pos 1 = one b h (subst (λ (a : ℤ). IsPrimitive (a ∷ b ∷ [])) e x.primitive) in
        cc

bound_is_the_only_extreme : AreExtreme half_line (bound ∷ [])
bound_is_the_only_extreme = record {
  once = λ i j l k. absurd (omega arith);
  only = All-from_recursion (IsExtreme half_line) (bound ∷ []) (bound_is_extreme, tt);
  every = λ y x. (0, omega arith, sym (only_the_bound y x));
}

-- a listing that leaves it out, one with 1 >= 0 too, and one that has it twice
nothing_is_wrong : AreExtreme half_line [] → ⊥
nothing_is_wrong h = let l = (h.every bound bound_is_extreme).1 in omega arith

infinity_too_is_wrong : AreExtreme half_line (bound ∷ infinity ∷ []) → ⊥
infinity_too_is_wrong h = infinity_is_not_extreme (h.only 1 [] (omega arith))

twice_is_wrong : AreExtreme half_line (bound ∷ bound ∷ []) → ⊥
twice_is_wrong h = h.once 0 1 (omega arith) (omega arith) refl
