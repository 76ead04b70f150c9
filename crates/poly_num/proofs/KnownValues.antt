-- Values that are known from elsewhere, by computation: a wrong definition does not check.
use Rattle.std.proofs.Common.{◌≡◌, arith, refl, [], ◌∷◌, pos, negsuc}
use Rattle.std.specs.declared.cmp.Ordering.TheVariants.{Less}
use Rattle.poly_num.specs.Vectors.{◌·◌, IsPrimitive}
use Rattle.poly_num.specs.Divisors.{gcd_in, gcd_of, gcd_of_all}
use Rattle.poly_num.specs.Fractions.{lowest}
use Rattle.poly_num.specs.Signs.{sign_of, lex_sign_of}
use Rattle.poly_num.proofs.PrimitiveLemmas.{primitive_from_gcd, gcd_from_primitive}

gcd_of_12_and_18 : gcd_of 12 18 ≡ 6
unfolding gcd_in gcd_of
gcd_of_12_and_18 = refl

gcd_of_1071_and_462 : gcd_of 1071 462 ≡ 21
unfolding gcd_in gcd_of
gcd_of_1071_and_462 = refl

gcd_of_zeros : gcd_of 0 0 ≡ 0
unfolding gcd_in gcd_of
gcd_of_zeros = refl

-- 6, -10, 15: each two share a divisor, and the three share none
primitive : IsPrimitive (pos 6 ∷ negsuc 9 ∷ pos 15 ∷ [])
unfolding gcd_in gcd_of
primitive = primitive_from_gcd (pos 6 ∷ negsuc 9 ∷ pos 15 ∷ []) refl

-- 4, -6, 0
two_is_shared : gcd_of_all (pos 4 ∷ negsuc 5 ∷ pos 0 ∷ []) ≡ 2
unfolding gcd_in gcd_of
two_is_shared = refl

not_primitive : IsPrimitive (pos 4 ∷ negsuc 5 ∷ pos 0 ∷ []) → ⊥
not_primitive p =
    let one = gcd_from_primitive (pos 4 ∷ negsuc 5 ∷ pos 0 ∷ []) p in
    let two = two_is_shared in
    omega arith

zeros_not_primitive : IsPrimitive (pos 0 ∷ pos 0 ∷ []) → ⊥
zeros_not_primitive p = p.0 (refl, (refl, tt))

-- 6 / -4 is -3 / 2
lowest_of_6_and_minus_4 : lowest (pos 6) (negsuc 3) ≡ record { num = negsuc 2; den = pos 2 }
unfolding gcd_in gcd_of lowest
lowest_of_6_and_minus_4 = refl

-- 0 / -7 is 0 / 1
lowest_of_0_and_minus_7 : lowest (pos 0) (negsuc 6) ≡ record { num = pos 0; den = pos 1 }
unfolding gcd_in gcd_of lowest
lowest_of_0_and_minus_7 = refl

-- (1, 2, 3) . (4, -5, 6)
dot_of_three : (pos 1 ∷ pos 2 ∷ pos 3 ∷ []) · (pos 4 ∷ negsuc 4 ∷ pos 6 ∷ []) ≡ pos 12
dot_of_three = refl

-- the shorter vector ends the product
dot_of_two : (pos 1 ∷ pos 2 ∷ pos 3 ∷ []) · (pos 4 ∷ negsuc 4 ∷ []) ≡ negsuc 5
dot_of_two = refl

-- 0, 0, -3, 5
lex_sign_of_four : lex_sign_of (pos 0 ∷ pos 0 ∷ negsuc 2 ∷ pos 5 ∷ []) ≡ Less
lex_sign_of_four = refl

sign_of_minus_one : sign_of (negsuc 0) ≡ Less
sign_of_minus_one = refl
