-- For each definition one thing that is an instance and one that is none: a wrong definition does not
-- check.
use Rattle.std.proofs.Common.{◌≡◌, true, false, ℤ, pos, negsuc, ◌+ℤ◌, ◌*ℤ◌, [], ◌∷◌, length, refl, arith}
use Rattle.std.proofs.lemmas.Int.{ints}
use Rattle.poly_num.specs.Vectors.{Vector, ◌·◌, IsMultipleOf}
use Rattle.poly_num.specs.Divisors.{gcd_in, gcd_of}
use Rattle.poly_num.proofs.PrimitiveLemmas.{primitive_from_gcd}
use Rattle.poly_num.proofs.Ring.{expand as multiply_out, lin, mul_one, one_mul, add_zero, zero_mul}
use Rattle.poly_num.proofs.VectorLemmas.{dot-nil}
use Rattle.poly_model.specs.Independence.{Follows, IsNew, IsFirstBasis, IsAlone}
use Rattle.linear_laws.specs.Frames.{Column, expand, IsFrame, IsFrameOn, pivoted}
use Rattle.linear_laws.specs.NewRows.{AreNew}
use Rattle.linear_laws.specs.LocalTest.{HaveSameZeros, AreFirstTight, PassesTest}
use Rattle.linear_laws.specs.Corners.{IsInConeOf, IsPointed, IsCorner, IsOnTight}

-- ---- the vectors (1, 0), (2, 0), (0, 1) and (1, 1)
abbrev first : Vector
first = pos 1 ∷ pos 0 ∷ []

abbrev twice : Vector
twice = pos 2 ∷ pos 0 ∷ []

abbrev second : Vector
second = pos 0 ∷ pos 1 ∷ []

abbrev both : Vector
both = pos 1 ∷ pos 1 ∷ []

-- a vector of two entries, at which (1, 0) is 0, is 0 in front
front_zero : (a b : ℤ) → first · (a ∷ b ∷ []) ≡ pos 0 → a ≡ pos 0
front_zero a b e = omega (arith, ints)

-- (2, 0) follows from (1, 0)
twice_follows : Follows 2 (first ∷ []) twice
twice_follows [] l v = absurd (omega arith)
twice_follows (a ∷ []) l v = absurd (omega arith)
twice_follows (a ∷ b ∷ []) l v = let e = v.0 in omega (arith, ints)
twice_follows (a ∷ b ∷ c ∷ y) l v = absurd (omega arith)

-- (0, 1) is new over (1, 0)
second_is_new : IsNew 2 (first ∷ []) second
second_is_new = (second, refl, (refl, tt), λ e. omega (arith, ints))

first_is_new : IsNew 2 [] first
first_is_new = (first, refl, tt, λ e. omega (arith, ints))

-- and does not follow from it
second_does_not_follow : Follows 2 (first ∷ []) second → ⊥
second_does_not_follow f = let e = f second refl (refl, tt) in omega (arith, ints)

-- (2, 0) is not new over (1, 0)
twice_is_not_new : IsNew 2 (first ∷ []) twice → ⊥
twice_is_not_new (z, l, v, n) = n (twice_follows z l v)

-- of (1, 0), (2, 0), (0, 1) the first basis is the first and the third
first_and_third : IsFirstBasis 2 [] (first ∷ twice ∷ second ∷ []) (true ∷ false ∷ true ∷ [])
first_and_third = (first_is_new, (twice_follows, (second_is_new, tt)))

not_the_second : IsFirstBasis 2 [] (first ∷ twice ∷ second ∷ []) (true ∷ true ∷ true ∷ []) → ⊥
not_the_second f = twice_is_not_new f.1.0

new_rows : AreNew 2 (second ∷ first ∷ [])
new_rows = (second_is_new, (first_is_new, tt))

not_new_rows : AreNew 2 (twice ∷ first ∷ []) → ⊥
not_new_rows a = twice_is_not_new a.0

-- ---- (0, 1) is alone on (1, 0), and on no row it is not
pair_equal : (a b c d : ℤ) → a ≡ c → b ≡ d → a ∷ b ∷ [] ≡ c ∷ d ∷ []
pair_equal a b c d e f = cc

second_is_alone : IsAlone 2 (first ∷ []) second
second_is_alone [] l v = absurd (omega arith)
second_is_alone (a ∷ []) l v = absurd (omega arith)
second_is_alone (a ∷ b ∷ []) l v =
    let z = front_zero a b v.0 in
    (pos 1, b, λ e. omega (arith, ints), pair_equal _ _ _ _ (omega (arith, ints)) (omega (arith, ints)))
second_is_alone (a ∷ b ∷ c ∷ y) l v = absurd (omega arith)

-- (1, 0) is no multiple of (0, 1)
no_multiple : IsMultipleOf second first → ⊥
no_multiple (p, q, n, e) = n (heads (p *ℤ pos 1) (q *ℤ pos 0) ((p *ℤ pos 0) ∷ []) ((q *ℤ pos 1) ∷ []) p q e refl refl)
  where
    heads : (a b : ℤ) (u v : Vector) (p q : ℤ) → a ∷ u ≡ b ∷ v → a ≡ p *ℤ pos 1 → b ≡ q *ℤ pos 0 → p ≡ pos 0
    heads a b u v p q e f g = let h : a ≡ b = cc in omega (arith, ints)

second_is_not_alone : IsAlone 2 [] second → ⊥
second_is_not_alone h = no_multiple (h first refl tt)

-- ---- frames: the row (2) with the dual vector (1), over 2
abbrev double : Column
double = record { row = pos 2 ∷ []; dual = pos 1 ∷ [] }

double_frame : IsFrame 1 (pos 2) (double ∷ [])
double_frame = record {
  nonzero = λ e. omega (arith, ints);
  inside = ((refl, tt), tt);
  duals = (refl, tt, tt);
  expands = λ g y i. value g y i.0;
}
  where
    product : (x a : ℤ) → pos 2 *ℤ (x *ℤ a +ℤ pos 0) ≡ (x *ℤ pos 1 +ℤ pos 0) *ℤ (pos 2 *ℤ a +ℤ pos 0) +ℤ pos 0
    product x a = simp (mul_one, add_zero) (simp multiply_out (omega (arith, lin)))

    value : (g y : Vector) → length y ≡ 1 → pos 2 *ℤ (g · y) ≡ expand (double ∷ []) g y
    value g [] l = absurd (omega arith)
    value g (a ∷ b ∷ y) l = absurd (omega arith)
    value [] (a ∷ []) l = omega (arith, ints, zero_mul (pos 2 *ℤ a +ℤ pos 0))
    value (x ∷ []) (a ∷ []) l = product x a
    value (x ∷ w ∷ g) (a ∷ []) l = product x a

-- the row (1, 0) with the dual vector (1, 0) is no frame of width 2: (0, 1) cannot be read off
not_a_frame : (D : ℤ) → IsFrame 2 D (record { row = first; dual = first } ∷ []) → ⊥
not_a_frame D f = let e = f.expands second second (refl, tt) in f.nonzero (omega (arith, ints))

-- where (1, -1) is 0, the row (1, 0) with the dual vector (1, 1) is a frame
diagonal_frame : IsFrameOn 2 ((pos 1 ∷ negsuc 0 ∷ []) ∷ []) (pos 1) (record { row = first; dual = both } ∷ [])
diagonal_frame = record {
  nonzero = λ e. omega (arith, ints);
  inside = ((refl, (refl, tt)), tt);
  duals = (refl, tt, tt);
  expands = λ g y i. value g y i.0 i.1.0;
}
  where
    equal : (a b : ℤ) → (pos 1 ∷ negsuc 0 ∷ []) · (a ∷ b ∷ []) ≡ pos 0 → b ≡ a
    equal a b e = omega (arith, ints)

    product : (x z a b s : ℤ) → b ≡ a → s ≡ pos 0 →
        pos 1 *ℤ (x *ℤ a +ℤ (z *ℤ b +ℤ s)) ≡
        (x *ℤ pos 1 +ℤ (z *ℤ pos 1 +ℤ s)) *ℤ (pos 1 *ℤ a +ℤ (pos 0 *ℤ b +ℤ pos 0)) +ℤ pos 0
    product x z a b s e f = rw (e, f) (simp (mul_one, one_mul, zero_mul, add_zero) (simp multiply_out))

    short : (x a b : ℤ) → pos 1 *ℤ (x *ℤ a +ℤ pos 0) ≡
        (x *ℤ pos 1 +ℤ pos 0) *ℤ (pos 1 *ℤ a +ℤ (pos 0 *ℤ b +ℤ pos 0)) +ℤ pos 0
    short x a b = simp (mul_one, one_mul, zero_mul, add_zero)

    value : (g y : Vector) → length y ≡ 2 → (pos 1 ∷ negsuc 0 ∷ []) · y ≡ pos 0 →
        pos 1 *ℤ (g · y) ≡ expand (record { row = first; dual = both } ∷ []) g y
    value g [] l e = absurd (omega arith)
    value g (a ∷ []) l e = absurd (omega arith)
    value g (a ∷ b ∷ c ∷ y) l e = absurd (omega arith)
    value [] (a ∷ b ∷ []) l e = omega (arith, ints, zero_mul (first · (a ∷ b ∷ [])))
    value (x ∷ []) (a ∷ b ∷ []) l e = short x a b
    value (x ∷ z ∷ g) (a ∷ b ∷ []) l e = product x z a b (g · []) (equal a b e) (dot-nil g)

-- of the two unit vectors, a pivot on (2, 3) in the first: (2, 3) has the dual vector (1, 0), and
-- (0, 1) has (-3, 2), over 2
pivot_on_2_3 : pivoted (pos 1) (pos 2 ∷ pos 3 ∷ []) (record { row = first; dual = first })
    (record { row = second; dual = second } ∷ []) ≡
    record { row = pos 2 ∷ pos 3 ∷ []; dual = first } ∷ record { row = second; dual = negsuc 2 ∷ pos 2 ∷ [] } ∷ []
pivot_on_2_3 = refl

-- ---- the first tight list: at (0, 1) the rows (1, 0) and (2, 0) are tight, and (0, 1) is not
tight_list : AreFirstTight 2 [] second (first ∷ twice ∷ second ∷ []) (true ∷ false ∷ false ∷ [])
tight_list = (refl, first_is_new, ((λ e. twice_follows), ((λ e. absurd (omega (arith, ints))), tt)))

-- (1, 0) and (2, 0) are 0 at the same forms, (1, 0) and (0, 1) are not
same_zeros : HaveSameZeros first twice
same_zeros g = (λ e. to g e, λ e. back g e)
  where
    to : (g : Vector) → g · first ≡ pos 0 → g · twice ≡ pos 0
    to [] e = refl
    to (x ∷ []) e = omega (arith, ints)
    to (x ∷ y ∷ g) e = omega (arith, ints, dot-nil g)

    back : (g : Vector) → g · twice ≡ pos 0 → g · first ≡ pos 0
    back [] e = refl
    back (x ∷ []) e = omega (arith, ints)
    back (x ∷ y ∷ g) e = omega (arith, ints, dot-nil g)

not_same_zeros : HaveSameZeros first second → ⊥
not_same_zeros h = let e = (h second).0 refl in omega (arith, ints)

not_the_tight_list : AreFirstTight 2 [] second (first ∷ twice ∷ second ∷ []) (false ∷ true ∷ false ∷ []) → ⊥
not_the_tight_list f = let e = f.0 refl first refl tt in omega (arith, ints)

-- over the columns of (0, 1) and (1, 0): (2, 0) is 0 at (0, 1), and is before no marked row
passes : PassesTest (record { row = second; dual = second }) (record { row = first; dual = first } ∷ [])
    (first ∷ twice ∷ []) (true ∷ false ∷ [])
passes = ((λ e. tt), tt)

-- but it is before (1, 0) in the other order
passes_not : PassesTest (record { row = second; dual = second }) (record { row = first; dual = first } ∷ [])
    (twice ∷ first ∷ []) (false ∷ true ∷ []) → ⊥
passes_not h = let e = (h.0 refl).0 in omega (arith, ints)

-- ---- the quadrant, of the rows (1, 0) and (0, 1)
in_quadrant : IsInConeOf 2 [] (first ∷ second ∷ []) first
in_quadrant = record { width = refl; vanishing = tt; nonnegative = (omega (arith, ints), (omega (arith, ints), tt)) }

-- (1, 0) with the second row turned
not_in_cone : IsInConeOf 2 [] (first ∷ (pos 0 ∷ negsuc 0 ∷ []) ∷ []) both → ⊥
not_in_cone c = let h = c.nonnegative.1.0 in omega (arith, ints)

quadrant_pointed : IsPointed 2 [] (first ∷ second ∷ [])
quadrant_pointed [] l b v = absurd (omega arith)
quadrant_pointed (x ∷ []) l b v = absurd (omega arith)
quadrant_pointed (x ∷ y ∷ []) l b v =
    let e = v.0 in let f = v.1.0 in (omega (arith, ints), (omega (arith, ints), tt))
quadrant_pointed (x ∷ y ∷ z ∷ w) l b v = absurd (omega arith)

half_plane_not_pointed : IsPointed 2 [] (first ∷ []) → ⊥
half_plane_not_pointed p = let z = p second refl tt (refl, tt) in let e = z.1.0 in omega (arith, ints)

-- (0, 1) is a corner, and (1, 1) is none
corner : IsCorner 2 [] (first ∷ second ∷ []) second
unfolding gcd_in gcd_of
corner = record {
  primitive = primitive_from_gcd second refl;
  in_cone = record { width = refl; vanishing = tt; nonnegative = (omega (arith, ints), (omega (arith, ints), tt)) };
  alone = λ z l v t. second_is_alone z l (t.0 refl, tt);
}

inner_not_corner : IsCorner 2 [] (first ∷ second ∷ []) both → ⊥
inner_not_corner c = by (c.alone first refl tt nothing_tight)
  where
    nothing_tight : IsOnTight both (first ∷ second ∷ []) first
    nothing_tight = ((λ e. absurd (omega (arith, ints))), ((λ e. absurd (omega (arith, ints))), tt))

    by : IsMultipleOf both first → ⊥
    by (p, q, n, e) = n (heads (p *ℤ pos 1) (q *ℤ pos 1) (p *ℤ pos 0) (q *ℤ pos 1) p q e refl refl refl refl)
      where
        heads : (a b c d p q : ℤ) → a ∷ c ∷ [] ≡ b ∷ d ∷ [] → a ≡ p *ℤ pos 1 → b ≡ q *ℤ pos 1 → c ≡ p *ℤ pos 0 →
            d ≡ q *ℤ pos 1 → p ≡ pos 0
        heads a b c d p q e f g h i = let j : a ≡ b = cc in let k : c ≡ d = cc in omega (arith, ints)
