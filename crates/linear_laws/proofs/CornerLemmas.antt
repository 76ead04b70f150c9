-- A pointed cone with a vector at which a form is positive has a corner at which it is.
--
-- Where two slots are left after the rows that are tight at the vector, it is moved along a combination
-- of their dual vectors. At the end it is alone on what is tight at it.
use Rattle.std.proofs.Common.{◌≡◌, ◌≢◌, ◌⊎◌, inl, inr, ⊎_elim, ℕ, zero, suc, ◌<◌, pos, ◌*ℤ◌, neg_ℤ, ◌<ℤ◌, List, [], ◌∷◌, ◌++◌, length, refl, sym, ap, ◌∙◌, arith}
use Rattle.std.proofs.lemmas.Int.{ints}
use lib.IntN.{ℤ_discrete}
use Rattle.poly_num.specs.Vectors.{Vector, ◌·◌, scale, IsZero}
use Rattle.poly_num.proofs.Ring.{lin, mul_zero}
use Rattle.poly_num.proofs.Order.{mul_nonzero, positive_nonzero}
use Rattle.poly_num.proofs.VectorLemmas.{scale-one}
use Rattle.poly_model.specs.Independence.{Vanish, taken}
use Rattle.linear_laws.specs.Frames.{Column, IsFrame}
use Rattle.linear_laws.specs.Corners.{IsInConeOf, IsPointed, IsOnTight, IsAloneOnTight, IsCorner}
use Rattle.linear_laws.proofs.AllLemmas.{all_left, all_right, all_both}
use Rattle.linear_laws.proofs.Proportions.{not_zero_by_form}
use Rattle.linear_laws.proofs.Combinations.{combination, dot-combination, length-combination, zero_combination, vanish_combination, cancels}
use Rattle.linear_laws.proofs.Elimination.{Eliminated, eliminate_all}
use Rattle.linear_laws.proofs.FirstBases.{taken_enough, taken_of}
use Rattle.linear_laws.proofs.Alone.{zero_from_none, alone_from_one, two_frame, vanish_at_first, vanish_at_second, alone_from_taken}
use Rattle.linear_laws.proofs.ConeMultiples.{positive_along, cone_along, alone_along}
use Rattle.linear_laws.proofs.PrimitiveAlong.{PrimitiveOf, primitive_of}
use Rattle.linear_laws.proofs.Tight.{tight_at, on_tight_from_vanish, vanish_from_on_tight, on_tight_itself, loose_at}
use Rattle.linear_laws.proofs.CornerMoves.{IsUp, Tighter, move}

module _ (n : ℕ) (fixed rows : List Vector) (h : Vector) where
  abbrev Up : Vector → Type 0
  Up y = IsUp n fixed rows h y

  abbrev Closer : Vector → Type 0
  Closer y = Tighter n fixed rows h y

  -- ---- a flat direction, where two slots are left
  module _ (pointed : IsPointed n fixed rows) (y : Vector) (u : Up y)
      (e : Eliminated n [] (fixed ++ tight_at y rows)) where
    stays_from_taken : (z : Vector) → length z ≡ n → Vanish (taken [] (fixed ++ tight_at y rows) e.marks) z →
        Vanish fixed z × IsOnTight y rows z
    stays_from_taken z l v =
        let all = (taken_enough n [] (fixed ++ tight_at y rows) e.marks e.first z l v).1 in (
          all_left (λ g. g · z ≡ pos 0) fixed (tight_at y rows) all,
          on_tight_from_vanish y z rows (all_right (λ g. g · z ≡ pos 0) fixed (tight_at y rows) all),
        )

    two_left : (c d : Column) (cs : List Column) → e.reached.slots ≡ c ∷ d ∷ cs → Closer y
    two_left c d cs two = by (ℤ_discrete (h · c.dual) (pos 0))
      where
        f : IsFrame n e.reached.D (c ∷ d ∷ cs ++ e.reached.rest)
        f = two_frame e.reached c d cs two

        at_first : Vanish fixed c.dual × IsOnTight y rows c.dual
        at_first = stays_from_taken c.dual f.inside.0.0 (vanish_at_first e.reached c d cs two)

        at_second : Vanish fixed d.dual × IsOnTight y rows d.dual
        at_second = stays_from_taken d.dual f.inside.1.0.0 (vanish_at_second e.reached c d cs two)

        -- the combination of the two dual vectors at which h is 0
        level : Vector
        level = combination (h · d.dual) c.dual (neg_ℤ (h · c.dual)) d.dual

        on_tight : (ks : List Vector) → IsOnTight y ks c.dual → IsOnTight y ks d.dual → IsOnTight y ks level
        on_tight [] a b = tt
        on_tight (k ∷ ks) a b = (
          λ z.
              dot-combination k (h · d.dual) c.dual (neg_ℤ (h · c.dual)) d.dual
              ∙ zero_combination (h · d.dual) (k · c.dual) (neg_ℤ (h · c.dual)) (k · d.dual) (a.0 z) (b.0 z),
          on_tight ks a.1 b.1,
        )

        -- the second row is not 0 there
        value : d.row · level ≡ neg_ℤ (h · c.dual) *ℤ e.reached.D
        value =
            let a = ap (λ t. (h · d.dual) *ℤ t) f.duals.1.0.1 ∙ mul_zero (h · d.dual) in
            let b = ap (λ t. neg_ℤ (h · c.dual) *ℤ t) f.duals.2.0 in
            omega (arith, lin, dot-combination d.row (h · d.dual) c.dual (neg_ℤ (h · c.dual)) d.dual)

        turned_nonzero : h · c.dual ≢ pos 0 → neg_ℤ (h · c.dual) ≢ pos 0
        turned_nonzero k z = k (omega (arith, lin))

        by : Dec (h · c.dual ≡ pos 0) → Closer y
        by (yes k) = move n fixed rows h pointed y c.dual u (record {
          width = f.inside.0.0;
          vanishing = at_first.0;
          on_tight = at_first.1;
          flat = k;
          not_zero = not_zero_by_form c.row c.dual (λ z. f.nonzero (sym f.duals.0 ∙ z));
        })
        by (no k) = move n fixed rows h pointed y level u (record {
          width = length-combination n (h · d.dual) c.dual (neg_ℤ (h · c.dual)) d.dual f.inside.0.0 f.inside.1.0.0;
          vanishing = vanish_combination fixed (h · d.dual) c.dual (neg_ℤ (h · c.dual)) d.dual at_first.0 at_second.0;
          on_tight = on_tight rows at_first.1 at_second.1;
          flat = dot-combination h (h · d.dual) c.dual (neg_ℤ (h · c.dual)) d.dual ∙ cancels (h · d.dual) (h · c.dual);
          not_zero = not_zero_by_form d.row level
              (λ z. mul_nonzero (neg_ℤ (h · c.dual)) e.reached.D (turned_nonzero k) f.nonzero (sym value ∙ z));
        })

    alone_or_closer : IsAloneOnTight n fixed rows y ⊎ Closer y
    alone_or_closer = by e.reached.slots refl
      where
        here : Vanish (taken [] (fixed ++ tight_at y rows) e.marks) y
        here =
            let own = vanish_from_on_tight y y rows (on_tight_itself y rows) in
            taken_of [] (fixed ++ tight_at y rows) e.marks y tt
            (all_both (λ g. g · y ≡ pos 0) fixed (tight_at y rows) u.in_cone.vanishing own)

        not_zero : IsZero y → ⊥
        not_zero = not_zero_by_form h y (positive_nonzero (h · y) u.up)

        by : (cs : List Column) → e.reached.slots ≡ cs → IsAloneOnTight n fixed rows y ⊎ Closer y
        by [] s = absurd (not_zero (zero_from_none e.reached s y u.in_cone.width here))
        by (c ∷ []) s =
            let alone = alone_from_one e.reached c s y u.in_cone.width here not_zero in
            inl (λ z l v t. alone_from_taken n [] (fixed ++ tight_at y rows) e y alone z l
            (all_both (λ g. g · z ≡ pos 0) fixed (tight_at y rows) v (vanish_from_on_tight y z rows t)))
        by (c ∷ d ∷ cs) s = inr (two_left c d cs s)

  -- ---- a vector that is alone
  record Alone : Type 0 where
    z : Vector
    up : Up z
    alone : IsAloneOnTight n fixed rows z

  -- at most `fuel` moves from y
  some_alone : IsPointed n fixed rows → (fuel : ℕ) (y : Vector) → loose_at y rows < fuel → Up y → Alone
  some_alone pointed zero y l u = absurd (omega arith)
  some_alone pointed (suc fuel) y l u =
      ⊎_elim (λ a. record { z = y; up = u; alone = a })
      (λ t. some_alone pointed fuel t.z (less (loose_at t.z rows) (loose_at y rows) t.fewer l) t.up)
      (alone_or_closer pointed y u (eliminate_all n (fixed ++ tight_at y rows)))
    where
      less : (a b : ℕ) → a < b → b < suc fuel → a < fuel
      less a b h k = omega arith

  -- ---- and its primitive vector
  pub positive_corner : IsPointed n fixed rows → (y : Vector) → IsInConeOf n fixed rows y → pos 0 <ℤ (h · y) →
      (z : Vector) × IsCorner n fixed rows z × (pos 0 <ℤ (h · z))
  positive_corner pointed y c up =
      by (some_alone pointed (suc (loose_at y rows)) y (omega arith) (record { in_cone = c; up = up }))
    where
      by : Alone → (z : Vector) × IsCorner n fixed rows z × (pos 0 <ℤ (h · z))
      by a = made (primitive_of a.z (not_zero_by_form h a.z (positive_nonzero (h · a.z) a.up.up)))
        where
          made : PrimitiveOf a.z → (z : Vector) × IsCorner n fixed rows z × (pos 0 <ℤ (h · z))
          made p = (
            p.y,
            record {
              primitive = p.primitive;
              in_cone = cone_along n fixed rows (pos p.g) p.y a.z positive times a.up.in_cone;
              alone = alone_along n fixed rows (pos p.g) p.y a.z positive times a.alone;
            },
            still_up,
          )
            where
              positive : pos 0 <ℤ pos p.g
              positive = let l = p.positive in omega (arith, ints)

              times : scale (pos p.g) p.y ≡ scale (pos 1) a.z
              times = p.times ∙ sym (scale-one a.z)

              still_up : pos 0 <ℤ (h · p.y)
              still_up = positive_along (pos p.g) p.y a.z positive times h a.up.up
