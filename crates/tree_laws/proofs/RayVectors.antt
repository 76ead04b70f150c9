-- Each column of a cobasis has one ray: the primitive vector along any direction at which the other labels are 0 and
-- that of the column is positive.
use Rattle.std.proofs.Common.{◌≡◌, ◌≢◌, ℕ, List, [], ℤ, pos, ◌*ℤ◌, sym, subst, ◌∙◌, arith}
use Rattle.std.specs.Prelude.{◌<ℤ◌, ◌<◌}
use Rattle.std.specs.List.{Contains}
use Rattle.std.proofs.lemmas.Int.{ints}
use Rattle.poly_num.specs.Vectors.{Vector, ◌·◌, scale, IsZero}
use Rattle.poly_num.proofs.Ring.{one_mul}
use Rattle.poly_num.proofs.Order.{zero_factor, positive_factor, positive_nonzero}
use Rattle.poly_num.proofs.VectorLemmas.{dot-zero, dot-scale, scale-one}
use Rattle.poly_model.specs.Spaces.{Space, IsDirection}
use Rattle.poly_model.specs.Dictionaries.{Table}
use Rattle.poly_model.specs.Tree.{IsRowDictionary, IsAlongColumn}
use Rattle.linear_laws.proofs.Proportions.{vanish_from_multiple, same_width, values_from_multiples}
use Rattle.linear_laws.proofs.PrimitiveAlong.{PrimitiveOf, primitive_of, primitive_same}
use Rattle.linear_laws.proofs.Combinations.{zero_at_scale}
use Rattle.linear_laws.proofs.Signs.{square_positive}
use Rattle.dictionary_laws.proofs.Directions.{direction_scale}
use Rattle.dictionary_laws.proofs.Duals.{Dual, dual_of}
use Rattle.tree_laws.proofs.RayValues.{along_column}

module _ (space : Space) (key : List ℕ) (t : Table) (d : IsRowDictionary space key t) (s : ℕ) (m : Contains key s) where
  -- some ray
  module _ (w : Vector) (direction : IsDirection space w) (here : pos 0 <ℤ (space.form s · w))
      (elsewhere : (k : ℕ) → Contains key k → k ≢ s → space.form k · w ≡ pos 0) where
    not_zero : IsZero w → ⊥
    not_zero z = positive_nonzero (space.form s · w) here (dot-zero (space.form s) w z)

    along : PrimitiveOf w → (y : Vector) × IsAlongColumn space key s y
    along p = (
      p.y,
      record {
        primitive = p.primitive;
        inside = record {
          width = same_width (pos p.g) (pos 1) p.y w times ∙ direction.inside.width;
          fixed = vanish_from_multiple (pos p.g) (pos 1) p.y w nonzero times space.fixed direction.inside.fixed;
        };
        level = zero_factor (pos p.g) (space.infinity · p.y) (value space.infinity ∙ direction.level) nonzero;
        here = positive_factor (pos p.g) (space.form s · p.y) factor
            (subst (λ (x : ℤ). pos 0 <ℤ x) (sym (value (space.form s))) here);
        nothing = λ k c n.
            zero_factor (pos p.g) (space.form k · p.y) (value (space.form k) ∙ elsewhere k c n) nonzero;
      },
    )
      where
        factor : pos 0 <ℤ pos p.g
        factor = let h : 0 < p.g = p.positive in omega (arith, ints)

        nonzero : pos p.g ≢ pos 0
        nonzero = positive_nonzero (pos p.g) factor

        times : scale (pos p.g) p.y ≡ scale (pos 1) w
        times = p.times ∙ sym (scale-one w)

        value : (g : Vector) → pos p.g *ℤ (g · p.y) ≡ g · w
        value g = values_from_multiples (pos p.g) (pos 1) p.y w times g ∙ one_mul (g · w)

    of_direction : (y : Vector) × IsAlongColumn space key s y
    of_direction = along (primitive_of w not_zero)

  -- the dual direction of s, times its value there
  of_dual : Dual space [] key s → (y : Vector) × IsAlongColumn space key s y
  of_dual z =
      of_direction (scale (space.form s · z.vector) z.vector)
      (direction_scale space (space.form s · z.vector) z.vector z.direction)
      (subst (λ (v : ℤ). pos 0 <ℤ v) (sym (dot-scale (space.form s) (space.form s · z.vector) z.vector))
      (square_positive (space.form s · z.vector) z.here))
      (λ k c n. zero_at_scale (space.form k) (space.form s · z.vector) z.vector (z.elsewhere k c n))

  pub some_ray : (y : Vector) × IsAlongColumn space key s y
  some_ray = of_dual (dual_of space key d.dictionary.cobasis s m)

  -- and no other
  pub same_ray : (y z : Vector) → IsAlongColumn space key s y → IsAlongColumn space key s z → z ≡ y
  same_ray y z at there =
      primitive_same (space.form s · y) (space.form s · z) z y there.primitive at.primitive at.here there.here
      (along_column space key t d s m y at z (record { inside = there.inside; level = there.level }) there.nothing)
