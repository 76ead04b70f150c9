-- Each cobasis has one point: the primitive vector along any point at which its labels are 0.
use Rattle.std.proofs.Common.{◌≡◌, ◌≢◌, ℕ, List, ℤ, pos, ◌*ℤ◌, sym, subst, ◌∙◌, arith}
use Rattle.std.specs.Prelude.{◌<ℤ◌, ◌<◌}
use Rattle.std.proofs.lemmas.Int.{ints}
use Rattle.poly_num.specs.Vectors.{Vector, ◌·◌, scale, IsZero}
use Rattle.poly_num.proofs.Ring.{one_mul}
use Rattle.poly_num.proofs.Order.{zero_factor, positive_factor, positive_nonzero}
use Rattle.poly_num.proofs.VectorLemmas.{dot-zero, scale-one}
use Rattle.poly_model.specs.Spaces.{Space}
use Rattle.poly_model.specs.Dictionaries.{Table}
use Rattle.poly_model.specs.Tree.{IsRowDictionary, IsAtPoint}
use Rattle.linear_laws.proofs.Proportions.{vanish_from_multiple, same_width, values_from_multiples}
use Rattle.linear_laws.proofs.PrimitiveAlong.{PrimitiveOf, primitive_of, primitive_same}
use Rattle.dictionary_laws.proofs.Origins.{Origin, some_origin}
use Rattle.tree_laws.proofs.PointValues.{is_key_point, along_point}

module _ (space : Space) (key : List ℕ) (t : Table) (d : IsRowDictionary space key t) where
  -- some point
  module _ (o : Origin space key) where
    level_positive : pos 0 <ℤ (space.infinity · o.vector)
    level_positive = subst (λ (x : ℤ). pos 0 <ℤ x) (sym o.is_level) o.positive

    not_zero : IsZero o.vector → ⊥
    not_zero z =
        positive_nonzero (space.infinity · o.vector) level_positive (dot-zero space.infinity o.vector z)

    along : PrimitiveOf o.vector → (y : Vector) × IsAtPoint space key y
    along p = (
      p.y,
      record {
        primitive = p.primitive;
        inside = record {
          width = same_width (pos p.g) (pos 1) p.y o.vector times ∙ o.inside.width;
          fixed = vanish_from_multiple (pos p.g) (pos 1) p.y o.vector nonzero times space.fixed o.inside.fixed;
        };
        finite = positive_factor (pos p.g) (space.infinity · p.y) factor
            (subst (λ (x : ℤ). pos 0 <ℤ x) (sym (value space.infinity)) level_positive);
        nothing = λ k c. zero_factor (pos p.g) (space.form k · p.y) (value (space.form k) ∙ o.zero k c) nonzero;
      },
    )
      where
        factor : pos 0 <ℤ pos p.g
        factor = let h : 0 < p.g = p.positive in omega (arith, ints)

        nonzero : pos p.g ≢ pos 0
        nonzero = positive_nonzero (pos p.g) factor

        times : scale (pos p.g) p.y ≡ scale (pos 1) o.vector
        times = p.times ∙ sym (scale-one o.vector)

        value : (g : Vector) → pos p.g *ℤ (g · p.y) ≡ g · o.vector
        value g = values_from_multiples (pos p.g) (pos 1) p.y o.vector times g ∙ one_mul (g · o.vector)

    of_origin : (y : Vector) × IsAtPoint space key y
    of_origin = along (primitive_of o.vector not_zero)

  pub some_point : (y : Vector) × IsAtPoint space key y
  some_point = of_origin (some_origin space key d.points d.dictionary.cobasis)

  -- and no other
  pub same_point : (y z : Vector) → IsAtPoint space key y → IsAtPoint space key z → z ≡ y
  same_point y z at there =
      primitive_same (space.infinity · y) (space.infinity · z) z y there.primitive at.primitive at.finite there.finite
      (along_point space key t d y (is_key_point space key y at) z there.inside there.nothing)
