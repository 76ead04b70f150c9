-- Only zero is in the cone with its opposite and 0 at the free columns; so an extreme vector at which
-- all is tight that is tight at another one is that one.
use Rattle.std.proofs.Common.{◌≡◌, ⊎_elim, Bool, true, false, cond, ℤ, pos, neg_ℤ, map, subst, arith}
use Rattle.std.specs.Prelude.{◌≤ℤ◌}
use Rattle.std.proofs.lemmas.Int.{ints}
use Rattle.std.specs.List.{All, slice_index_or}
use Rattle.poly_num.specs.Vectors.{Vector, ◌·◌, IsZero}
use Rattle.poly_num.proofs.VectorLemmas.{dot-neg}
use Rattle.poly_model.specs.Systems.{Row, System}
use Rattle.poly_model.specs.Cones.{Meets, IsInCone, IsTight}
use Rattle.poly_model.specs.FreeColumns.{IsZeroAtFree}
use Rattle.poly_model.specs.Extreme.{IsOnFace, IsExtreme}
use Rattle.linear_laws.proofs.PrimitiveAlong.{primitive_up_to_sign}
use Rattle.cone_laws.proofs.ColumnLemmas.{zero_from_tight}
use Rattle.cone_laws.proofs.FaceLemmas.{linear_vanish_in_cone}

zero_from_signs : (linear : Bool) (x w : ℤ) → w ≡ neg_ℤ x → cond linear (x ≡ pos 0) (pos 0 ≤ℤ x) →
    cond linear (w ≡ pos 0) (pos 0 ≤ℤ w) → x ≡ pos 0
zero_from_signs true x w e h k = h
zero_from_signs false x w e h k = omega (arith, ints)

-- a row that is met by a vector and by its opposite is 0 there
tight_from_both : (y : Vector) (row : Row) → Meets y row → Meets (map neg_ℤ y) row → IsTight y row
tight_from_both y row h k =
    zero_from_signs row.linear (row.entries · y) (row.entries · map neg_ℤ y) (dot-neg row.entries y) h k

module _ (sys : System) (y : Vector) where
  pub zero_from_opposite : IsInCone sys y → IsInCone sys (map neg_ℤ y) → IsZeroAtFree sys y → IsZero y
  zero_from_opposite a b free =
      zero_from_tight sys y a.width
      (λ k d lt. tight_from_both y (slice_index_or sys.rows k d) (a.meets k d lt) (b.meets k d lt)) free

  pub same_from_tight : (z : Vector) → IsExtreme sys y → IsExtreme sys z →
      All (λ row. IsTight y row → IsTight z row) sys.rows → z ≡ y
  same_from_tight z a b t =
      ⊎_elim (λ e. e)
      (λ e. absurd (a.primitive.0 (zero_from_opposite a.in_cone (subst (IsInCone sys) e b.in_cone) a.free)))
      (primitive_up_to_sign y z a.primitive b.primitive (a.alone z face))
    where
      face : IsOnFace sys y z
      face = record {
        width = b.in_cone.width;
        free = b.free;
        linear = linear_vanish_in_cone sys z b.in_cone;
        tight = t;
      }
