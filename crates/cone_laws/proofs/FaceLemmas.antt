-- A vector is extreme exactly where the rows that are 0 on its face have a first basis of n - 1.
use Rattle.std.proofs.Common.{◌≡◌, ◌↔◌, Bool, cond, ℕ, ◌+◌, ◌-◌, ◌<◌, pos, List, [], ◌∷◌, length, subst, arith}
use Rattle.std.specs.Prelude.{◌≤ℤ◌}
use Rattle.std.specs.List.{slice_index_or}
use Rattle.poly_num.specs.Vectors.{Vector, ◌·◌, IsZero, IsPrimitive, IsMultipleOf}
use Rattle.poly_model.specs.Independence.{Vanish, IsFirstBasis, taken, IsAlone}
use Rattle.poly_model.specs.Systems.{System}
use Rattle.poly_model.specs.Cones.{IsInCone}
use Rattle.poly_model.specs.FreeColumns.{IsZeroAtFree, AreFreeColumns}
use Rattle.poly_model.specs.Extreme.{IsOnFace, IsExtreme}
use Rattle.linear_laws.proofs.AllLemmas.{all_left, all_right, all_both}
use Rattle.linear_laws.proofs.FirstBases.{first_basis_is_one}
use Rattle.linear_laws.proofs.Alone.{alone_by_first_basis}
use Rattle.cone_laws.specs.Faces.{fixed_rows, tight_rows, face_rows, HasRank}
use Rattle.cone_laws.specs.ExtremeLaws.{IsExtremeByRank}
use Rattle.cone_laws.proofs.RowLemmas.{LinearRowsVanish, vanish_tight, tight_tight, fixed_vanish, zero_at_fixed, linear_from_fixed}

-- a linear row is 0 at each vector of the cone
pub linear_vanish_in_cone : (sys : System) (y : Vector) → IsInCone sys y → LinearRowsVanish sys.rows y
linear_vanish_in_cone sys y c k d lt e =
    subst (λ b. cond b (row · y ≡ pos 0) (pos 0 ≤ℤ (row · y))) e (c.meets k d lt)
  where
    row : Vector
    row = (slice_index_or sys.rows k d).entries

module _ (sys : System) (columns : List ℕ) (f : AreFreeColumns sys columns) (y : Vector) where
  -- a vector is on the face exactly where its rows are 0
  face_vanishes : (z : Vector) → IsOnFace sys y z → Vanish (face_rows columns sys y) z
  face_vanishes z h =
      let fixed = fixed_vanish columns sys z (λ j m. h.free j ((f.exactly j).1 m)) h.linear in
      let tight = vanish_tight y z sys.rows h.tight in
      all_both (λ g. g · z ≡ pos 0) (fixed_rows columns sys) (tight_rows y sys.rows) fixed tight

  on_face : (z : Vector) → length z ≡ sys.n → Vanish (face_rows columns sys y) z → IsOnFace sys y z
  on_face z l v =
      let fixed = all_left (λ g. g · z ≡ pos 0) (fixed_rows columns sys) (tight_rows y sys.rows) v in
      let tight = all_right (λ g. g · z ≡ pos 0) (fixed_rows columns sys) (tight_rows y sys.rows) v in
      record {
        width = l;
        free = λ j q. zero_at_fixed columns sys z fixed j ((f.exactly j).0 q);
        linear = linear_from_fixed columns sys z fixed;
        tight = tight_tight y z sys.rows tight;
      }

  module _ (primitive : IsPrimitive y) (free : IsZeroAtFree sys y) (c : IsInCone sys y) where
    on_own_face : IsOnFace sys y y
    on_own_face = record {
      width = c.width;
      free = free;
      linear = linear_vanish_in_cone sys y c;
      tight = λ k d lt e. e;
    }

    counted : (marks : List Bool) → IsFirstBasis sys.n [] (face_rows columns sys y) marks →
        IsAlone sys.n (face_rows columns sys y) y
        ↔ (length (taken [] (face_rows columns sys y) marks) + 1 ≡ sys.n)
    counted marks first =
        alone_by_first_basis sys.n [] (face_rows columns sys y) marks y tt first c.width tt
        (face_vanishes y on_own_face) primitive.0

    rank_from_alone : ((z : Vector) → IsOnFace sys y z → IsMultipleOf y z) →
        HasRank sys.n (face_rows columns sys y) (sys.n - 1)
    rank_from_alone h =
        let b = first_basis_is_one sys.n [] (face_rows columns sys y) in
        let k = (counted b.0 b.1).0 (λ z l v. h z (on_face z l v)) in
        record { marks = b.0; first = b.1; count = omega arith }

    some_column : 0 < sys.n
    some_column = by y c.width primitive.0
      where
        by : (v : Vector) → length v ≡ sys.n → (IsZero v → ⊥) → 0 < sys.n
        by [] l nz = absurd (nz tt)
        by (x ∷ v) l nz = omega arith

    alone_from_rank : HasRank sys.n (face_rows columns sys y) (sys.n - 1) →
        (z : Vector) → IsOnFace sys y z → IsMultipleOf y z
    alone_from_rank r z h =
        let some = some_column in
        let count = r.count in
        (counted r.marks r.first).1 (omega arith) z h.width (face_vanishes z h)

  pub extreme_by_rank : IsExtreme sys y ↔ IsExtremeByRank columns sys y
  extreme_by_rank = (
    λ x. record {
      primitive = x.primitive;
      free = x.free;
      in_cone = x.in_cone;
      rank = rank_from_alone x.primitive x.free x.in_cone x.alone;
      shown = x.shown;
    },
    λ x. record {
      primitive = x.primitive;
      free = x.free;
      in_cone = x.in_cone;
      alone = alone_from_rank x.primitive x.free x.in_cone x.rank;
      shown = x.shown;
    },
  )
