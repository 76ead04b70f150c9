-- The vectors of a lifted space, which have one entry more in front, and the values of labels at them.
use Rattle.std.proofs.Common.{◌≡◌, ◌≢◌, ℕ, suc, Bool, true, false, cond, List, [], ◌∷◌, ℤ, pos, ◌+ℤ◌, ◌*ℤ◌, refl, sym, ap, ◌∙◌, arith}
use Rattle.std.specs.Prelude.{◌==◌}
use Rattle.std.specs.List.{Contains}
use Rattle.std.proofs.lemmas.Bool.{eqb-true}
use Rattle.std.proofs.lemmas.Int.{ints}
use Rattle.poly_num.specs.Vectors.{Vector, ◌·◌}
use Rattle.poly_num.proofs.VectorLemmas.{dot-zero}
use Rattle.poly_model.specs.Spaces.{Space, IsInside, IsDirection, is_member, lift_of, lifted}
use Rattle.poly_model.specs.Labels.{is_row}
use Rattle.linear_laws.proofs.Entries.{zeros, length-zeros, IsZero-zeros}
use Rattle.dictionary_laws.proofs.Directions.{times_zero, vanish_zero}
use Rattle.dictionary_laws.proofs.Filters.{member_has, member_only}
use Rattle.dictionary_laws.proofs.InFront.{vanish_in_front, with_front}
use Rattle.tree_laws.proofs.ExtremesOfPoints.{behind_vanish}

-- ---- one entry more in front
once : (x v : ℤ) → pos 1 *ℤ x +ℤ v ≡ x +ℤ v
once x v = omega (arith, ints)

alone : (x : ℤ) → pos 1 *ℤ x +ℤ pos 0 ≡ x
alone x = omega (arith, ints)

pub not_zero : (k : ℕ) → k ≢ 0 → (k == 0) ≡ false
not_zero k n = by (k == 0) refl
  where
    by : (b : Bool) → (k == 0) ≡ b → b ≡ false
    by true e = absurd (n (eqb-true k 0 e))
    by false e = refl

module _ (space : Space) (start : List ℕ) where
  abbrev pub first : Space
  first = lifted space start

  pub inside_front : (x : ℤ) (z : Vector) → IsInside space z → IsInside first (x ∷ z)
  inside_front x z h = record { width = ap suc h.width; fixed = vanish_in_front space.fixed x z h.fixed }

  pub inside_rest : (x : ℤ) (z : Vector) → IsInside first (x ∷ z) → IsInside space z
  inside_rest x z h =
      record { width = let w = h.width in omega (arith, w); fixed = behind_vanish space.fixed x z h.fixed }

  -- the value at infinity is that of the rest
  pub same_infinity : (x : ℤ) (z : Vector) → first.infinity · (x ∷ z) ≡ space.infinity · z
  same_infinity x z = with_front space.infinity x z

  pub direction_front : (x : ℤ) (z : Vector) → IsDirection space z → IsDirection first (x ∷ z)
  direction_front x z h = record { inside = inside_front x z h.inside; level = same_infinity x z ∙ h.level }

  pub direction_rest : (x : ℤ) (z : Vector) → IsDirection first (x ∷ z) → IsDirection space z
  direction_rest x z h = record { inside = inside_rest x z h.inside; level = sym (same_infinity x z) ∙ h.level }

  -- ---- values
  pub value_of_t : (x : ℤ) (z : Vector) → first.form 0 · (x ∷ z) ≡ x
  value_of_t x z = alone x

  pub value_of : (k : ℕ) → k ≢ 0 → (x : ℤ) (z : Vector) →
      first.form k · (x ∷ z) ≡ lift_of start k *ℤ x +ℤ space.form k · z
  value_of k n x z =
      ap (λ b. cond b (pos 1 ∷ []) (lift_of start k ∷ space.form k) · (x ∷ z)) (not_zero k n)

  -- t alone is 1 there
  abbrev pub along_t : Vector
  along_t = pos 1 ∷ zeros space.n

  nowhere : (g : Vector) → g · zeros space.n ≡ pos 0
  nowhere g = dot-zero g (zeros space.n) (IsZero-zeros space.n)

  pub along_t_direction : IsDirection first along_t
  along_t_direction =
      direction_front (pos 1) (zeros space.n)
      (record {
        inside = record {
          width = length-zeros space.n;
          fixed = vanish_zero space.fixed (zeros space.n) (IsZero-zeros space.n);
        };
        level = nowhere space.infinity;
      })

  pub t_is_not_zero : first.form 0 · along_t ≢ pos 0
  t_is_not_zero e = not_one (first.form 0 · along_t) (value_of_t (pos 1) (zeros space.n)) e
    where
      not_one : (x : ℤ) → x ≡ pos 1 → x ≡ pos 0 → ⊥
      not_one x e f = omega (arith, ints)

  -- where t is 0, all other labels have the values without it
  pub value_without : (k : ℕ) → k ≢ 0 → (x : ℤ) (z : Vector) → x ≡ pos 0 →
      first.form k · (x ∷ z) ≡ space.form k · z
  value_without k n x z e = value_of k n x z ∙ gone (lift_of start k) x (space.form k · z) e
    where
      gone : (c x v : ℤ) → x ≡ pos 0 → c *ℤ x +ℤ v ≡ v
      gone c x v e = let f = times_zero c x e in omega (arith, ints)

  lift_is : (k : ℕ) (row inside : Bool) → is_row k ≡ row → is_member k start ≡ inside →
      lift_of start k ≡ cond row (cond inside (pos 0) (pos 1)) (pos 0)
  lift_is k row inside e f =
      ap (λ b. cond b (cond (is_member k start) (pos 0) (pos 1)) (pos 0)) e
      ∙ ap (λ b. cond row (cond b (pos 0) (pos 1)) (pos 0)) f

  lift_inside : (k : ℕ) → Contains start k → lift_of start k ≡ pos 0
  lift_inside k c = lift_is k (is_row k) true refl (member_has k start c) ∙ both (is_row k)
    where
      both : (b : Bool) → cond b (pos 0) (pos 0) ≡ pos 0
      both true = refl
      both false = refl

  pub value_inside : (k : ℕ) → k ≢ 0 → Contains start k → (x : ℤ) (z : Vector) →
      first.form k · (x ∷ z) ≡ space.form k · z
  value_inside k n c x z =
      value_of k n x z
      ∙ ap (λ (c : ℤ). c *ℤ x +ℤ space.form k · z) (lift_inside k c)
      ∙ with_front (space.form k) x z

  pub lift_outside : (k : ℕ) → is_row k ≡ true → (Contains start k → ⊥) → lift_of start k ≡ pos 1
  lift_outside k row o = lift_is k true (is_member k start) row refl ∙ by (is_member k start) refl
    where
      by : (b : Bool) → is_member k start ≡ b → cond b (pos 0) (pos 1) ≡ pos 1
      by true e = absurd (o (member_only k start e))
      by false e = refl

  pub value_outside : (k : ℕ) → k ≢ 0 → is_row k ≡ true → (Contains start k → ⊥) → (x : ℤ) (z : Vector) →
      first.form k · (x ∷ z) ≡ x +ℤ space.form k · z
  value_outside k n row o x z =
      value_of k n x z
      ∙ ap (λ (c : ℤ). c *ℤ x +ℤ space.form k · z) (lift_outside k row o)
      ∙ once x (space.form k · z)
