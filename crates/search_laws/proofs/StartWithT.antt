-- A start cobasis with t is a cobasis of the lifted space. And numbers that write the labels of the lifted space over t
-- and others write those of the space over the others.
use Rattle.std.proofs.Common.{◌≡◌, ◌≢◌, ◌⊎◌, inl, inr, ◌<◌, ℕ, cond, List, [], ◌∷◌, ℤ, pos, ◌+ℤ◌, ◌*ℤ◌, refl, sym, ap, subst, ◌∙◌, arith}
use Rattle.std.specs.Prelude.{◌==◌}
use Rattle.std.specs.List.{AllByRecursion, Contains}
use Rattle.std.proofs.lemmas.Int.{ints}
use Rattle.std.proofs.lemmas.List.Elements.{All-from_recursion}
use Rattle.poly_num.specs.Vectors.{Vector, ◌·◌, IsZero}
use Rattle.poly_num.proofs.Ring.{expand, lin}
use Rattle.poly_model.specs.Spaces.{Space, IsInside, IsDirection, HasPoints, lift_of, lifted}
use Rattle.poly_model.specs.Dictionaries.{AreIndependent, IsCobasis, Table, Writes, sum_over}
use Rattle.poly_model.specs.LexOrder.{rows_in}
use Rattle.poly_model.specs.Tree.{IsRowDictionary}
use Rattle.linear_laws.proofs.Members.{all_at, Contains-first, Contains-later}
use Rattle.dictionary_laws.proofs.Members.{all_from, contains_cases, sum_same, sum_zero}
use Rattle.dictionary_laws.proofs.Directions.{times_zero, zero_times}
use Rattle.dictionary_laws.proofs.Values.{terms}
use Rattle.dictionary_laws.specs.WithT.{with_t}
use Rattle.search_laws.specs.PhaseOne.{HasNoRowZero}
use Rattle.tree_laws.proofs.Numbers.{key_label, key_row}
use Rattle.search_laws.proofs.LiftedForms.{first, not_zero, inside_front, inside_rest, same_infinity, direction_front, direction_rest, along_t, along_t_direction, t_is_not_zero, value_of_t, value_of, value_without, value_inside}

module _ (space : Space) (start : List ℕ) (none : HasNoRowZero space) where
  pub not_t : (k : ℕ) → Contains space.labels k → k ≢ 0
  not_t k c e = none (subst (Contains space.labels) e c)

  -- ---- without t
  dropped : (d v c l e x s : ℤ) → x ≡ pos 0 → d *ℤ v ≡ c *ℤ l +ℤ (e *ℤ x +ℤ s) → d *ℤ v ≡ c *ℤ l +ℤ s
  dropped d v c l e x s z h = let f = times_zero e x z in omega (arith, lin)

  pub writes_without : (rest : List ℕ) (u : Table) → ((k : ℕ) → Contains rest k → Contains space.labels k) →
      Writes (lifted space start) (0 ∷ rest) u → Writes space rest u
  writes_without rest u within w = record {
    positive = w.positive;
    values = λ i l z inside.
        ap (λ (v : ℤ). u.denominator *ℤ v) (sym (value_without space start i (not_t i l) (pos 0) z refl))
        ∙ dropped u.denominator ((first space start).form i · (pos 0 ∷ z)) (u.constant i)
        ((first space start).infinity · (pos 0 ∷ z)) (u.entry i 0) ((first space start).form 0 · (pos 0 ∷ z))
        (sum_over rest (terms (first space start) u i (pos 0 ∷ z))) (value_of_t space start (pos 0) z)
        (w.values i (Contains-later i 0 space.labels l) (pos 0 ∷ z) (inside_front space start (pos 0) z inside))
        ∙ ap (λ (v : ℤ). u.constant i *ℤ v +ℤ sum_over rest (terms (first space start) u i (pos 0 ∷ z)))
        (same_infinity space start (pos 0) z)
        ∙ ap (λ (v : ℤ). u.constant i *ℤ (space.infinity · z) +ℤ v)
        (sum_same rest (terms (first space start) u i (pos 0 ∷ z)) (terms space u i z)
        (λ k c. ap (λ (v : ℤ). u.entry i k *ℤ v)
        (value_without space start k (not_t k (within k c)) (pos 0) z refl)));
  }

  -- ---- the start cobasis with t
  module _ (t : Table) (d : IsRowDictionary space start t) where
    pub start_not_t : (k : ℕ) → Contains start k → k ≢ 0
    start_not_t k c = not_t k (key_label space start t d k c)

    pub points_with_t : HasPoints (first space start)
    points_with_t = record {
      vector = pos 0 ∷ d.points.vector;
      inside = inside_front space start (pos 0) d.points.vector d.points.inside;
      finite = λ e. d.points.finite (sym (same_infinity space start (pos 0) d.points.vector) ∙ e);
    }

    independent_front : (before over ks : List ℕ) →
        ((z : Vector) → AllByRecursion (λ i. space.form i · z ≡ pos 0) before →
        AllByRecursion (λ i. (first space start).form i · (pos 0 ∷ z) ≡ pos 0) over) →
        ((k : ℕ) → Contains ks k → Contains start k) → AreIndependent space before ks →
        AreIndependent (first space start) over ks
    independent_front before over [] h within a = tt
    independent_front before over (k ∷ ks) h within a = (
      (
        pos 0 ∷ a.0.0,
        direction_front space start (pos 0) a.0.0 a.0.1,
        h a.0.0 a.0.2,
        λ e. a.0.3 (sym (same a.0.0) ∙ e),
      ),
      independent_front (k ∷ before) (k ∷ over) ks (λ z b. (same z ∙ b.0, h z b.1))
          (λ i c. within i (Contains-later i k ks c)) a.1,
    )
      where
        same : (z : Vector) → (first space start).form k · (pos 0 ∷ z) ≡ space.form k · z
        same z = value_without space start k (start_not_t k (within k (Contains-first k ks))) (pos 0) z refl

    zero_with_t : (y : Vector) → IsDirection (first space start) y →
        AllByRecursion (λ k. (first space start).form k · y ≡ pos 0) (0 ∷ start) → IsZero y
    zero_with_t [] direction h = let w = direction.inside.width in absurd (omega (arith, w))
    zero_with_t (x ∷ z) direction h = (
      sym (value_of_t space start x z) ∙ h.0,
      d.dictionary.cobasis.enough z (direction_rest space start x z direction)
          (all_from (λ k. space.form k · z ≡ pos 0) start
          (λ k c. sym (value_inside space start k (start_not_t k c) c x z)
          ∙ all_at (λ k. (first space start).form k · (x ∷ z) ≡ pos 0) start h.1 k c)),
    )

    cobasis_with_t : IsCobasis (first space start) (0 ∷ start)
    cobasis_with_t = record {
      labels = All-from_recursion (Contains (0 ∷ space.labels)) (0 ∷ start) (
        Contains-first 0 space.labels,
        all_from (Contains (0 ∷ space.labels)) start
            (λ k c. Contains-later k 0 space.labels (key_label space start t d k c)),
      );
      independent = (
        (along_t space start, along_t_direction space start, tt, t_is_not_zero space start),
        independent_front [] (0 ∷ []) start (λ z b. (value_of_t space start (pos 0) z, tt)) (λ k c. c)
            d.dictionary.cobasis.independent,
      );
      enough = zero_with_t;
    }

    -- its numbers
    split : (d v c l lift x s w : ℤ) → w ≡ lift *ℤ x +ℤ v → d *ℤ v ≡ c *ℤ l +ℤ s →
        d *ℤ w ≡ c *ℤ l +ℤ ((d *ℤ lift) *ℤ x +ℤ s)
    split d v c l lift x s w e h =
        let f = ap (λ (z : ℤ). d *ℤ z) e in
        let g = simp expand at f in
        simp expand (omega (arith, lin))

    join : (c e l k a b s r : ℤ) → c ≡ e → l ≡ k → a ≡ b → s ≡ r → c *ℤ l +ℤ (a +ℤ s) ≡ e *ℤ k +ℤ (b +ℤ r)
    join c e l k a b s r f g h i = cc

    other_row : (i : ℕ) → Contains space.labels i → (x : ℤ) (z : Vector) → IsInside space z →
        t.denominator *ℤ ((first space start).form i · (x ∷ z))
        ≡ (with_t start t).constant i *ℤ ((first space start).infinity · (x ∷ z))
        +ℤ sum_over (0 ∷ start) (terms (first space start) (with_t start t) i (x ∷ z))
    other_row i l x z inside =
        split t.denominator (space.form i · z) (t.constant i) (space.infinity · z) (lift_of start i) x
        (sum_over start (terms space t i z)) ((first space start).form i · (x ∷ z))
        (value_of space start i (not_t i l) x z)
        (d.dictionary.writes.values i l z inside)
        ∙ sym (join ((with_t start t).constant i) (t.constant i) ((first space start).infinity · (x ∷ z))
        (space.infinity · z) ((with_t start t).entry i 0 *ℤ ((first space start).form 0 · (x ∷ z)))
        ((t.denominator *ℤ lift_of start i) *ℤ x)
        (sum_over start (terms (first space start) (with_t start t) i (x ∷ z)))
        (sum_over start (terms space t i z))
        (ap (λ b. cond b (pos 0) (t.constant i)) (not_zero i (not_t i l)))
        (same_infinity space start x z)
        (ap (λ b. cond b t.denominator (t.denominator *ℤ lift_of start i) *ℤ ((first space start).form 0 · (x ∷ z)))
        (not_zero i (not_t i l))
        ∙ ap (λ (v : ℤ). (t.denominator *ℤ lift_of start i) *ℤ v) (value_of_t space start x z))
        (sum_same start (terms (first space start) (with_t start t) i (x ∷ z)) (terms space t i z)
        (λ k c.
        ap (λ b. cond b (cond (i == 0) t.denominator (t.denominator *ℤ lift_of start i))
        (cond (i == 0) (pos 0) (t.entry i k)) *ℤ ((first space start).form k · (x ∷ z)))
        (not_zero k (start_not_t k c))
        ∙ ap (λ b. cond b (pos 0) (t.entry i k) *ℤ ((first space start).form k · (x ∷ z)))
        (not_zero i (not_t i l))
        ∙ ap (λ (v : ℤ). t.entry i k *ℤ v) (value_inside space start k (start_not_t k c) c x z))))

    t_row : (x : ℤ) (z : Vector) →
        t.denominator *ℤ ((first space start).form 0 · (x ∷ z))
        ≡ pos 0 *ℤ ((first space start).infinity · (x ∷ z))
        +ℤ sum_over (0 ∷ start) (terms (first space start) (with_t start t) 0 (x ∷ z))
    t_row x z =
        only (t.denominator *ℤ ((first space start).form 0 · (x ∷ z))) ((first space start).infinity · (x ∷ z))
        (sum_over start (terms (first space start) (with_t start t) 0 (x ∷ z)))
        (sum_zero start (terms (first space start) (with_t start t) 0 (x ∷ z))
        (λ k c. zero_times ((with_t start t).entry 0 k) ((first space start).form k · (x ∷ z))
        (ap (λ b. cond b t.denominator (pos 0)) (not_zero k (start_not_t k c)))))
      where
        only : (a l s : ℤ) → s ≡ pos 0 → a ≡ pos 0 *ℤ l +ℤ (a +ℤ s)
        only a l s e = omega (arith, ints)

    writes_with_t : Writes (first space start) (0 ∷ start) (with_t start t)
    writes_with_t = record {
      positive = d.dictionary.writes.positive;
      values = λ i l y inside. by i (contains_cases 0 space.labels i l) y inside;
    }
      where
        by : (i : ℕ) → (i ≡ 0) ⊎ Contains space.labels i → (y : Vector) → IsInside (first space start) y →
            t.denominator *ℤ ((first space start).form i · y)
            ≡ (with_t start t).constant i *ℤ ((first space start).infinity · y)
            +ℤ sum_over (0 ∷ start) (terms (first space start) (with_t start t) i y)
        by i c [] inside = let w = inside.width in absurd (omega (arith, w))
        by i (inl e) (x ∷ z) inside =
            subst (λ (i : ℕ). t.denominator *ℤ ((first space start).form i · (x ∷ z))
            ≡ (with_t start t).constant i *ℤ ((first space start).infinity · (x ∷ z))
            +ℤ sum_over (0 ∷ start) (terms (first space start) (with_t start t) i (x ∷ z))) (sym e) (t_row x z)
        by i (inr c) (x ∷ z) inside = other_row i c x z (inside_rest space start x z inside)

    pub dictionary_with_t : IsRowDictionary (lifted space start) (0 ∷ start) (with_t start t)
    dictionary_with_t = record {
      points = points_with_t;
      ascending = (all_from (λ k. 0 < k) start (λ k c. let n = start_not_t k c in omega (arith, n)), d.ascending);
      rows = All-from_recursion (Contains (0 ∷ rows_in space.labels)) (0 ∷ start) (
        Contains-first 0 (rows_in space.labels),
        all_from (Contains (0 ∷ rows_in space.labels)) start
            (λ k c. Contains-later k 0 (rows_in space.labels) (key_row space start t d k c)),
      );
      dictionary = record {
        cobasis = cobasis_with_t;
        writes = writes_with_t;
        least = λ other w. d.dictionary.least other
            (writes_without start other (key_label space start t d) w);
      };
    }
