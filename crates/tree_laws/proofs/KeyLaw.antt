-- The key law: the lists of one dictionary from those of another. At each place,
--     D level_u(i)  =  E level_t(i)  +  the sum over the labels c of t's key of t(i, c) level_u(c)
-- with the denominators D of t and E of u.
use Rattle.std.proofs.Common.{◌≡◌, ◌≢◌, refl, subst, ℕ, Bool, true, false, cond, List, ℤ, pos, ◌+ℤ◌, ◌-ℤ◌, ◌*ℤ◌, sym, ap, ◌∙◌, ⊎_elim, arith}
use Rattle.std.specs.Prelude.{◌==◌, Option, None, Some}
use Rattle.std.specs.List.{Contains}
use Rattle.poly_num.proofs.Ring.{expand, lin, mul_comm, mul-sub}
use Rattle.poly_model.specs.Spaces.{Space}
use Rattle.poly_model.specs.Dictionaries.{Table, sum_over}
use Rattle.poly_model.specs.Tree.{IsRowDictionary}
use Rattle.dictionary_laws.proofs.Members.{contains_or, sum_same, sum_zero, sum_single}
use Rattle.dictionary_laws.proofs.Directions.{times_zero}
use Rattle.dictionary_laws.proofs.Duals.{distinct}
use Rattle.tree_laws.proofs.ListSums.{sum-sub}
use Rattle.tree_laws.proofs.Numbers.{number_at, number_inside, number_outside, composed_number, composed_constant}
use Rattle.tree_laws.proofs.Levels.{itself, itself_here, itself_apart, level, own_level}

here_step : (d e p q : ℤ) → d *ℤ (e -ℤ p) ≡ e *ℤ (d -ℤ q) +ℤ (e *ℤ q -ℤ d *ℤ p)
here_step d e p q = simp expand (omega (arith, lin))

apart_step : (d e z p q : ℤ) → z ≡ pos 0 → d *ℤ (z -ℤ p) ≡ e *ℤ (z -ℤ q) +ℤ (e *ℤ q -ℤ d *ℤ p)
apart_step d e z p q h =
    let f = times_zero d z h in let g = times_zero e z h in
    simp expand (omega (arith, lin))

at_itself : (b : Bool) (d e p q : ℤ) →
    d *ℤ (cond b e (pos 0) -ℤ p) ≡ e *ℤ (cond b d (pos 0) -ℤ q) +ℤ (e *ℤ q -ℤ d *ℤ p)
at_itself true d e p q = here_step d e p q
at_itself false d e p q = apart_step d e (pos 0) p q refl

less : (a b c d : ℤ) → a ≡ c → b ≡ d → a -ℤ b ≡ c -ℤ d
less a b c d e f = omega (arith, lin)

other_way : (a e s : ℤ) → a *ℤ e +ℤ s ≡ e *ℤ a +ℤ s
other_way a e s = ap (λ (z : ℤ). z +ℤ s) (mul_comm a e)

module _ (space : Space) (key : List ℕ) (t : Table) (d : IsRowDictionary space key t) where
  -- of the labels of the key, k alone is itself
  sum_itself : (i k : ℕ) (e : ℤ) → sum_over key (λ c. t.entry i c *ℤ itself k c e) ≡ e *ℤ number_at key t i k
  sum_itself i k e =
      ⊎_elim
      (λ (m : Contains key k).
      sum_single k key (λ c. t.entry i c *ℤ itself k c e) (distinct space key d.dictionary.cobasis) m
      (λ c _ n. times_zero (t.entry i c) (itself k c e) (itself_apart k c e (λ f. n (sym f))))
      ∙ ap (λ (z : ℤ). t.entry i k *ℤ z) (itself_here k k e refl)
      ∙ mul_comm (t.entry i k) e
      ∙ ap (λ (z : ℤ). e *ℤ z) (sym (number_inside key t i k m)))
      (λ (n : Contains key k → ⊥).
      sum_zero key (λ c. t.entry i c *ℤ itself k c e)
      (λ c m. times_zero (t.entry i c) (itself k c e) (itself_apart k c e (λ f. n (subst (Contains key) (sym f) m))))
      ∙ sym (times_zero e (number_at key t i k) (number_outside key t i k n)))
      (contains_or key k)

module _ (space : Space) (key new : List ℕ) (t u : Table) (d : IsRowDictionary space key t)
    (e : IsRowDictionary space new u) where
  sum_levels : (i : ℕ) → Contains space.labels i → (k : ℕ) →
      u.denominator *ℤ number_at key t i k -ℤ t.denominator *ℤ number_at new u i k
      ≡ sum_over key (λ c. t.entry i c *ℤ level new u c (Some k))
  sum_levels i l k =
      less (u.denominator *ℤ number_at key t i k) (t.denominator *ℤ number_at new u i k)
      (sum_over key (λ c. t.entry i c *ℤ itself k c u.denominator))
      (sum_over key (λ c. t.entry i c *ℤ number_at new u c k))
      (sym (sum_itself space key t d i k u.denominator)) (composed_number space key new t u d e i l k)
      ∙ sym (sum-sub key (λ c. t.entry i c *ℤ itself k c u.denominator) (λ c. t.entry i c *ℤ number_at new u c k))
      ∙ sum_same key (λ c. t.entry i c *ℤ itself k c u.denominator -ℤ t.entry i c *ℤ number_at new u c k)
      (λ c. t.entry i c *ℤ level new u c (Some k))
      (λ c _. sym (mul-sub (t.entry i c) (itself k c u.denominator) (number_at new u c k)))

  pub key_law : (i : ℕ) → Contains space.labels i → (x : Option ℕ) →
      t.denominator *ℤ level new u i x
      ≡ u.denominator *ℤ level key t i x +ℤ sum_over key (λ c. t.entry i c *ℤ level new u c x)
  key_law i l None =
      composed_constant space key new t u d e i l
      ∙ other_way (t.constant i) u.denominator (sum_over key (λ c. t.entry i c *ℤ u.constant c))
  key_law i l (Some k) =
      at_itself (k == i) t.denominator u.denominator (number_at new u i k) (number_at key t i k)
      ∙ ap (λ (z : ℤ). u.denominator *ℤ level key t i (Some k) +ℤ z) (sum_levels i l k)

  -- where the other key has all labels of the key but s, one term of the sum is left
  pub key_law_but_one : (s : ℕ) → Contains key s → ((k : ℕ) → Contains key k → k ≢ s → Contains new k) →
      (i : ℕ) → Contains space.labels i → (x : Option ℕ) →
      t.denominator *ℤ level new u i x
      ≡ u.denominator *ℤ level key t i x +ℤ t.entry i s *ℤ level new u s x
  key_law_but_one s m stay i l x =
      key_law i l x
      ∙ ap (λ (z : ℤ). u.denominator *ℤ level key t i x +ℤ z)
      (sum_single s key (λ c. t.entry i c *ℤ level new u c x) (distinct space key d.dictionary.cobasis) m
      (λ c h n. times_zero (t.entry i c) (level new u c x) (own_level space new u e c (stay c h n) x)))
