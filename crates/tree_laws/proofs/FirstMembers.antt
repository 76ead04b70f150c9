-- The first and the last member of a list with a property, and the member that makes a list of values positive.
use Rattle.std.proofs.Common.{◌≡◌, ◌⊎◌, inl, inr, ⊎_elim, ℕ, ℤ, pos, ◌<ℤ◌, List, [], ◌∷◌, map, refl, sym, subst}
use Rattle.std.specs.List.{Contains}
use Rattle.poly_model.specs.LexOrder.{IsPositive, backwards, Precedes}
use Rattle.linear_laws.specs.Distinct.{AreDistinct}
use Rattle.linear_laws.proofs.Members.{Contains-nil, Contains-first, Contains-later}
use Rattle.dictionary_laws.proofs.Members.{contains_cases, by_cases}
use Rattle.tree_laws.proofs.ListOrder.{not_before_and_behind, before_backwards, backwards_has, backwards_only, none_before}

-- s has the property P, and stands before all others that have it
pub record IsFirst (P : ℕ → Type 0) (xs : List ℕ) (s : ℕ) : Type 0 where
  pub member : Contains xs s
  pub has : P s
  pub first : (k : ℕ) → Contains xs k → P k → (k ≡ s) ⊎ Precedes xs s k

pub record IsLast (P : ℕ → Type 0) (xs : List ℕ) (s : ℕ) : Type 0 where
  pub member : Contains xs s
  pub has : P s
  pub last : (k : ℕ) → Contains xs k → P k → (k ≡ s) ⊎ Precedes xs k s

pub first_with : (P : ℕ → Type 0) (xs : List ℕ) → ((k : ℕ) → Contains xs k → P k ⊎ (P k → ⊥)) →
    ((k : ℕ) → Contains xs k → P k → ⊥) ⊎ ((s : ℕ) × IsFirst P xs s)
first_with P [] decide = inl (λ k c p. Contains-nil k c)
first_with P (x ∷ xs) decide =
    ⊎_elim
    (λ (p : P x). inr (
      x,
      record {
        member = Contains-first x xs;
        has = p;
        first = λ k c q. ⊎_elim (λ (e : k ≡ x). inl e) (λ (d : Contains xs k). inr (inl (refl, d)))
            (contains_cases x xs k c);
      },
    ))
    (λ (n : P x → ⊥). ⊎_elim
    (λ (none : (k : ℕ) → Contains xs k → P k → ⊥). inl (by_cases (λ k. P k → ⊥) x xs n none))
    (λ (w : (s : ℕ) × IsFirst P xs s). inr (
      w.0,
      record {
        member = Contains-later w.0 x xs w.1.member;
        has = w.1.has;
        first = by_cases (λ k. P k → (k ≡ w.0) ⊎ Precedes (x ∷ xs) w.0 k) x xs (λ p. absurd (n p))
            (λ k c p. ⊎_elim (λ (e : k ≡ w.0). inl e) (λ (h : Precedes xs w.0 k). inr (inr h)) (w.1.first k c p));
      },
    ))
    (first_with P xs (λ k c. decide k (Contains-later k x xs c))))
    (decide x (Contains-first x xs))

pub first_is_one : (P : ℕ → Type 0) (xs : List ℕ) (s r : ℕ) → AreDistinct xs → IsFirst P xs s → IsFirst P xs r →
    s ≡ r
first_is_one P xs s r d f g =
    ⊎_elim
    (λ (e : s ≡ r). e)
    (λ (h : Precedes xs r s). ⊎_elim
    (λ (e : r ≡ s). sym e)
    (λ (k : Precedes xs s r). absurd (not_before_and_behind xs s r d k h))
    (f.first r g.member g.has))
    (g.first s f.member f.has)

pub last_with : (P : ℕ → Type 0) (xs : List ℕ) → AreDistinct xs → ((k : ℕ) → Contains xs k → P k ⊎ (P k → ⊥)) →
    ((k : ℕ) → Contains xs k → P k → ⊥) ⊎ ((s : ℕ) × IsLast P xs s)
last_with P xs d decide =
    ⊎_elim
    (λ (none : (k : ℕ) → Contains (backwards xs) k → P k → ⊥). inl (λ k c. none k (backwards_has xs k c)))
    (λ (w : (s : ℕ) × IsFirst P (backwards xs) s). inr (
      w.0,
      record {
        member = backwards_only xs w.0 w.1.member;
        has = w.1.has;
        last = λ k c p. ⊎_elim
            (λ (e : k ≡ w.0). inl e)
            (λ (h : Precedes (backwards xs) w.0 k). inr (before_backwards xs k w.0 d h))
            (w.1.first k (backwards_has xs k c) p);
      },
    ))
    (first_with P (backwards xs) (λ k c. decide k (backwards_only xs k c)))

pub last_is_one : (P : ℕ → Type 0) (xs : List ℕ) (s r : ℕ) → AreDistinct xs → IsLast P xs s → IsLast P xs r →
    s ≡ r
last_is_one P xs s r d f g =
    ⊎_elim
    (λ (e : s ≡ r). e)
    (λ (h : Precedes xs s r). ⊎_elim
    (λ (e : r ≡ s). sym e)
    (λ (k : Precedes xs r s). absurd (not_before_and_behind xs s r d h k))
    (f.last r g.member g.has))
    (g.last s f.member f.has)

-- ---- lists of values: f is positive at i, and 0 at all that stand before it
pub record IsLeading (f : ℕ → ℤ) (xs : List ℕ) (i : ℕ) : Type 0 where
  pub member : Contains xs i
  pub positive : pos 0 <ℤ f i
  pub before : (k : ℕ) → Precedes xs k i → f k ≡ pos 0

pub leading_value : (f : ℕ → ℤ) (xs : List ℕ) → AreDistinct xs → IsPositive (map f xs) →
    (i : ℕ) × IsLeading f xs i
leading_value f [] d h = absurd h
leading_value f (x ∷ xs) d (inl h) =
    (x, record { member = Contains-first x xs; positive = h; before = λ k p. absurd (none_before x xs k d.0 p) })
leading_value f (x ∷ xs) d (inr h) =
    let w = leading_value f xs d.1 h.1 in (
      w.0,
      record {
        member = Contains-later w.0 x xs w.1.member;
        positive = w.1.positive;
        before = λ k p. ⊎_elim
            (λ (b : (k ≡ x) × Contains xs w.0). subst (λ y. f y ≡ pos 0) (sym b.0) h.0)
            (λ (b : Precedes xs k w.0). w.1.before k b) p;
      },
    )

pub led_by : (f : ℕ → ℤ) (xs : List ℕ) (i : ℕ) → IsLeading f xs i → IsPositive (map f xs)
led_by f [] i h = absurd (Contains-nil i h.member)
led_by f (x ∷ xs) i h =
    ⊎_elim
    (λ (e : i ≡ x). inl (subst (λ y. pos 0 <ℤ f y) e h.positive))
    (λ (c : Contains xs i). inr (
      h.before x (inl (refl, c)),
      led_by f xs i (record {
        member = c;
        positive = h.positive;
        before = λ k p. h.before k (inr p);
      }),
    ))
    (contains_cases x xs i h.member)
