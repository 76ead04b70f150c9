-- Lists in which each member stands once: in another order, with what one column more adds, of the values of a function,
-- and as lists of vectors.
use Rattle.std.proofs.Common.{◌≡◌, ⊎_elim, ℕ, List, [], ◌∷◌, ◌++◌, map, sym, subst}
use Rattle.std.specs.List.{Contains}
use Rattle.std.proofs.lemmas.List.Elements.{Contains-append_left, Contains-append_right, Contains-append_cases}
use Rattle.poly_num.specs.Vectors.{Vector}
use Rattle.linear_laws.specs.Distinct.{AreDistinct}
use Rattle.linear_laws.proofs.Members.{Contains-nil, Contains-first, Contains-later, Contains-cons_cases}
use Rattle.linear_laws.proofs.Distinct.{distinct_append}
use Rattle.listing_laws.specs.Lists.{Lists}
use Rattle.search_laws.specs.Shares.{ListsAll}

module _ {X : Type 0} where
  -- ---- joined the other way round
  once_behind : (xs ys : List X) → AreDistinct (xs ++ ys) → AreDistinct ys
  once_behind [] ys h = h
  once_behind (x ∷ xs) ys h = once_behind xs ys h.1

  pub once_before : (xs ys : List X) → AreDistinct (xs ++ ys) → AreDistinct xs
  once_before [] ys h = tt
  once_before (x ∷ xs) ys h = (λ c. h.0 (Contains-append_left xs ys x c), once_before xs ys h.1)

  pub apart : (xs ys : List X) → AreDistinct (xs ++ ys) → (y : X) → Contains xs y → Contains ys y → ⊥
  apart [] ys h y c d = Contains-nil y c
  apart (x ∷ xs) ys h y c d =
      ⊎_elim (λ (e : x ≡ y). h.0 (Contains-append_right xs ys x (subst (Contains ys) (sym e) d)))
      (λ (m : Contains xs y). apart xs ys h.1 y m d) (Contains-cons_cases y x xs c)

  other_way : (xs ys : List X) (y : X) → Contains (xs ++ ys) y → Contains (ys ++ xs) y
  other_way xs ys y c =
      ⊎_elim (Contains-append_right ys xs y) (Contains-append_left ys xs y) (Contains-append_cases xs ys y c)

  pub turned : (P : X → Type 0) (xs ys : List X) → ListsAll P (xs ++ ys) → ListsAll P (ys ++ xs)
  turned P xs ys l = record {
    once = distinct_append ys xs (once_behind xs ys l.once) (once_before xs ys l.once)
        (λ y c d. apart xs ys l.once y d c);
    only = λ y c. l.only y (other_way ys xs y c);
    each = λ y p. other_way xs ys y (l.each y p);
  }

-- ---- those of some columns with a property, and of one column more
module _ (P : ℕ → Type 0) where
  -- of one column
  pub none_of_one : (c : ℕ) → (P c → ⊥) → ListsAll (λ x. Contains (c ∷ []) x × P x) []
  none_of_one c n = record {
    once = tt;
    only = λ x m. absurd (Contains-nil x m);
    each = λ x h. ⊎_elim (λ (e : c ≡ x). absurd (n (subst P (sym e) h.1)))
        (λ (m : Contains [] x). absurd (Contains-nil x m)) (Contains-cons_cases x c [] h.0);
  }

  pub that_one : (c : ℕ) → P c → ListsAll (λ x. Contains (c ∷ []) x × P x) (c ∷ [])
  that_one c p = record {
    once = (λ m. Contains-nil c m, tt);
    only = λ y m. (
      m,
      ⊎_elim (λ (e : c ≡ y). subst P e p) (λ (k : Contains [] y). absurd (Contains-nil y k)) (Contains-cons_cases y c [] m),
    );
    each = λ y h. h.0;
  }

  module _ (columns : List ℕ) (c : ℕ) (new : Contains columns c → ⊥) (xs ys : List ℕ)
      (v : ListsAll (λ x. Contains columns x × P x) xs) where
    -- what is among one column is that
    pub only_here : ((x : ℕ) → Contains ys x → Contains (c ∷ []) x × P x) → (x : ℕ) → Contains ys x → c ≡ x
    only_here only x k =
        ⊎_elim (λ (e : c ≡ x). e) (λ (n : Contains [] x). absurd (Contains-nil x n))
        (Contains-cons_cases x c [] (only x k).0)

    pub once_more : AreDistinct ys → ((x : ℕ) → Contains ys x → Contains (c ∷ []) x × P x) → AreDistinct (xs ++ ys)
    once_more once only = distinct_append xs ys v.once once
        (λ x k l. new (subst (Contains columns) (sym (only_here only x l)) (v.only x k).0))

    pub lists_more : ListsAll (λ x. Contains (c ∷ []) x × P x) ys →
        ListsAll (λ x. Contains (columns ++ c ∷ []) x × P x) (xs ++ ys)
    lists_more w = record {
      once = once_more w.once w.only;
      only = λ x k. ⊎_elim
          (λ l. (Contains-append_left columns (c ∷ []) x (v.only x l).0, (v.only x l).1))
          (λ l. (Contains-append_right columns (c ∷ []) x (w.only x l).0, (w.only x l).1))
          (Contains-append_cases xs ys x k);
      each = λ x h. ⊎_elim
          (λ l. Contains-append_left xs ys x (v.each x (l, h.1)))
          (λ l. Contains-append_right xs ys x (w.each x (l, h.1)))
          (Contains-append_cases columns (c ∷ []) x h.0);
    }

    pub only_more : (all : List ℕ) → ((x : ℕ) → Contains columns x → Contains all x) → Contains all c →
        ((x : ℕ) → Contains ys x → Contains (c ∷ []) x × P x) → (x : ℕ) → Contains (xs ++ ys) x → Contains all x × P x
    only_more all within here only x k = ⊎_elim
        (λ l. (within x (v.only x l).0, (v.only x l).1))
        (λ l. (subst (Contains all) (only_here only x l) here, (only x l).1))
        (Contains-append_cases xs ys x k)

-- ---- the values of a function
module _ {X Y : Type 0} (f : X → Y) where
  pub value_there : (xs : List X) (x : X) → Contains xs x → Contains (map f xs) (f x)
  value_there [] x c = absurd (Contains-nil x c)
  value_there (z ∷ xs) x c =
      ⊎_elim (λ (e : z ≡ x). subst (λ y. Contains (f z ∷ map f xs) (f y)) e (Contains-first (f z) (map f xs)))
      (λ (m : Contains xs x). Contains-later (f x) (f z) (map f xs) (value_there xs x m)) (Contains-cons_cases x z xs c)

  pub value_of : (xs : List X) (y : Y) → Contains (map f xs) y → (x : X) × Contains xs x × (f x ≡ y)
  value_of [] y c = absurd (Contains-nil y c)
  value_of (z ∷ xs) y c =
      ⊎_elim (λ (e : f z ≡ y). (z, Contains-first z xs, e))
      (λ (m : Contains (map f xs) y). let w = value_of xs y m in (w.0, Contains-later w.0 z xs w.1, w.2))
      (Contains-cons_cases y (f z) (map f xs) c)

  -- where no two members have one value
  pub once_values : (xs : List X) → AreDistinct xs →
      ((a b : X) → Contains xs a → Contains xs b → f a ≡ f b → a ≡ b) → AreDistinct (map f xs)
  once_values [] h one = tt
  once_values (x ∷ xs) h one = (
    λ c. let w = value_of xs (f x) c in
        h.0 (subst (Contains xs) (one w.0 x (Contains-later w.0 x xs w.1) (Contains-first x xs) w.2) w.1),
    once_values xs h.1 (λ a b c d e. one a b (Contains-later a x xs c) (Contains-later b x xs d) e),
  )

-- ---- vectors
pub lists_vectors : (P : Vector → Type 0) (ys : List Vector) → ListsAll P ys → Lists P ys
lists_vectors P ys l =
    record { distinct = l.once; members = λ y. (λ c. l.only y c, λ p. l.each y p) }
