-- Lists without repeats: of nothing, of one vector, and joined.
use Rattle.std.proofs.Common.{◌≡◌, ◌⊎◌, ◌↔◌, inl, inr, ⊎_elim, List, [], ◌∷◌, ◌++◌, append_assoc, sym, subst}
use Rattle.std.proofs.lemmas.List.{append-nil}
use Rattle.std.specs.List.{AllByRecursion, Contains}
use Rattle.std.proofs.lemmas.List.Elements.{Contains-append_left, Contains-append_right, Contains-append_cases}
use Rattle.poly_num.specs.Vectors.{Vector}
use Rattle.linear_laws.specs.Distinct.{AreDistinct}
use Rattle.linear_laws.proofs.Members.{Contains-nil, Contains-first, Contains-later, Contains-cons_cases}
use Rattle.listing_laws.specs.Lists.{Lists, Goes}

-- what holds of each member holds of all
pub all_members : {X : Type 0} (P : X → Type 0) (xs : List X) → ((x : X) → Contains xs x → P x) → AllByRecursion P xs
all_members P [] h = tt
all_members P (x ∷ xs) h = (h x (Contains-first x xs), all_members P xs (λ y c. h y (Contains-later y x xs c)))

-- ---- joined
pub distinct-append : (xs ys : List Vector) → AreDistinct xs → AreDistinct ys →
    ((y : Vector) → Contains xs y → Contains ys y → ⊥) → AreDistinct (xs ++ ys)
distinct-append [] ys a b h = b
distinct-append (x ∷ xs) ys a b h = (
  λ c. ⊎_elim a.0 (h x (Contains-first x xs)) (Contains-append_cases xs ys x c),
  distinct-append xs ys a.1 b (λ y c d. h y (Contains-later y x xs c) d),
)

pub lists_none : (P : Vector → Type 0) → ((y : Vector) → P y → ⊥) → Lists P []
lists_none P h = record {
  distinct = tt;
  members = λ y. (λ c. absurd (Contains-nil y c), λ p. absurd (h y p));
}

pub lists_one : (P : Vector → Type 0) (x : Vector) → P x → ((y : Vector) → P y → y ≡ x) → Lists P (x ∷ [])
lists_one P x p h = record {
  distinct = (λ c. Contains-nil x c, tt);
  members = λ y. (
    λ c. ⊎_elim (λ e. subst P e p) (λ d. absurd (Contains-nil y d)) (Contains-cons_cases y x [] c),
    λ q. subst (λ t. Contains (t ∷ []) y) (h y q) (Contains-first y []),
  );
}

pub lists_same : (P Q : Vector → Type 0) (xs : List Vector) → Lists P xs → ((y : Vector) → P y ↔ Q y) → Lists Q xs
lists_same P Q xs a h = record {
  distinct = a.distinct;
  members = λ y. (λ c. (h y).0 ((a.members y).0 c), λ q. (a.members y).1 ((h y).1 q));
}

pub lists-append : (P Q R : Vector → Type 0) (xs ys : List Vector) → Lists P xs → Lists Q ys →
    ((y : Vector) → P y → Q y → ⊥) → ((y : Vector) → R y ↔ (P y ⊎ Q y)) → Lists R (xs ++ ys)
lists-append P Q R xs ys a b apart parts = record {
  distinct =
      distinct-append xs ys a.distinct b.distinct (λ y c d. apart y ((a.members y).0 c) ((b.members y).0 d));
  members = λ y. (
    λ c. (parts y).1 (⊎_elim (λ d. inl ((a.members y).0 d)) (λ d. inr ((b.members y).0 d))
        (Contains-append_cases xs ys y c)),
    λ r. ⊎_elim (λ p. Contains-append_left xs ys y ((a.members y).1 p))
        (λ q. Contains-append_right xs ys y ((b.members y).1 q)) ((parts y).0 r),
  );
}

-- ---- the loop
pub goes_start : (P : Vector → Type 0) → Goes P P []
goes_start P ys a = a

pub goes_skip : (P Q R : Vector → Type 0) (xs : List Vector) → Goes P Q xs → ((y : Vector) → Q y ↔ R y) → Goes P R xs
goes_skip P Q R xs g h ys a = g ys (lists_same R Q ys a (λ y. ((h y).1, (h y).0)))

pub goes_take : (P Q A R : Vector → Type 0) (xs zs : List Vector) → Goes P Q xs → Lists A zs →
    ((y : Vector) → A y → R y → ⊥) → ((y : Vector) → Q y ↔ (A y ⊎ R y)) → Goes P R (xs ++ zs)
goes_take P Q A R xs zs g a apart h ys b =
    subst (Lists P) (sym (append_assoc xs zs ys)) (g (zs ++ ys) (lists-append A R Q zs ys a b apart h))

pub goes_end : (P Q : Vector → Type 0) (xs : List Vector) → Goes P Q xs → ((y : Vector) → Q y → ⊥) → Lists P xs
goes_end P Q xs g h = subst (Lists P) (append-nil xs) (g [] (lists_none Q h))
