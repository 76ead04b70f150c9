-- What holds of each element of a list holds of each element of its parts, in any order.
use Rattle.std.proofs.Common.{List, [], ◌∷◌, ◌++◌, map}
use Rattle.std.specs.List.{AllByRecursion}

pub all_out : {X : Type 0} (P : X → Type 0) (xs : List X) (x : X) (ys : List X) →
    AllByRecursion P (xs ++ x ∷ ys) → AllByRecursion P (x ∷ xs ++ ys)
all_out P [] x ys h = h
all_out P (y ∷ xs) x ys h =
    let k : AllByRecursion P (x ∷ xs ++ ys) = all_out P xs x ys h.1 in (k.0, (h.0, k.1))

pub all_in : {X : Type 0} (P : X → Type 0) (xs : List X) (x : X) (ys : List X) →
    AllByRecursion P (x ∷ xs ++ ys) → AllByRecursion P (xs ++ x ∷ ys)
all_in P [] x ys h = h
all_in P (y ∷ xs) x ys h = (h.1.0, all_in P xs x ys (h.0, h.1.1))

pub all_left : {X : Type 0} (P : X → Type 0) (xs ys : List X) →
    AllByRecursion P (xs ++ ys) → AllByRecursion P xs
all_left P [] ys h = tt
all_left P (x ∷ xs) ys h = (h.0, all_left P xs ys h.1)

pub all_right : {X : Type 0} (P : X → Type 0) (xs ys : List X) →
    AllByRecursion P (xs ++ ys) → AllByRecursion P ys
all_right P [] ys h = h
all_right P (x ∷ xs) ys h = all_right P xs ys h.1

pub all_both : {X : Type 0} (P : X → Type 0) (xs ys : List X) →
    AllByRecursion P xs → AllByRecursion P ys → AllByRecursion P (xs ++ ys)
all_both P [] ys h k = k
all_both P (x ∷ xs) ys h k = (h.0, all_both P xs ys h.1 k)

pub all_weaker : {X : Type 0} (P Q : X → Type 0) → ((x : X) → P x → Q x) → (xs : List X) →
    AllByRecursion P xs → AllByRecursion Q xs
all_weaker P Q f [] h = tt
all_weaker P Q f (x ∷ xs) h = (f x h.0, all_weaker P Q f xs h.1)

pub all_always : {X : Type 0} (P : X → Type 0) → ((x : X) → P x) → (xs : List X) → AllByRecursion P xs
all_always P f [] = tt
all_always P f (x ∷ xs) = (f x, all_always P f xs)

pub all_from_map : {X Y : Type 0} (P : Y → Type 0) (f : X → Y) (xs : List X) →
    AllByRecursion P (map f xs) → AllByRecursion (λ x. P (f x)) xs
all_from_map P f [] h = tt
all_from_map P f (x ∷ xs) h = (h.0, all_from_map P f xs h.1)

pub all_to_map : {X Y : Type 0} (P : Y → Type 0) (f : X → Y) (xs : List X) →
    AllByRecursion (λ x. P (f x)) xs → AllByRecursion P (map f xs)
all_to_map P f [] h = tt
all_to_map P f (x ∷ xs) h = (h.0, all_to_map P f xs h.1)
