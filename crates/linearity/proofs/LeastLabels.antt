-- Labels of an ascending list before one of its places.
use Rattle.std.proofs.Common.{◌≡◌, ℕ, zero, suc, ◌<◌, List, [], ◌∷◌, length, take, subst, ⊎_elim, arith}
use Rattle.std.specs.List.{Contains, slice_index_or}
use Rattle.poly_model.specs.Keys.{IsAscending}
use Rattle.linear_laws.proofs.Members.{Contains-nil, Contains-first, Contains-later, all_at}
use Rattle.dictionary_laws.proofs.Members.{contains_cases}

-- a label that is less than the one at a place stands before it
pub stands_before : (ks : List ℕ) (n j other : ℕ) → IsAscending ks → n < length ks → Contains ks j →
    j < slice_index_or ks n other → Contains (take n ks) j
stands_before [] n j other a l c less = absurd (Contains-nil j c)
stands_before (x ∷ ks) zero j other a l c less =
    absurd (⊎_elim
    (λ (e : j ≡ x). omega arith)
    (λ (d : Contains ks j). let above = all_at (λ y. x < y) ks a.0 j d in omega arith)
    (contains_cases x ks j c))
stands_before (x ∷ ks) (suc n) j other a l c less =
    ⊎_elim
    (λ (e : j ≡ x). subst (λ i. Contains (i ∷ take n ks) j) e (Contains-first j (take n ks)))
    (λ (d : Contains ks j). Contains-later j x (take n ks) (stands_before ks n j other a.1 (omega arith) d less))
    (contains_cases x ks j c)
