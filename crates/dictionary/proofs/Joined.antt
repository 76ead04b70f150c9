-- Two ascending lists of labels, one behind the other.
use Rattle.std.proofs.Common.{ℕ, ◌<◌, List, [], ◌∷◌, ◌++◌, ⊎_elim}
use Rattle.std.specs.List.{Contains}
use Rattle.std.proofs.lemmas.List.Elements.{Contains-append_cases}
use Rattle.linear_laws.proofs.Members.{Contains-first, Contains-later, all_at}
use Rattle.poly_model.specs.Keys.{IsAscending}
use Rattle.dictionary_laws.proofs.Members.{all_from}

pub ascending_joined : (ks ls : List ℕ) → IsAscending ks → IsAscending ls →
    ((k l : ℕ) → Contains ks k → Contains ls l → k < l) → IsAscending (ks ++ ls)
ascending_joined [] ls h g below = g
ascending_joined (x ∷ ks) ls h g below = (
  all_from (λ k. x < k) (ks ++ ls)
      (λ k c. ⊎_elim
      (λ (d : Contains ks k). all_at (λ i. x < i) ks h.0 k d)
      (λ (d : Contains ls k). below x k (Contains-first x ks) d)
      (Contains-append_cases ks ls k c)),
  ascending_joined ks ls h.1 g (λ k l c d. below k l (Contains-later k x ks c) d),
)
