-- The least column so far, in the order relative to a root.
use Rattle.std.proofs.Common.{◌≡◌, inl, inr, ⊎_elim, ℕ, List, sym, subst}
use Rattle.std.specs.List.{Contains}
use Rattle.std.proofs.lemmas.Bool.{cases_eq}
use Rattle.poly_model.specs.Keys.{IsAscending}
use Rattle.poly_model.specs.LexOrder.{rows_in, IsEarlier}
use Rattle.tree_laws.proofs.OrderLemmas.{earlier_transitive, one_is_earlier}
use Rattle.lex_pivot.proofs.EarlierLemmas.{space_of, rows_distinct}
use Rattle.phase_one.specs.Columns.{IsNotLater}

module _ (labels root : List ℕ) (up : IsAscending labels) where
  pub not_later_through : (x s k : ℕ) → IsEarlier labels root x s → IsNotLater labels root s k → IsNotLater labels root x k
  not_later_through x s k h (inl e) = inr (subst (IsEarlier labels root x) (sym e) h)
  not_later_through x s k h (inr l) = inr (earlier_transitive (space_of labels) root (rows_distinct labels root up) x s k h l)

  pub not_later : (s x : ℕ) → Contains (rows_in labels) s → Contains (rows_in labels) x →
      (IsEarlier labels root x s → ⊥) → IsNotLater labels root s x
  not_later s x a b n =
      ⊎_elim
      (λ (e : x ≡ s). inl e)
      (λ (o : x ≡ s → ⊥).
      ⊎_elim (λ (l : IsEarlier labels root x s). absurd (n l)) (λ (l : IsEarlier labels root s x). inr l)
      (one_is_earlier (space_of labels) root x s b a o))
      (cases_eq x s)
