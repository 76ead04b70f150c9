-- An ascending key of rows with one label in the place of another: ascending, and exchanged back it is the key.
use Rattle.std.proofs.Common.{◌≡◌, ◌≢◌, ◌<◌, ℕ, Bool, true, false, cond, not, List, [], ◌∷◌, refl, sym, ap, subst, ⊎_elim}
use Rattle.std.specs.Prelude.{◌==◌}
use Rattle.std.specs.List.{Contains, filter}
use Rattle.std.proofs.lemmas.Bool.{cases_eq}
use Rattle.poly_model.specs.Keys.{IsAscending, with_label}
use Rattle.poly_model.specs.Tree.{exchanged_key}
use Rattle.poly_model.proofs.KeyLemmas.{ascending_with}
use Rattle.dictionary_laws.specs.Keys.{Exchanges}
use Rattle.linear_laws.proofs.Members.{all_at, ascending_is_one}
use Rattle.dictionary_laws.proofs.Members.{all_from, without, without_only}
use Rattle.dictionary_laws.proofs.KeyExchange.{ascending_distinct, with_exchanges}

filter_is_without : (s : ℕ) (ks : List ℕ) → filter (λ k. not (k == s)) ks ≡ without s ks
filter_is_without s [] = refl
filter_is_without s (k ∷ ks) = by (k == s) (filter_is_without s ks)
  where
    by : (b : Bool) → filter (λ k. not (k == s)) ks ≡ without s ks →
        cond (not b) (k ∷ filter (λ k. not (k == s)) ks) (filter (λ k. not (k == s)) ks)
        ≡ cond b (without s ks) (k ∷ without s ks)
    by true e = e
    by false e = ap (λ l. k ∷ l) e

ascending_without : (s : ℕ) (ks : List ℕ) → IsAscending ks → IsAscending (without s ks)
ascending_without s [] h = tt
ascending_without s (x ∷ ks) h = by (x == s) (ascending_without s ks h.1)
  where
    by : (b : Bool) → IsAscending (without s ks) → IsAscending (cond b (without s ks) (x ∷ without s ks))
    by true a = a
    by false a = (
      all_from (λ y. x < y) (without s ks) (λ k c. all_at (λ y. x < y) ks h.0 k (without_only s ks k c).0),
      a,
    )

pub ascending_exchanged : (key : List ℕ) (s r : ℕ) → IsAscending key → IsAscending (exchanged_key key s r)
ascending_exchanged key s r a =
    subst (λ (l : List ℕ). IsAscending (with_label r l)) (sym (filter_is_without s key))
    (ascending_with r (without s key) (ascending_without s key a))

pub exchanges : (key : List ℕ) (s r : ℕ) → IsAscending key → (Contains key r → ⊥) →
    Exchanges key (exchanged_key key s r) r s
exchanges key s r a n =
    subst (λ (l : List ℕ). Exchanges key (with_label r l) r s) (sym (filter_is_without s key))
    (with_exchanges key r s (ascending_distinct key a) n)

-- the label that was taken out is outside the new key
pub leaving_outside : (key new : List ℕ) (r s : ℕ) → Exchanges key new r s → Contains key s → (Contains key r → ⊥) →
    Contains new s → ⊥
leaving_outside key new r s x c n m =
    ⊎_elim
    (λ (e : s ≡ r). n (subst (Contains key) e c))
    (λ (h : Contains key s × (s ≢ s)). h.1 refl)
    (x.only s m)

pub exchanged_back : (key : List ℕ) (s r : ℕ) → IsAscending key → Contains key s → (Contains key r → ⊥) →
    key ≡ exchanged_key (exchanged_key key s r) r s
exchanged_back key s r a c n =
    ascending_is_one key (exchanged_key new r s) a
    (ascending_exchanged new r s (ascending_exchanged key s r a))
    (λ k m. ⊎_elim
    (λ (e : k ≡ s). subst (Contains (exchanged_key new r s)) (sym e) back.entering)
    (λ (o : k ≡ s → ⊥). back.kept k (there.kept k m o) (λ e. n (subst (Contains key) e m)))
    (cases_eq k s))
    (λ k m. ⊎_elim
    (λ (e : k ≡ s). subst (Contains key) (sym e) c)
    (λ (h : Contains new k × (k ≢ r)). ⊎_elim
    (λ (e : k ≡ r). absurd (h.1 e))
    (λ (g : Contains key k × (k ≢ s)). g.0)
    (there.only k h.0))
    (back.only k m))
  where
    new : List ℕ
    new = exchanged_key key s r

    there : Exchanges key new r s
    there = exchanges key s r a n

    back : Exchanges new (exchanged_key new r s) s r
    back = exchanges new r s (ascending_exchanged key s r a) (leaving_outside key new r s there c n)
