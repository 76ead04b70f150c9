-- Keys that are added to the table, one after the other, and where a key is found.
use Rattle.std.proofs.Common.{ℕ, List, ◌≡◌, ⊎_elim, ◌+◌, ◌<◌, Bool, true, false, not, ◌||◌, nat_eq, [], ◌∷◌, ◌++◌, refl, sym, ap, ◌∙◌, subst, length, take, drop, append_assoc, Vec, vec_items, slice_get, get_or, Some, None, Option, IfSome, IsNone, is_some, option_map, position}
use Rattle.std.specs.List.{Contains, list_any}
use Rattle.std.specs.Cmp.Lexicographic.{pointwise}
use Rattle.std.proofs.lemmas.Bool.{not-true, not-false}
use Rattle.std.proofs.lemmas.List.{take-map, length-map, take-append-drop, take_more}
use Rattle.std.proofs.lemmas.List.Elements.{Contains-push_cases}
use Rattle.std.proofs.lemmas.List.Quantifiers.{position-Some}
use Rattle.std.proofs.lemmas.Option.{slice_get-map, slice_get-get_or}
use Rattle.std.proofs.Math.Seq.{take-append_seam}
use Rattle.poly_model.specs.Keys.{IsKey}
use Rattle.run_state.specs.KeyLists.{IsFirstClash, are_new, holds}
use Rattle.run_state.specs.Known.{labels_in}
use Rattle.run_state.proofs.KeyListLemmas.{holds-append, new-push, same_means}

pub any-holds : {Z : Type 0} (ks : List (Vec ℕ Z)) (q : List ℕ) → list_any (λ v. pointwise nat_eq q v.items) ks ≡ holds (labels_in ks) q
any-holds [] q = refl
any-holds (v ∷ ks) q = ap (λ t. pointwise nat_eq q v.items || t) (any-holds ks q)

pub cut-back : {Z : Type 0} (ks old : List (Vec ℕ Z)) (more : List (List ℕ)) (n : ℕ) → labels_in ks ≡ labels_in old ++ more → n ≡ length old → labels_in (take n ks) ≡ labels_in old
cut-back ks old more n e q =
    sym (take-map vec_items n ks) ∙ ap (take n) e ∙ ap (λ (i : ℕ). take i (labels_in old ++ more)) (q ∙ sym (length-map old vec_items)) ∙ take-append_seam (labels_in old) more

at_place : (xs : List (List ℕ)) (i : ℕ) (d : List ℕ) → i < length xs → xs ≡ take i xs ++ get_or xs i d ∷ drop (i + 1) xs
at_place xs i d h =
    sym (take-append-drop (i + 1) xs) ∙ ap (λ (l : List (List ℕ)). l ++ drop (i + 1) xs) (take_more xs i d h)
    ∙ append_assoc (take i xs) (get_or xs i d ∷ []) (drop (i + 1) xs)

-- what the first i of these keys and the next one are, behind old ones
module _ (old keys : List (List ℕ)) (i : ℕ) (k : List ℕ) (n : are_new old (take i keys) ≡ true) (h : i < length keys) (is : k ≡ get_or keys i k) where
  -- it is new too
  pub added : holds (old ++ take i keys) k ≡ false → are_new old (take (i + 1) keys) ≡ true
  added fresh =
      rw (take_more keys i k h) (subst (λ (z : List ℕ). are_new old (take i keys ++ z ∷ []) ≡ true) is (new-push old (take i keys) k n fresh))

  -- it is the first that is known
  pub clash_at : holds (old ++ take i keys) k ≡ true → IsFirstClash old keys k
  clash_at there = record {
    before = take i keys;
    behind = drop (i + 1) keys;
    split = at_place keys i k h ∙ ap (λ (u : List ℕ). take i keys ++ u ∷ drop (i + 1) keys) (sym is);
    new_before = n;
    clashes = there;
  }

-- a key that is known by neither list, and one that is known by the first or the second
pub in_neither : (known ks : List (List ℕ)) (k : List ℕ) → holds known k ≡ false → holds ks k ≡ false → holds (known ++ ks) k ≡ false
in_neither known ks k a b = holds-append known ks k ∙ rw (a, b) refl

pub in_first : (known ks : List (List ℕ)) (k : List ℕ) → holds known k ≡ true → holds (known ++ ks) k ≡ true
in_first known ks k a = holds-append known ks k ∙ rw a refl

pub in_second : (known ks : List (List ℕ)) (k : List ℕ) → holds known k ≡ false → holds ks k ≡ true → holds (known ++ ks) k ≡ true
in_second known ks k a b = holds-append known ks k ∙ rw (a, b) refl

-- what the answer of an insertion says
pub was_new : (ks before : List (List ℕ)) (k : List ℕ) (b : Bool) → ks ≡ before → b ≡ not (holds ks k) → b ≡ true → holds before k ≡ false
was_new ks before k b e new y = subst (λ (l : List (List ℕ)). holds l k ≡ false) e (not-true (holds ks k) (sym new ∙ y))

pub was_known : (ks before : List (List ℕ)) (k : List ℕ) (b : Bool) → ks ≡ before → b ≡ not (holds ks k) → b ≡ false → holds before k ≡ true
was_known ks before k b e new z = subst (λ (l : List (List ℕ)). holds l k ≡ true) e (not-false (holds ks k) (sym new ∙ z))

at-place : {Z : Type 0} (ks : List (Vec ℕ Z)) (q : List ℕ) (i : ℕ) → position (λ v. pointwise nat_eq q v.items) ks ≡ Some i → slice_get (labels_in ks) i ≡ Some q
at-place [] q i e = absurd (cc)
at-place {Z} (v ∷ vs) q i e =
    let p = position-Some (λ (w : Vec ℕ Z). pointwise nat_eq q w.items) (v ∷ vs) i v e in
    let same : q ≡ vec_items (get_or (v ∷ vs) i v) = same_means q (vec_items (get_or (v ∷ vs) i v)) p.1 in
    slice_get-map vec_items (v ∷ vs) i ∙ ap (option_map vec_items) (slice_get-get_or (v ∷ vs) i v p.0) ∙ ap Some (sym same)

pub found-at : {Z : Type 0} (ks : List (Vec ℕ Z)) (q : List ℕ) (r : Option ℕ) → position (λ v. pointwise nat_eq q v.items) ks ≡ r →
    IfSome r (λ i. slice_get (labels_in ks) i ≡ Some q)
found-at ks q None e = tt
found-at ks q (Some i) e = at-place ks q i e

pub none-some : (r : Option ℕ) → IsNone r → is_some r ≡ false
none-some None n = refl
none-some (Some i) n = absurd (cc)

-- what holds of the first keys and of the next
pub keys-more : (keys : List (List ℕ)) (i : ℕ) (x : List ℕ) → i < length keys → x ≡ get_or keys i x → ((k : List ℕ) → Contains (take i keys) k → IsKey k) → IsKey x →
    (k : List ℕ) → Contains (take (i + 1) keys) k → IsKey k
keys-more keys i x h is before here k c =
    let m : Contains (take i keys ++ get_or keys i x ∷ []) k = subst (λ (l : List (List ℕ)). Contains l k) (take_more keys i x h) c in
    ⊎_elim (before k) (λ (e : get_or keys i x ≡ k). subst IsKey (is ∙ e) here) (Contains-push_cases (take i keys) (get_or keys i x) k m)

-- one more key behind the first i
pub one_more : (old keys : List (List ℕ)) (i : ℕ) (k : List ℕ) {ks before : List (List ℕ)} → ks ≡ before ++ k ∷ [] → before ≡ old ++ take i keys → i < length keys →
    k ≡ get_or keys i k → ks ≡ old ++ take (i + 1) keys
one_more old keys i k {ks} {before} e b h is =
    e ∙ ap (λ (l : List (List ℕ)). l ++ k ∷ []) b ∙ append_assoc old (take i keys) (k ∷ [])
    ∙ ap (λ (l : List (List ℕ)). old ++ l) (ap (λ (u : List ℕ). take i keys ++ u ∷ []) is ∙ sym (take_more keys i k h))
