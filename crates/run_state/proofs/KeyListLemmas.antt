-- The tests on lists of keys, by members.
use Rattle.std.proofs.Common.{◌≡◌, ◌≢◌, inl, inr, ⊎_elim, ℕ, true, false, not, ◌||◌, List, [], ◌∷◌, ◌++◌, refl, sym, ap, ◌∙◌, subst, append_assoc}
use Rattle.std.specs.List.{Contains}
use Rattle.std.specs.Cmp.Lexicographic.{same_text}
use Rattle.std.proofs.lemmas.Bool.{cases_Bool, and_parts, not-true}
use Rattle.std.proofs.lemmas.Cmp.{nat_list_eq_equiv}
use Rattle.std.proofs.lemmas.Map.Views.{Contains-from_any, list_any-from_Contains}
use Rattle.std.proofs.lemmas.List.{append-nil}
use Rattle.std.proofs.lemmas.List.Elements.{Contains-append_left, Contains-append_right, Contains-append_cases, Contains-push, Contains-push_cases}
use Rattle.std.proofs.lemmas.List.Folds.{list_any-append}
use Rattle.linear_laws.specs.Distinct.{AreDistinct}
use Rattle.linear_laws.proofs.Members.{Contains-nil, Contains-first, Contains-later, Contains-cons_cases}
use Rattle.run_state.specs.KeyLists.{is_same_key, holds, without_key, are_new, IsFirstClash}

-- ---- equal keys
pub same_means : (a b : List ℕ) → is_same_key a b ≡ true → a ≡ b
same_means a b e = same_text a b (sym e)

pub same_keys : (a b : List ℕ) → a ≡ b → is_same_key a b ≡ true
same_keys a b e = subst (λ (k : List ℕ). is_same_key a k ≡ true) e (nat_list_eq_equiv.refl a)

pub other_keys : (a b : List ℕ) → a ≢ b → is_same_key a b ≡ false
other_keys a b n = elim (cases_Bool (is_same_key a b)) [ inl y ↦ absurd (n (same_means a b y)) | inr f ↦ f ]

-- ---- a key stands there
pub held : (keys : List (List ℕ)) (k : List ℕ) → holds keys k ≡ true → Contains keys k
held keys k e = Contains-from_any same_means k keys e

pub holds_it : (keys : List (List ℕ)) (k : List ℕ) → Contains keys k → holds keys k ≡ true
holds_it keys k c = list_any-from_Contains nat_list_eq_equiv k keys c

pub not_held : (keys : List (List ℕ)) (k : List ℕ) → holds keys k ≡ false → Contains keys k → ⊥
not_held keys k e c = let y = holds_it keys k c in cc

pub holds_not : (keys : List (List ℕ)) (k : List ℕ) → (Contains keys k → ⊥) → holds keys k ≡ false
holds_not keys k n = elim (cases_Bool (holds keys k)) [ inl y ↦ absurd (n (held keys k y)) | inr f ↦ f ]

-- ---- the list less a key
pub in_without : (key : List ℕ) (keys : List (List ℕ)) (x : List ℕ) → Contains (without_key key keys) x → Contains keys x × (x ≢ key)
in_without key [] x c = absurd (Contains-nil x c)
in_without key (y ∷ ys) x c = elim (cases_Bool (is_same_key key y)) [
  | inl e ↦
      let c1 : Contains (without_key key ys) x = rw e at c in
      let d = in_without key ys x c1 in
      (Contains-later x y ys d.0, d.1)
  | inr n ↦
      let c1 : Contains (y ∷ without_key key ys) x = rw n at c in
      ⊎_elim
      (λ (q : y ≡ x). (subst (λ (z : List ℕ). Contains (y ∷ ys) z) q (Contains-first y ys), λ (e : x ≡ key). let s = same_keys key y (sym (q ∙ e)) in cc))
      (λ (d : Contains (without_key key ys) x). let r = in_without key ys x d in (Contains-later x y ys r.0, r.1))
      (Contains-cons_cases x y (without_key key ys) c1)
]

pub without_keeps : (key : List ℕ) (keys : List (List ℕ)) (x : List ℕ) → Contains keys x → x ≢ key → Contains (without_key key keys) x
without_keeps key [] x c n = absurd (Contains-nil x c)
without_keeps key (y ∷ ys) x c n = elim (cases_Bool (is_same_key key y)) [
  | inl e ↦ rw e (⊎_elim
      (λ (q : y ≡ x). absurd (n (sym (same_means key y e ∙ q))))
      (λ (d : Contains ys x). without_keeps key ys x d n) (Contains-cons_cases x y ys c))
  | inr m ↦ rw m (⊎_elim
      (λ (q : y ≡ x). subst (λ (z : List ℕ). Contains (y ∷ without_key key ys) z) q (Contains-first y (without_key key ys)))
      (λ (d : Contains ys x). Contains-later x y (without_key key ys) (without_keeps key ys x d n)) (Contains-cons_cases x y ys c))
]

pub once-without : (key : List ℕ) (keys : List (List ℕ)) → AreDistinct keys → AreDistinct (without_key key keys)
once-without key [] o = tt
once-without key (y ∷ ys) o = elim (cases_Bool (is_same_key key y)) [
  | inl e ↦ rw e (once-without key ys o.1)
  | inr n ↦ rw n (λ c. o.0 (in_without key ys y c).0, once-without key ys o.1)
]

pub without-none : (k : List ℕ) (keys : List (List ℕ)) → (Contains keys k → ⊥) → without_key k keys ≡ keys
without-none k [] n = refl
without-none k (x ∷ keys) n =
    rw (other_keys k x (λ (e : k ≡ x). n (subst (λ (z : List ℕ). Contains (x ∷ keys) z) (sym e) (Contains-first x keys))))
    (ap (λ (l : List (List ℕ)). x ∷ l) (without-none k keys (λ c. n (Contains-later k x keys c))))

-- ---- new keys
pub new_are_unknown : (known ks : List (List ℕ)) → are_new known ks ≡ true → (k : List ℕ) → Contains ks k → Contains known k → ⊥
new_are_unknown known [] e k c d = absurd (Contains-nil k c)
new_are_unknown known (x ∷ ks) e k c d =
    let p = and_parts (not (holds known x)) (are_new (known ++ x ∷ []) ks) e in
    ⊎_elim
    (λ (q : x ≡ k). not_held known x (not-true (holds known x) p.0) (subst (λ (z : List ℕ). Contains known z) (sym q) d))
    (λ (b : Contains ks k). new_are_unknown (known ++ x ∷ []) ks p.1 k b (Contains-append_left known (x ∷ []) k d))
    (Contains-cons_cases k x ks c)

pub new_stand_once : (known ks : List (List ℕ)) → are_new known ks ≡ true → AreDistinct ks
new_stand_once known [] e = tt
new_stand_once known (k ∷ ks) e =
    let p = and_parts (not (holds known k)) (are_new (known ++ k ∷ []) ks) e in
    (λ c. new_are_unknown (known ++ k ∷ []) ks p.1 k c (Contains-push known k), new_stand_once (known ++ k ∷ []) ks p.1)

pub are_new_from : (known ks : List (List ℕ)) → AreDistinct ks → ((k : List ℕ) → Contains ks k → Contains known k → ⊥) → are_new known ks ≡ true
are_new_from known [] o n = refl
are_new_from known (x ∷ ks) o n =
    rw (holds_not known x (n x (Contains-first x ks)))
    (are_new_from (known ++ x ∷ []) ks o.1
    (λ k c d. ⊎_elim (n k (Contains-later k x ks c)) (λ (e : x ≡ k). o.0 (subst (λ (z : List ℕ). Contains ks z) (sym e) c))
    (Contains-push_cases known x k d)))

-- one more key is new
pub new-push : (known ks : List (List ℕ)) (k : List ℕ) → are_new known ks ≡ true → holds (known ++ ks) k ≡ false → are_new known (ks ++ k ∷ []) ≡ true
new-push known [] k a h = let e : holds known k ≡ false = subst (λ (l : List (List ℕ)). holds l k ≡ false) (append-nil known) h in rw e refl
new-push known (x ∷ ks) k a h = elim (cases_Bool (holds known x)) [
  | inl y ↦ absurd (let q : false ≡ true = rw y at a in cc)
  | inr n ↦ rw n (new-push (known ++ x ∷ []) ks k (rw n at a) (subst (λ (l : List (List ℕ)). holds l k ≡ false) (sym (append_assoc known (x ∷ []) ks)) h))
]

-- a key is known by two lists where it is by one of them
pub holds-append : (known ks : List (List ℕ)) (k : List ℕ) → holds (known ++ ks) k ≡ (holds known k || holds ks k)
holds-append known ks k = list_any-append (is_same_key k) known ks

once-split : (before behind : List (List ℕ)) (k : List ℕ) → AreDistinct (before ++ k ∷ behind) → Contains before k → ⊥
once-split [] behind k o c = Contains-nil k c
once-split (x ∷ before) behind k o c = ⊎_elim
    (λ (e : x ≡ k). o.0 (Contains-append_right before (k ∷ behind) x (subst (λ (z : List ℕ). Contains (k ∷ behind) z) (sym e) (Contains-first k behind))))
    (λ (d : Contains before k). once-split before behind k o.1 d) (Contains-cons_cases k x before c)

-- where there is a first clash, not all are new
pub clash_not_new : (known keys : List (List ℕ)) (k : List ℕ) → IsFirstClash known keys k → are_new known keys ≡ true → ⊥
clash_not_new known keys k c n =
    let once : AreDistinct (c.before ++ k ∷ c.behind) = subst (λ (l : List (List ℕ)). AreDistinct l) c.split (new_stand_once known keys n) in
    let there : Contains keys k = subst (λ (l : List (List ℕ)). Contains l k) (sym c.split) (Contains-append_right c.before (k ∷ c.behind) k (Contains-first k c.behind)) in
    ⊎_elim (new_are_unknown known keys n k there) (once-split c.before c.behind k once)
    (Contains-append_cases known c.before k (held (known ++ c.before) k c.clashes))
