-- How often a key stands in a list: facts on lists of keys as sums.
use Rattle.std.proofs.Common.{arith, ℕ, List, ◌≡◌, ◌≢◌, inl, inr, ⊎_elim, ◌+◌, ◌<◌, ◌≤◌, true, false, [], ◌∷◌, ◌++◌, refl, sym, ap, ◌∙◌, subst, cond, not}
use Rattle.std.specs.List.{Contains}
use Rattle.std.proofs.lemmas.Bool.{cases_eq, cases_lt, and_parts, or_parts, not-true}
use Rattle.linear_laws.specs.Distinct.{AreDistinct}
use Rattle.linear_laws.proofs.Members.{Contains-nil, Contains-first, Contains-later, Contains-cons_cases}
use Rattle.search_laws.proofs.OnceLists.{one_key_or_not}
use Rattle.run_state.specs.KeyLists.{is_same_key, holds, without_key, are_new}
use Rattle.run_state.proofs.KeyListLemmas.{same_keys, other_keys}

abbrev pub times : List ℕ → List (List ℕ) → ℕ
times x [] = 0
times x (y ∷ ys) = cond (is_same_key x y) 1 0 + times x ys

pub times-append : (x : List ℕ) (xs ys : List (List ℕ)) → times x (xs ++ ys) ≡ times x xs + times x ys
times-append x [] ys = omega arith
times-append x (y ∷ xs) ys = omega (arith, times-append x xs ys)

pub times-here : (x y : List ℕ) (ys : List (List ℕ)) → x ≡ y → times x (y ∷ ys) ≡ 1 + times x ys
times-here x y ys e = rw (same_keys x y e) refl

pub times-there : (x y : List ℕ) (ys : List (List ℕ)) → x ≢ y → times x (y ∷ ys) ≡ times x ys
times-there x y ys n = rw (other_keys x y n) (omega arith)

pub times_of : (xs : List (List ℕ)) (x : List ℕ) → Contains xs x → 0 < times x xs
times_of [] x c = absurd (Contains-nil x c)
times_of (y ∷ ys) x c = ⊎_elim
    (λ (e : y ≡ x). omega (arith, times-here x y ys (sym e)))
    (λ (d : Contains ys x). omega (arith, times_of ys x d)) (Contains-cons_cases x y ys c)

pub member_of : (xs : List (List ℕ)) (x : List ℕ) → 0 < times x xs → Contains xs x
member_of [] x i = absurd (omega (arith, i))
member_of (y ∷ ys) x i = elim (one_key_or_not x y) [
  | inl e ↦ subst (λ (k : List ℕ). Contains (y ∷ ys) k) (sym e) (Contains-first y ys)
  | inr n ↦ Contains-later x y ys (member_of ys x (omega (arith, i, times-there x y ys n)))
]

pub without-same : (x : List ℕ) (xs : List (List ℕ)) → times x (without_key x xs) ≡ 0
without-same x [] = refl
without-same x (y ∷ ys) = elim (one_key_or_not x y) [
  | inl e ↦ rw (same_keys x y e) (without-same x ys)
  | inr n ↦ rw (other_keys x y n) (rw (other_keys x y n) (omega (arith, without-same x ys)))
]

pub without-other : (x k : List ℕ) (xs : List (List ℕ)) → x ≢ k → times x (without_key k xs) ≡ times x xs
without-other x k [] n = refl
without-other x k (y ∷ ys) n = elim (one_key_or_not k y) [
  | inl e ↦ rw (same_keys k y e) (without-other x k ys n ∙ sym (times-there x y ys (λ q. n (q ∙ sym e))))
  | inr m ↦ rw (other_keys k y m) (ap (λ t. cond (is_same_key x y) 1 0 + t) (without-other x k ys n))
]

pub holds-false : (xs : List (List ℕ)) (x : List ℕ) → holds xs x ≡ false → times x xs ≡ 0
holds-false [] x e = refl
holds-false (y ∷ ys) x e =
    let p = or_parts (is_same_key x y) (holds ys x) e in
    times-there x y ys (λ q. let s = same_keys x y q in let f = p.0 in cc) ∙ holds-false ys x p.1

pub new-parts : (known ks : List (List ℕ)) → are_new known ks ≡ true → (x : List ℕ) → (times x ks ≤ 1) × (0 < times x ks → times x known ≡ 0)
new-parts known [] e x = (omega arith, λ i. absurd (omega (arith, i)))
new-parts known (k ∷ ks) e x =
    let p = and_parts (not (holds known k)) (are_new (known ++ k ∷ []) ks) e in
    let fresh = holds-false known k (not-true (holds known k) p.0) in
    let later = new-parts (known ++ k ∷ []) ks p.1 x in
    elim (one_key_or_not x k) [
      | inl q ↦
          let here = times-here x k ks q in
          let one = times-append x known (k ∷ []) in
          let hit = times-here x k [] q in
          let none : times x ks ≡ 0 = elim (cases_eq (times x ks) 0) [ inl z ↦ z | inr m ↦ absurd (omega (arith, later.1 (omega (arith, m)), one, hit)) ] in
          (omega (arith, here, none), λ i. subst (λ (v : List ℕ). times v known ≡ 0) (sym q) fresh)
      | inr m ↦
          let there = times-there x k ks m in
          let one = times-append x known (k ∷ []) in
          (omega (arith, there, later.0), λ i. omega (arith, later.1 (omega (arith, there, i)), one))
    ]

-- the key waits once at most, and where it waits it is not done
abbrev pub WaitsOnce : List (List ℕ) → List (List ℕ) → List ℕ → Type 0
WaitsOnce waiting done k = (times k waiting ≤ 1) × (0 < times k waiting → times k done ≡ 0)

-- so it is after a reply that fits
pub once-next : (waiting done : List (List ℕ)) (key : List ℕ) (keys : List (List ℕ)) → ((k : List ℕ) → WaitsOnce waiting done k) →
    0 < times key waiting → are_new (waiting ++ done) keys ≡ true →
    (k : List ℕ) → WaitsOnce (without_key key waiting ++ keys) (done ++ key ∷ []) k
once-next waiting done key keys h waits new k =
    let a2 = times-append k (without_key key waiting) keys in
    let a4 = times-append k done (key ∷ []) in
    let a5 = times-append k waiting done in
    let fresh = new-parts (waiting ++ done) keys new k in
    elim (one_key_or_not k key) [
      | inl q ↦
          let z : times k (without_key key waiting) ≡ 0 = subst (λ (v : List ℕ). times k (without_key v waiting) ≡ 0) q (without-same k waiting) in
          let i : 0 < times k waiting = subst (λ (v : List ℕ). 0 < times v waiting) (sym q) waits in
          let none : times k keys ≡ 0 = elim (cases_lt 0 (times k keys)) [ inl b ↦ absurd (omega (arith, fresh.1 b, a5, i)) | inr c ↦ omega (arith, c) ] in
          (omega (arith, a2, z, none), λ w. absurd (omega (arith, a2, z, none, w)))
      | inr m ↦
          let o = without-other k key waiting m in
          let d = times-there k key [] m in
          elim (cases_lt 0 (times k keys)) [
            | inl b ↦ (omega (arith, a2, o, fresh.0, fresh.1 b, a5), λ w. omega (arith, a4, d, fresh.1 b, a5))
            | inr c ↦ (
              omega (arith, a2, o, c, (h k).0),
              λ w. let waited : 0 < times k waiting = omega (arith, w, a2, o, c) in omega (arith, a4, d, (h k).1 waited),
            )
          ]
    ]

-- ---- lists in which each key stands once
pub once_counts : (xs : List (List ℕ)) → AreDistinct xs → (k : List ℕ) → times k xs ≤ 1
once_counts [] h k = omega arith
once_counts (x ∷ xs) h k = elim (one_key_or_not k x) [
  | inl q ↦
      let none : times k xs ≡ 0 = elim (cases_lt 0 (times k xs)) [
        | inl b ↦ absurd (h.0 (subst (λ (v : List ℕ). Contains xs v) q (member_of xs k b)))
        | inr c ↦ omega (arith, c)
      ] in
      omega (arith, times-here k x xs q, none)
  | inr m ↦ omega (arith, times-there k x xs m, once_counts xs h.1 k)
]

pub counts_once : (xs : List (List ℕ)) → ((k : List ℕ) → times k xs ≤ 1) → AreDistinct xs
counts_once [] h = tt
counts_once (x ∷ xs) h = (
  (λ c. omega (arith, h x, times-here x x xs refl, times_of xs x c)),
  counts_once xs (λ k. elim (one_key_or_not k x) [
    | inl q ↦ omega (arith, h k, times-here k x xs q)
    | inr m ↦ omega (arith, h k, times-there k x xs m)
  ]),
)
