-- A run in parts: none, one key, and one part behind another.
use Rattle.std.proofs.Common.{◌⊎◌, ℕ, suc, ◌≤◌, ◌<◌, List, [], ◌∷◌, ◌++◌, append_assoc, append-nil, length, length-append, refl, sym, ap, subst, arith}
use Rattle.work_core.specs.Orders.{Met, visited, given_back, AreChildren, Meets, keys_visited}
use Rattle.job_laws.specs.Parts.{IsPart}
use Rattle.job_laws.proofs.MetLists.{visited-append}

module _ (At : List ℕ → ℕ → List ℕ → Type 0) (Deep : List ℕ → Type 0) (most : ℕ) where
  -- no key
  pub part_none : (n : ℕ) → IsPart At Deep most n [] [] n
  part_none n = record { count = omega arith; goes = λ rest more r. r }

  -- one key is given back
  pub part_given_back : (n : ℕ) (k : List ℕ) → (most ≤ n) ⊎ Deep k → IsPart At Deep most n (k ∷ []) (given_back k ∷ []) n
  part_given_back n k stop = record { count = omega arith; goes = λ rest more r. (rest, refl, stop, r) }

  -- one key is visited, and then its children
  pub part_visited : (n m : ℕ) (k : List ℕ) (cs : List (List ℕ)) (met : List Met) → n < most → (Deep k → ⊥) →
      AreChildren At k cs → IsPart At Deep most (suc n) cs met m → IsPart At Deep most n (k ∷ []) (visited k ∷ met) m
  part_visited n m k cs met few high c p = record {
    count = let e = p.count in omega (arith, e);
    goes = λ rest more r. (rest, refl, few, high, cs, c, p.goes rest more r);
  }

  -- some keys, and then others: what a loop over children adds up
  pub part_then : (n m o : ℕ) (ks ls : List (List ℕ)) (met more : List Met) → IsPart At Deep most n ks met m →
      IsPart At Deep most m ls more o → IsPart At Deep most n (ks ++ ls) (met ++ more) o
  part_then n m o ks ls met more p q = record {
    count =
        let e = p.count in
        let f = q.count in
        let l = ap length (visited-append met more) in
        let a = length-append (keys_visited met) (keys_visited more) in
        omega (arith, e, f, l, a);
    goes = λ rest others r.
        subst (λ ws. Meets At Deep most n ws ((met ++ more) ++ others)) (sym (append_assoc ks ls rest))
        (subst (λ ms. Meets At Deep most n (ks ++ (ls ++ rest)) ms) (sym (append_assoc met more others))
        (p.goes (ls ++ rest) (more ++ others) (q.goes rest others r)));
  }

  -- the part of the job's key alone is the run
  pub part_is_run : (m : ℕ) (k : List ℕ) (met : List Met) → IsPart At Deep most 0 (k ∷ []) met m →
      Meets At Deep most 0 (k ∷ []) met
  part_is_run m k met p = subst (λ ms. Meets At Deep most 0 (k ∷ []) ms) (append-nil met) (p.goes [] [] refl)
