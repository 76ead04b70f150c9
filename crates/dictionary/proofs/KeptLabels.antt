-- The labels of a key that pass a test.
use Rattle.std.proofs.Common.{◌≡◌, ℕ, suc, ◌≤◌, Bool, List, [], ◌∷◌, length, subst, arith}
use Rattle.std.specs.List.{Contains, filter}
use Rattle.dictionary.specs.Positions.{AreBelow}
use Rattle.std.proofs.lemmas.Bool.{cond_both}
use Rattle.poly_model.specs.Keys.{IsKey}
use Rattle.dictionary_laws.specs.Keys.{HaveSameLabels}
use Rattle.dictionary_laws.proofs.Filters.{filter_only, filter_kept, ascending_filter}

pub filter_length : (test : ℕ → Bool) (ks : List ℕ) → length (filter test ks) ≤ length ks
filter_length test [] = omega arith
filter_length test (k ∷ ks) =
    let rest = filter_length test ks in
    cond_both (test k) (k ∷ filter test ks) (filter test ks) (λ (l : List ℕ). length l ≤ suc (length ks))
    (λ e. omega arith) (λ e. omega arith)

pub key_filter : (test : ℕ → Bool) (ks : List ℕ) → IsKey ks → IsKey (filter test ks)
key_filter test ks h = record {
  room = let l = filter_length test ks in let m = h.room in omega arith;
  ascending = ascending_filter test ks h.ascending;
}

pub same_filter : (test : ℕ → Bool) (ks ls : List ℕ) → HaveSameLabels ks ls →
    HaveSameLabels (filter test ks) (filter test ls)
same_filter test ks ls h = record {
  there = λ k c. let m = filter_only test ks k c in filter_kept test ls k (h.there k m.0) m.1;
  back = λ k c. let m = filter_only test ls k c in filter_kept test ks k (h.back k m.0) m.1;
}

-- the labels that pass a test are below what all are below
pub below_kept : (test : ℕ → Bool) (n : ℕ) (all old kept : List ℕ) → AreBelow all n → old ≡ all →
    kept ≡ filter test old → AreBelow kept n
below_kept test n all old kept below same filtered k m =
    let there = subst (λ (ks : List ℕ). Contains ks k) filtered m in
    below k (subst (λ (ks : List ℕ). Contains ks k) same (filter_only test old k there).0)
