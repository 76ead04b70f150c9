-- A feasible root is lexicographically feasible, and has no parent.
use Rattle.std.proofs.Common.{◌≡◌, ℕ, Bool, true, false, cond, List, [], ◌∷◌, ℤ, pos, neg_ℤ, map, refl, inl, inr, arith}
use Rattle.std.specs.Prelude.{◌≤ℤ◌, ◌==◌}
use Rattle.std.specs.List.{Contains}
use Rattle.std.proofs.lemmas.Int.{by_lt_z}
use Rattle.poly_num.proofs.Ring.{lin}
use Rattle.poly_model.specs.Spaces.{Space, is_member}
use Rattle.poly_model.specs.Dictionaries.{Table}
use Rattle.poly_model.specs.LexOrder.{IsNonnegative, outside, listed_at, list_of}
use Rattle.poly_model.specs.Tree.{IsFeasibleRoot, IsLexFeasible}
use Rattle.linear_laws.proofs.Members.{Contains-first, Contains-later}
use Rattle.dictionary_laws.proofs.Filters.{member_only}
use Rattle.tree_laws.proofs.LexLemmas.{positive_unless_zero}
use Rattle.tree_laws.proofs.OrderLemmas.{outside_only}
use Rattle.tree_laws.proofs.NotZero.{list_is_nonzero}

first_nonnegative : (x : ℤ) (xs : List ℤ) → pos 0 ≤ℤ x → IsNonnegative xs → IsNonnegative (x ∷ xs)
first_nonnegative x xs l h =
    by_lt_z (pos 0) x (λ up. inl up) (λ down. inr (omega (arith, lin), h))

none_negative : (f : ℕ → ℤ) (ks : List ℕ) → ((k : ℕ) → Contains ks k → pos 0 ≤ℤ f k) → IsNonnegative (map f ks)
none_negative f [] h = tt
none_negative f (k ∷ ks) h =
    first_nonnegative (f k) (map f ks) (h k (Contains-first k ks))
    (none_negative f ks (λ j c. h j (Contains-later j k ks c)))

module _ (space : Space) (root : List ℕ) (home : Table) (h : IsFeasibleRoot space root home) where
  -- no row outside the root is in the key: the list has the constant, the denominator once, and 0
  root_number : (i k : ℕ) → Contains (outside space.labels root) k → pos 0 ≤ℤ listed_at root home i k
  root_number i k c = by (k == i) (is_member k root) refl
    where
      by : (b m : Bool) → is_member k root ≡ m →
          pos 0 ≤ℤ cond b home.denominator (cond m (neg_ℤ (home.entry i k)) (pos 0))
      by true m e = let l = h.dictionary.dictionary.writes.positive in omega (arith, lin)
      by false true e = absurd ((outside_only space root k c).1 (member_only k root e))
      by false false e = omega (arith, lin)

  pub root_is_feasible : IsLexFeasible space root root home
  root_is_feasible = record {
    dictionary = h.dictionary;
    lists = λ i o. positive_unless_zero (list_of space.labels root root home i)
        (first_nonnegative (home.constant i) (map (listed_at root home i) (outside space.labels root))
        (h.constants i o.row)
        (none_negative (listed_at root home i) (outside space.labels root) (root_number i)))
        (list_is_nonzero space root root home home h.dictionary h.dictionary i o);
  }
