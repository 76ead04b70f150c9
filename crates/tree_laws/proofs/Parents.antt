-- The root has no parent, and each other lexicographically feasible cobasis has one, and no other.
use Rattle.std.proofs.Common.{◌≡◌, inl, inr, ⊎_elim, ℕ, List, [], ◌∷◌, ℤ, pos, ◌+ℤ◌, ◌*ℤ◌, neg_ℤ, map, refl, sym, ap, subst, ◌∙◌}
use Rattle.std.specs.Prelude.{Option, None, Some, ◌<ℤ◌}
use Rattle.std.specs.List.{Contains}
use Rattle.poly_num.specs.Vectors.{◌·◌, IsZero}
use Rattle.poly_num.proofs.VectorLemmas.{dot-zero}
use Rattle.poly_model.specs.Spaces.{Space}
use Rattle.poly_model.specs.Dictionaries.{Table, sum_over}
use Rattle.poly_model.specs.LexOrder.{IsNonnegative, rows_in, outside, within, backwards}
use Rattle.poly_model.specs.Tree.{IsRowDictionary, IsFeasibleRoot, IsLexFeasible, IsNeighbour, MayEnter, Enters, IsParent, exchanged_key}
use Rattle.linear_laws.specs.Distinct.{AreDistinct}
use Rattle.linear_laws.proofs.Members.{ascending_is_one}
use Rattle.linear_laws.proofs.Signs.{minus_negative}
use Rattle.dictionary_laws.proofs.Members.{all_from, contains_or}
use Rattle.dictionary_laws.proofs.Directions.{times_zero}
use Rattle.dictionary_laws.proofs.Duals.{Dual, dual_of}
use Rattle.tree_laws.specs.Parents.{IsRootOrChild}
use Rattle.tree_laws.proofs.ListSums.{zero_at}
use Rattle.tree_laws.proofs.LexLemmas.{positive_value}
use Rattle.tree_laws.proofs.Numbers.{row_is_label, key_row}
use Rattle.tree_laws.proofs.Levels.{level, level_list, places, own_level}
use Rattle.tree_laws.proofs.KeyLaw.{key_law}
use Rattle.tree_laws.proofs.NotZero.{level_is_nonzero}
use Rattle.tree_laws.proofs.Ends.{ends_of_lists}
use Rattle.tree_laws.proofs.OrderLemmas.{backwards_within_has, backwards_within_only}
use Rattle.tree_laws.proofs.Entering.{enters_or_up, none_or_enters, enters_is_one}
use Rattle.tree_laws.proofs.Least.{some_leaves}
use Rattle.tree_laws.proofs.Neighbours.{levels_nonnegative, key_entry, one_neighbour}
use Rattle.tree_laws.proofs.AnyTable.{parent_too}
use Rattle.tree_laws.proofs.Roots.{root_is_feasible}

module _ (space : Space) (root key : List ℕ) (t : Table) (d : IsRowDictionary space key t) where
  -- a column that may enter is negative at a row of the root, and that row is outside the key
  pub negative_row : (s : ℕ) → Contains key s → MayEnter space.labels root t s →
      (q : ℕ) × Contains (rows_in space.labels) q × Contains root q × (t.entry q s <ℤ pos 0) × (Contains key q → ⊥)
  negative_row s c m =
      let w = positive_value (λ q. neg_ℤ (t.entry q s)) (backwards (within space.labels root)) m in
      let q = backwards_within_only space root w.0 w.1 in
      let l = minus_negative (t.entry w.0 s) w.2 in
      (w.0, q.0, q.1, l, λ i. key_entry space key t d w.0 s i c l)

  -- where the key has all rows of the root, it has no parent
  pub no_parent : ((q : ℕ) → Contains root q → Contains key q) → (parent : List ℕ) →
      IsParent space.labels root key t parent → ⊥
  no_parent all parent p =
      let w = negative_row p.s p.enters.column p.enters.may in w.4 (all w.0 w.2)

  -- where a column enters, some row leaves
  pub some_parent : (s : ℕ) → Enters space.labels root key t s →
      (parent : List ℕ) × IsParent space.labels root key t parent
  some_parent s e =
      let w = negative_row s e.column e.may in
      let l = some_leaves space root key t s w.0 (record { row = w.1; outside = w.4 }) w.3 in (
        exchanged_key key s l.0,
        record {
          s = s;
          enters = e;
          neighbour = record { column = e.column; r = l.0; leaves = l.1; exchange = refl };
        },
      )

-- ---- where no column may enter, the key is the root
pub same_places : (f : Option ℕ → ℤ) (ks : List ℕ) → map f (map Some ks) ≡ map (λ k. f (Some k)) ks
same_places f [] = refl
same_places f (k ∷ ks) = ap (λ xs. f (Some k) ∷ xs) (same_places f ks)

module _ (space : Space) (root key : List ℕ) (home t : Table) (h : IsLexFeasible space root root home)
    (f : IsLexFeasible space root key t)
    (none : (s : ℕ) → Contains key s → MayEnter space.labels root t s → ⊥) where
  -- a column that may not enter is not negative on the rows of the root
  up : (c : ℕ) → Contains key c → IsNonnegative (map (λ q. t.entry q c) (backwards (within space.labels root)))
  up c m =
      ⊎_elim
      (λ (u : IsNonnegative (map (λ q. t.entry q c) (backwards (within space.labels root)))). u)
      (λ (e : MayEnter space.labels root t c). absurd (none c m e))
      (enters_or_up space root t c)

  -- the law of a row of the root, whose levels at the root are 0
  row_law : (q : ℕ) → Contains (rows_in space.labels) q → Contains root q → (x : Option ℕ) →
      home.denominator *ℤ level key t q x +ℤ sum_over key (λ c. t.entry q c *ℤ level root home c x) ≡ pos 0
  row_law q l m x =
      sym (key_law space key root t home f.dictionary h.dictionary q (row_is_label space q l) x)
      ∙ times_zero t.denominator (level root home q x) (own_level space root home h.dictionary q m x)

  row_ends : (q : ℕ) → Contains (backwards (within space.labels root)) q → IsZero (level_list space root key t q)
  row_ends q m =
      subst (λ xs. IsZero (t.constant q ∷ xs)) (sym (same_places (level key t q) (outside space.labels root)))
      (ends_of_lists home.denominator (backwards (within space.labels root)) key
      (outside space.labels root) t.entry home.constant
      (λ c k. level root home c (Some k)) t.constant (λ q k. level key t q (Some k))
      h.dictionary.dictionary.writes.positive
      (λ c i. subst (λ xs. IsNonnegative (home.constant c ∷ xs))
      (same_places (level root home c) (outside space.labels root))
      (levels_nonnegative space root root home h c (key_row space key t f.dictionary c i)))
      (λ q i. subst (λ xs. IsNonnegative (t.constant q ∷ xs)) (same_places (level key t q) (outside space.labels root))
      (levels_nonnegative space root key t f q (backwards_within_only space root q i).0))
      (λ c i. inr (up c i))
      (λ q i. let w = backwards_within_only space root q i in row_law q w.0 w.1 None)
      (λ q k i _. let w = backwards_within_only space root q i in row_law q w.0 w.1 (Some k))
      q m).0

  has_root_row : (q : ℕ) → Contains root q → Contains key q
  has_root_row q m =
      let l = key_row space root home h.dictionary q m in
      ⊎_elim
      (λ (c : Contains key q). c)
      (λ (n : Contains key q → ⊥). absurd (level_is_nonzero space root key home t h.dictionary f.dictionary q
      (record { row = l; outside = n })
      (zero_at (level key t q) (places space root) (row_ends q (backwards_within_has space root q l m)))))
      (contains_or key q)

  -- a further label would not be 0 at a direction at which the root is
  has_no_more : (k : ℕ) → Contains key k → Contains root k
  has_no_more k c =
      ⊎_elim
      (λ (m : Contains root k). m)
      (λ (n : Contains root k → ⊥).
      absurd (apart n (dual_of space key f.dictionary.dictionary.cobasis k c)))
      (contains_or root k)
    where
      apart : (Contains root k → ⊥) → Dual space [] key k → ⊥
      apart n z =
          z.here (dot-zero (space.form k) z.vector (h.dictionary.dictionary.cobasis.enough z.vector z.direction
          (all_from (λ j. space.form j · z.vector ≡ pos 0) root
          (λ j m. z.elsewhere j (has_root_row j m) (λ e. n (subst (Contains root) e m))))))

  pub is_root : key ≡ root
  is_root = ascending_is_one key root f.dictionary.ascending h.dictionary.ascending has_no_more has_root_row

-- ---- together
pub root_or_child : (space : Space) (root key : List ℕ) (home t : Table) → IsFeasibleRoot space root home →
    IsLexFeasible space root key t → IsRootOrChild space root key t
root_or_child space root key home t h f =
    ⊎_elim
    (λ (none : (s : ℕ) → Contains key s → MayEnter space.labels root t s → ⊥).
    let e = is_root space root key home t (root_is_feasible space root home h) f none in
    inl (e, no_parent space root key t f.dictionary (λ q m. subst (λ l. Contains l q) (sym e) m)))
    (λ (w : (s : ℕ) × Enters space.labels root key t s).
    let p = some_parent space root key t f.dictionary w.0 w.1 in
    inr (
      λ e. no_parent space root key t f.dictionary (λ q m. subst (λ l. Contains l q) (sym e) m) p.0 p.1,
      p.0,
      p.1,
    ))
    (none_or_enters space root t key f.dictionary.rows)

-- two parents of one key, by whichever tables
pub one_parent : (space : Space) (root key parent other : List ℕ) (home t u : Table) →
    AreDistinct (rows_in space.labels) →
    IsRowDictionary space root home → IsRowDictionary space key t → IsRowDictionary space key u →
    IsParent space.labels root key t parent → IsParent space.labels root key u other → parent ≡ other
one_parent space root key parent other home t u distinct h d e p q =
    let g = parent_too space root key u t e d other q in
    let s = enters_is_one space root t key distinct p.s g.s p.enters g.enters in
    one_neighbour space root key t home h d p.s parent other p.neighbour
    (subst (λ s. IsNeighbour space.labels root key t s other) (sym s) g.neighbour)
