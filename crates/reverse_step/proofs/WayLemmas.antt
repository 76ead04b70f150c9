-- The way to a key: a row that no label can give way to depends on the rest of the key, and a cobasis that has all labels of
-- another is that.
use Rattle.std.proofs.Common.{◌≡◌, ◌≢◌, ◌⊎◌, inl, inr, ⊎_elim, ℕ, ℤ, pos, ◌*ℤ◌, Bool, true, false, not, true≢false, ◌<◌, ◌+◌, length, get_or, List, [], refl, sym, subst, ◌∙◌, arith}
use Rattle.std.specs.Prelude.{◌<ℤ◌, ◌↔◌, IsTrue, IsFalse}
use Rattle.std.proofs.lemmas.List.{get_or_default}
use Rattle.std.specs.List.{Contains}
use Rattle.std.proofs.lemmas.List.Elements.{All-from_recursion, All-contains}
use Rattle.poly_num.specs.Vectors.{◌·◌}
use Rattle.poly_num.proofs.Ring.{lin}
use Rattle.poly_num.proofs.Order.{zero_factor}
use Rattle.poly_num.proofs.VectorLemmas.{dot-zero}
use Rattle.poly_model.specs.declared.overflow.Overflow.{Overflow}
use Rattle.poly_model.specs.Keys.{IsAscending}
use Rattle.poly_model.specs.Spaces.{Space, HasPoints}
use Rattle.poly_model.specs.Dictionaries.{Table, IsCobasis, IsDictionary, sum_over}
use Rattle.poly_model.specs.LexOrder.{rows_in, IsPositive, list_of}
use Rattle.poly_model.specs.Tree.{IsRowOutside, IsRowDictionary, IsLexFeasible}
use Rattle.linear_laws.proofs.Members.{ascending_is_one}
use Rattle.dictionary_laws.proofs.Directions.{times_zero, zero_times}
use Rattle.dictionary_laws.proofs.Duals.{Dual, dual_of}
use Rattle.dictionary_laws.proofs.Members.{all_from, contains_or, sum_zero}
use Rattle.dictionary_laws.proofs.Values.{terms, level_value, is_label}
use Rattle.dictionary.specs.Views.{Dictionary, table_of, IsDictionaryIn, IsPivot}
use Rattle.search_laws.proofs.AnyShown.{feasible_too}
use Rattle.lex_pivot.specs.Feasible.{AreListsPositive}
use Rattle.reverse_step.specs.Walks.{Stands}
use Rattle.reverse_step.specs.Ways.{LiesBetween, NoneGivesWay, StopsOnTheWay, IsNoCobasis, StandsAtKey, IsNoFeasibleKey, Reaches}

-- ---- labels one after the other
-- what holds of those before one and of it
pub and_one : (P : ℕ → Type 0) (ks : List ℕ) (n x : ℕ) → n < length ks → x ≡ get_or ks n x → P x →
    ((j : ℕ) → j < n → P (get_or ks j 0)) → (j : ℕ) → j < n + 1 → P (get_or ks j 0)
and_one P ks n x l e p before j m =
    ⊎_elim (λ (h : j < n). before j h)
    (λ (h : j ≡ n). subst (λ i. P (get_or ks i 0)) (sym h) (subst P (e ∙ get_or_default ks n x 0 l) p))
    (below j n m)
  where
    below : (i k : ℕ) → i < k + 1 → (i < k) ⊎ (i ≡ k)
    below i k h = grind arith

pub stands_at : (ks : List ℕ) (j : ℕ) → j < length ks → Contains ks (get_or ks j 0)
stands_at ks j l = (j, l, get_or_default ks j (get_or ks j 0) 0 l)

pub is_not_false : (b : Bool) → IsFalse (not b) → b ≡ true
is_not_false true h = refl
is_not_false false h = absurd (true≢false h)

-- ---- the way
pub stays : (d : Dictionary) (to : List ℕ) → LiesBetween d to d
stays d to = record { phase = refl; labels = refl; width = refl; between = λ k c. inl c; dictionary = λ space p h. h }

pub goes_on : (a b c : Dictionary) (to : List ℕ) → LiesBetween a to b → LiesBetween b to c → LiesBetween a to c
goes_on a b c to v w = record {
  phase = w.phase ∙ v.phase;
  labels = w.labels ∙ v.labels;
  width = w.width ∙ v.width;
  between = λ k m. ⊎_elim (λ h. v.between k h) (λ h. inr h) (w.between k m);
  dictionary = λ space p h. w.dictionary space p (v.dictionary space p h);
}

-- a pivot of a label of the key
pub pivots_on : (old new : Dictionary) (to : List ℕ) (r s : ℕ) → Contains to r → IsPivot old r s new → LiesBetween old to new
pivots_on old new to r s c p = record {
  phase = p.phase;
  labels = p.labels;
  width = p.width;
  between = λ k m.
      ⊎_elim (λ (e : k ≡ r). inr (subst (Contains to) (sym e) c)) (λ (h : Contains old.key k × (k ≢ s)). inl h.0)
      (p.key.exchanges.only k m);
  dictionary = p.dictionary;
}

-- a label of the key stays
pub stays_in : (old new : Dictionary) (to : List ℕ) (r s : ℕ) → (Contains to s → ⊥) → IsPivot old r s new → (k : ℕ) →
    Contains to k → Contains old.key k → Contains new.key k
stays_in old new to r s n p k m c = p.key.exchanges.kept k c (λ e. n (subst (Contains to) e m))

-- an overflow further on
pub stops_later : (a b : Dictionary) (to : List ℕ) (o : Overflow) → LiesBetween a to b → StopsOnTheWay b to o → StopsOnTheWay a to o
stops_later a b to o w x = record {
  at = x.at;
  way = goes_on a b x.at to w x.way;
  r = x.r;
  s = x.s;
  row = x.row;
  gives = x.gives;
  overflow = x.overflow;
}

-- what is no cobasis was none
pub none_before : (a b : Dictionary) (to : List ℕ) → LiesBetween a to b → IsNoCobasis b to → IsNoCobasis a to
none_before a b to w n space p h c = n space p (w.dictionary space p h) c

-- ---- cobases
-- the value of a positive multiple
no_value : (d v s : ℤ) → pos 0 <ℤ d → d *ℤ v ≡ s → s ≡ pos 0 → v ≡ pos 0
no_value d v s l e z = zero_factor d v (e ∙ z) (λ f. omega (arith, lin))

-- a row that depends on the others
pub depends : (d : Dictionary) (to : List ℕ) (r : ℕ) → Contains to r → (Contains d.key r → ⊥) → NoneGivesWay d to r →
    IsNoCobasis d to
depends d to r m outside none space p h c = dual.here zero
  where
    dual : Dual space [] to r
    dual = dual_of space to c r m

    t : Table
    t = table_of d

    each : (k : ℕ) → Contains d.key k → terms space t r dual.vector k ≡ pos 0
    each k i =
        ⊎_elim
        (λ (x : Contains to k). times_zero (t.entry r k) (space.form k · dual.vector)
        (dual.elsewhere k x (λ e. outside (subst (Contains d.key) e i))))
        (λ (n : Contains to k → ⊥). zero_times (t.entry r k) (space.form k · dual.vector) (none k i n))
        (contains_or to k)

    zero : space.form r · dual.vector ≡ pos 0
    zero =
        no_value t.denominator (space.form r · dual.vector) (sum_over d.key (terms space t r dual.vector))
        h.dictionary.writes.positive
        (level_value (t.constant r) (space.infinity · dual.vector) (sum_over d.key (terms space t r dual.vector))
        (t.denominator *ℤ (space.form r · dual.vector)) dual.direction.level
        (h.dictionary.writes.values r (is_label space to c r m) dual.vector dual.direction.inside))
        (sum_zero d.key (terms space t r dual.vector) each)

-- a cobasis with all labels of another one has no more
pub same_key : (space : Space) (key to : List ℕ) → IsCobasis space key → IsCobasis space to → IsAscending key →
    IsAscending to → ((k : ℕ) → Contains to k → Contains key k) → key ≡ to
same_key space key to c g a b all = ascending_is_one key to a b back all
  where
    back : (k : ℕ) → Contains key k → Contains to k
    back k m =
        ⊎_elim (λ (x : Contains to k). x)
        (λ (n : Contains to k → ⊥).
        let dual = dual_of space key c k m in
        let zero = g.enough dual.vector dual.direction
        (all_from (λ j. space.form j · dual.vector ≡ pos 0) to
        (λ j x. dual.elsewhere j (all j x) (λ e. n (subst (Contains to) e x)))) in
        absurd (dual.here (dot-zero (space.form k) dual.vector zero)))
        (contains_or to k)

-- ---- the end of the way
module _ (space : Space) (root : List ℕ) (from now : Dictionary) (to : List ℕ) (h : StandsAtKey root from to now)
    (points : HasPoints space) (is : IsDictionaryIn space from) where
  pub reached_dictionary : IsDictionaryIn space now
  reached_dictionary = h.way.dictionary space points is

  -- it is lexicographically feasible
  pub reached_feasible : IsLexFeasible space root now.key (table_of now)
  reached_feasible = record {
    dictionary = record {
      points = points;
      ascending = subst IsAscending (sym h.there) h.ascending;
      rows = All-from_recursion (Contains (rows_in space.labels)) now.key
          (all_from (Contains (rows_in space.labels)) now.key
          (λ k c. subst (λ ls. Contains (rows_in ls) k) is.labels
          (h.rows k (subst (λ ks. Contains ks k) h.there c))));
      dictionary = reached_dictionary.dictionary;
    };
    lists = λ i o. subst (λ ls. IsPositive (list_of ls root now.key (table_of now) i)) reached_dictionary.labels
        (h.lists i (subst (λ ls. IsRowOutside ls now.key i) (sym reached_dictionary.labels) o));
  }

pub reached_stands : (space : Space) (home : Table) (root : List ℕ) (from now : Dictionary) (to : List ℕ) →
    StandsAtKey root from to now → Stands space home root from → Stands space home root now
reached_stands space home root from now to h st =
    let points = st.feasible.dictionary.points in
    record {
      ascending = st.ascending;
      feasible_root = st.feasible_root;
      dictionary = reached_dictionary space root from now to h points st.dictionary;
      feasible = reached_feasible space root from now to h points st.dictionary;
    }

module _ (root : List ℕ) (from : Dictionary) (to : List ℕ) where
  -- not all labels are rows
  pub not_rows : (((k : ℕ) → Contains to k → Contains (rows_in from.labels) k) → ⊥) → IsNoFeasibleKey root from to
  not_rows n space points is f =
      n (λ k c. subst (λ ls. Contains (rows_in ls) k) (sym is.labels)
      (All-contains (Contains (rows_in space.labels)) to k f.1.dictionary.rows c))

  module _ (now : Dictionary) (w : LiesBetween from to now) (all : (k : ℕ) → Contains to k → Contains now.key k) where
    -- the labels are in the cobasis, and it has others
    pub not_there : IsAscending now.key → (now.key ≡ to → ⊥) → IsNoFeasibleKey root from to
    not_there up n space points is f =
        let there = w.dictionary space points is in
        let d = f.1.dictionary in
        n (same_key space now.key to there.dictionary.cobasis d.dictionary.cobasis up d.ascending all)

    -- there, and some list is not positive
    pub not_feasible : now.key ≡ to → (AreListsPositive now root → ⊥) → IsNoFeasibleKey root from to
    not_feasible e n space points is f = n positive
      where
        there : IsDictionaryIn space now
        there = w.dictionary space points is

        rows : IsRowDictionary space to (table_of now)
        rows = record {
          points = f.1.dictionary.points;
          ascending = f.1.dictionary.ascending;
          rows = f.1.dictionary.rows;
          dictionary = subst (λ k. IsDictionary space k (table_of now)) e there.dictionary;
        }

        feasible : IsLexFeasible space root now.key (table_of now)
        feasible = subst (λ k. IsLexFeasible space root k (table_of now)) (sym e)
            (feasible_too space root to f.0 (table_of now) f.1.dictionary rows f.1)

        positive : AreListsPositive now root
        positive i o = subst (λ ls. IsPositive (list_of ls root now.key (table_of now) i)) (sym there.labels)
            (feasible.lists i (subst (λ ls. IsRowOutside ls now.key i) there.labels o))

    -- whether it is the key of a lexicographically feasible cobasis
    pub ends_there : (b : Bool) → IsAscending to → ((k : ℕ) → Contains to k → Contains (rows_in from.labels) k) →
        now.key ≡ to → IsTrue b ↔ AreListsPositive now root → Reaches root from to b now
    ends_there true up rows e h = record { way = w; there = e; ascending = up; rows = rows; lists = h.0 refl }
    ends_there false up rows e h = not_feasible e (λ l. true≢false (sym (h.1 l)))
