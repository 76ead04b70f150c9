-- Steps that lower a row end, at one cobasis and after one number of steps, no more than there are sets of rows.
use Rattle.std.proofs.Common.{◌≡◌, inl, inr, ⊎_elim, ℕ, zero, suc, List, [], ◌∷◌, refl, sym, ap, subst, ◌∙◌, arith}
use Rattle.std.specs.List.{Contains}
use Rattle.poly_model.specs.Spaces.{Space}
use Rattle.poly_model.specs.Dictionaries.{Table, IsDictionary}
use Rattle.poly_model.specs.LexOrder.{rows_in}
use Rattle.poly_model.specs.Tree.{IsRowDictionary, IsLexFeasible}
use Rattle.poly_model.specs.Lowering.{IsLoweringStep, IsLowest, IsDescent}
use Rattle.linear_laws.specs.Distinct.{AreDistinct}
use Rattle.search_laws.specs.Lowering.{EndsWithin, HasEnd}
use Rattle.tree_laws.proofs.Neighbours.{neighbour_dictionary, neighbour_feasible}
use Rattle.tree_laws.proofs.Chains.{State, by_falls_within, other_table}
use Rattle.search_laws.proofs.Lowered.{only_row, row_falls, some_step, lowest_too, step_too, no_step, one_step}

module _ (space : Space) (root : List ℕ) (home : Table) (h : IsRowDictionary space root home) (q : ℕ)
    (l : Contains (rows_in space.labels) q) where
  pub after : (key new : List ℕ) (t : Table) → IsLexFeasible space root key t →
      IsLoweringStep space.labels root q key t new →
      (u : Table) × IsLexFeasible space root new u
  after key new t f x =
      let w = neighbour_dictionary space root key t x.s new f.dictionary x.neighbour in
      (w.0, neighbour_feasible space root key t x.s new home w.0 h f x.neighbour w.1)

  pub steps_end : (d : State space root) → HasEnd space root q d.key
  steps_end =
      by_falls_within space root (q ∷ []) (only_row space q l) (λ n d. EndsWithin space root q n d.key)
      (λ m d. ⊎_elim
      (λ (lowest : IsLowest d.key d.table q). inl (record {
        steps = zero;
        few = omega arith;
        end = d.key;
        table = d.table;
        feasible = d.feasible;
        lowest = lowest;
        descent = refl;
      }))
      (λ (w : (new : List ℕ) × IsLoweringStep space.labels root q d.key d.table new).
      let u = after d.key w.0 d.table d.feasible w.1 in
      inr (
        record { key = w.0; table = u.0; feasible = u.1 },
        row_falls space root d.key d.table d.feasible.dictionary q l w.1.s w.1.lowers.column w.1.lowers.negative w.0
            u.0 w.1.neighbour u.1,
        λ r. record {
          steps = suc r.steps;
          few = omega (arith, r.few);
          end = r.end;
          table = r.table;
          feasible = r.feasible;
          lowest = r.lowest;
          descent = (d.table, d.feasible.dictionary.dictionary, w.0, w.1, r.descent);
        },
      ))
      (some_step space root d.key d.table d.feasible.dictionary q l))

  -- ---- it is one
  module _ (distinct : AreDistinct (rows_in space.labels)) where
    -- no step leads on from where the row is lowest
    ends : (key end : List ℕ) (t u : Table) → IsLexFeasible space root key t → IsDictionary space end u →
        IsLowest end u q → key ≡ end → (v : Table) → IsDictionary space key v → (new : List ℕ) →
        IsLoweringStep space.labels root q key v new → ⊥
    ends key end t u f e low same v g new x =
        no_step space root key v d q l
        (lowest_too space root key u
        (other_table space root home h key t u f.dictionary (subst (λ k. IsDictionary space k u) (sym same) e))
        q l v d (subst (λ k. IsLowest k u q) (sym same) low)) new x
      where
        d : IsRowDictionary space key v
        d = other_table space root home h key t v f.dictionary g

    pub one_end : (m n : ℕ) (key end other : List ℕ) (t u v : Table) → IsLexFeasible space root key t →
        IsDictionary space end u → IsLowest end u q → IsDescent space root q m key end →
        IsDictionary space other v → IsLowest other v q → IsDescent space root q n key other →
        (n ≡ m) × (other ≡ end)
    one_end zero zero key end other t u v f e low x g deep y = (refl, sym y ∙ x)
    one_end zero (suc n) key end other t u v f e low x g deep y =
        absurd (ends key end t u f e low x y.0 y.1 y.2 y.3)
    one_end (suc m) zero key end other t u v f e low x g deep y =
        absurd (ends key other t v f g deep y x.0 x.1 x.2 x.3)
    one_end (suc m) (suc n) key end other t u v f e low x g deep y =
        let d = other_table space root home h key t x.0 f.dictionary x.1 in
        let b = other_table space root home h key t y.0 f.dictionary y.1 in
        let there = step_too space root key x.0 d q l t f.dictionary x.2 x.3 in
        let back = step_too space root key y.0 b q l t f.dictionary y.2 y.3 in
        let same = one_step space root key t f.dictionary q l home h distinct x.2 y.2 there back in
        let w = after key x.2 t f there in
        let r = one_end m n x.2 end other w.0 u v w.1 e low x.4 g deep
        (subst (λ k. IsDescent space root q n k other) (sym same) y.4) in
        (ap suc r.0, r.1)
