-- What phase one gives is a feasible root, and it is one.
use Rattle.std.proofs.Common.{◌≡◌, ◌⊎◌, inl, inr, ⊎_elim, ℕ, ◌≤◌, zero, suc, List, ◌∷◌, ℤ, pos, sym, ap, subst, ◌∙◌, arith}
use Rattle.std.specs.Prelude.{◌<ℤ◌, ◌≤ℤ◌}
use Rattle.std.specs.List.{Contains}
use Rattle.poly_num.proofs.Ring.{lin}
use Rattle.poly_model.specs.Spaces.{Space, lifted}
use Rattle.poly_model.specs.Dictionaries.{Table, IsDictionary}
use Rattle.poly_model.specs.LexOrder.{rows_in, IsEarlier}
use Rattle.poly_model.specs.Tree.{IsRowDictionary, IsFeasibleRoot, IsLexFeasible, exchanged_key}
use Rattle.poly_model.specs.Lowering.{IsDescent}
use Rattle.poly_model.specs.PhaseOne.{IsWorst, IsFirstWorst, lowering_root, IsLastColumn, IsLastExchange, IsLowered, GivesByPhaseOne}
use Rattle.linear_laws.specs.Distinct.{AreDistinct}
use Rattle.linear_laws.proofs.Members.{Contains-first}
use Rattle.dictionary_laws.specs.Numbers.{Agree}
use Rattle.search_laws.specs.PhaseOne.{HasNoRowZero}
use Rattle.search_laws.specs.PhaseEnds.{IsWithT}
use Rattle.tree_laws.proofs.OrderLemmas.{row_only, not_earlier_and_later}
use Rattle.tree_laws.proofs.Numbers.{row_is_label}
use Rattle.tree_laws.proofs.Roots.{root_is_feasible}
use Rattle.tree_laws.proofs.PointTest.{constants_are_not_negative}
use Rattle.tree_laws.proofs.Chains.{other_table}
use Rattle.tree_laws.proofs.AnyTable.{agree, same_entry}
use Rattle.search_laws.proofs.FirstRoots.{first_root}
use Rattle.search_laws.proofs.Lowered.{step_too}
use Rattle.search_laws.proofs.LoweredEnds.{after, one_end}
use Rattle.search_laws.proofs.PhaseEnds.{exchange_at_zero}
use Rattle.search_laws.proofs.AnyShown.{feasible_too}
use Rattle.search_laws.proofs.WithoutT.{root_without_t}

-- steps that lower a row lead from a lexicographically feasible cobasis to another
feasible_end : (space : Space) (root : List ℕ) (home : Table) → IsRowDictionary space root home → (q : ℕ) →
    Contains (rows_in space.labels) q → (steps : ℕ) (key end : List ℕ) (t : Table) → IsLexFeasible space root key t →
    IsDescent space root q steps key end → (u : Table) × IsLexFeasible space root end u
feasible_end space root home h q l zero key end t f x = (t, subst (λ k. IsLexFeasible space root k t) x f)
feasible_end space root home h q l (suc steps) key end t f (v, d, new, step, rest) =
    let w = after space root home h q l key new t f
    (step_too space root key v (other_table space root home h key t v f.dictionary d) q l t f.dictionary new step) in
    feasible_end space root home h q l steps new end w.0 w.1 rest

module _ (space : Space) (start : List ℕ) (none : HasNoRowZero space) where
  pub t_is_row : Contains (rows_in (lifted space start).labels) 0
  t_is_row = Contains-first 0 (rows_in space.labels)

  -- ---- it is feasible
  from_with_t : (root : List ℕ) (u : Table) → IsFeasibleRoot (lifted space start) (0 ∷ root) u →
      (home : Table) × IsFeasibleRoot space root home
  from_with_t root u f = by (root_without_t space start (0 ∷ root) u none f (Contains-first 0 root))
    where
      by : IsWithT space (0 ∷ root) u → (home : Table) × IsFeasibleRoot space root home
      by w =
          let rest : w.rest ≡ root = cc in
          subst (λ k. (home : Table) × IsFeasibleRoot space k home) rest
          (w.root.some.0, w.root.feasible w.root.some.0 w.root.some.1)

  module _ (home : Table) (d : IsRowDictionary space start home) where
    -- the first root of the lifted space
    pub first_home : (r : ℕ) → IsWorst space start home r →
        (u : Table) × IsFeasibleRoot (lifted space start) (lowering_root start r) u
    first_home r w =
        let g = first_root space start home none d r w in (g.some.0, g.feasible g.some.0 g.some.1)

    -- where t is lowered to is feasible
    end_feasible : (root : List ℕ) (x : IsLowered space start home root) →
        IsLexFeasible (lifted space start) (lowering_root start x.r) x.end x.table
    end_feasible root x = by (first_home x.r x.worst.worst)
      where
        by : (u : Table) × IsFeasibleRoot (lifted space start) (lowering_root start x.r) u →
            IsLexFeasible (lifted space start) (lowering_root start x.r) x.end x.table
        by (u, f) =
            let e = feasible_end (lifted space start) (lowering_root start x.r) u f.dictionary 0 t_is_row x.steps
            (lowering_root start x.r) x.end u (root_is_feasible (lifted space start) (lowering_root start x.r) u f)
            x.descent in
            feasible_too (lifted space start) (lowering_root start x.r) x.end e.0 x.table e.1.dictionary
            (other_table (lifted space start) (lowering_root start x.r) u f.dictionary x.end e.0 x.table e.1.dictionary
            x.dictionary) e.1

    lowered_feasible : (root : List ℕ) → IsLowered space start home root →
        (u : Table) × IsFeasibleRoot space root u
    lowered_feasible root x = ⊎_elim in_key out_of_key x.last
      where
        f : IsFeasibleRoot (lifted space start) x.end x.table
        f =
            constants_are_not_negative (lifted space start) (lowering_root start x.r) x.end x.table
            (end_feasible root x)

        in_key : x.end ≡ 0 ∷ root → (u : Table) × IsFeasibleRoot space root u
        in_key e = from_with_t root x.table (subst (λ k. IsFeasibleRoot (lifted space start) k x.table) e f)

        out_of_key : IsLastExchange (lifted space start).labels (lowering_root start x.r) x.end x.table (0 ∷ root) →
            (u : Table) × IsFeasibleRoot space root u
        out_of_key y =
            let g = exchange_at_zero (lifted space start) x.end x.table f 0 y.s
            (record { row = t_is_row; outside = y.outside }) y.constant y.column.column y.column.nonzero in
            from_with_t root g.some.0
            (subst (λ k. IsFeasibleRoot (lifted space start) k g.some.0) (sym y.exchange)
            (g.feasible g.some.0 g.some.1))

  pub given_feasible : (root : List ℕ) → GivesByPhaseOne space start root →
      (home : Table) × IsFeasibleRoot space root home
  given_feasible root g =
      ⊎_elim
      (λ (x : IsFeasibleRoot space start g.home × (root ≡ start)).
      (g.home, subst (λ k. IsFeasibleRoot space k g.home) (sym x.1) x.0))
      (lowered_feasible g.home g.dictionary root) g.root_is

-- ---- the last exchange is one
module _ (space : Space) (root key : List ℕ) (t u : Table) (d : IsRowDictionary space key t)
    (e : IsRowDictionary space key u) (l : Contains (rows_in space.labels) 0)
    (distinct : AreDistinct (rows_in space.labels)) where
  same_column : (s r : ℕ) → IsLastColumn space.labels root key t s → IsLastColumn space.labels root key u r → s ≡ r
  same_column s r x y =
      ⊎_elim
      (λ (h : s ≡ r). h)
      (λ (g : IsEarlier space.labels root r s). ⊎_elim
      (λ (h : r ≡ s). sym h)
      (λ (f : IsEarlier space.labels root s r). absurd (not_earlier_and_later space root distinct s r f g))
      (x.least r y.column (λ z. y.nonzero (sym (same_entry space root key t u d e 0 r l y.column) ∙ z))))
      (y.least s x.column (λ z. x.nonzero (same_entry space root key t u d e 0 s l x.column ∙ z)))

  last_is_one : (new other : List ℕ) → Contains new 0 → Contains other 0 →
      (key ≡ new) ⊎ IsLastExchange space.labels root key t new →
      (key ≡ other) ⊎ IsLastExchange space.labels root key u other → new ≡ other
  last_is_one new other m n (inl x) (inl y) = sym x ∙ y
  last_is_one new other m n (inl x) (inr y) = absurd (y.outside (subst (λ k. Contains k 0) (sym x) m))
  last_is_one new other m n (inr x) (inl y) = absurd (x.outside (subst (λ k. Contains k 0) (sym y) n))
  last_is_one new other m n (inr x) (inr y) =
      x.exchange ∙ ap (λ s. exchanged_key key s 0) (same_column x.s y.s x.column y.column) ∙ sym y.exchange

-- ---- the root is one
module _ (space : Space) (start : List ℕ) where
  module _ (home other : Table) (d : IsRowDictionary space start home) (e : IsRowDictionary space start other) where
    same_constant : (i : ℕ) → Contains (rows_in space.labels) i → home.constant i ≡ other.constant i
    same_constant i l =
        Agree.constants (agree space start start home other d e) d.points i (row_is_label space i l)

    worst_too : (r : ℕ) → IsWorst space start home r → IsWorst space start other r
    worst_too r w = record {
      row = w.row;
      negative = subst (λ (x : ℤ). x <ℤ pos 0) (same_constant r w.row.row) w.negative;
      least = λ i o. subst (λ (x : ℤ). other.constant r ≤ℤ x) (same_constant i o.row)
          (subst (λ (x : ℤ). x ≤ℤ home.constant i) (same_constant r w.row.row) (w.least i o));
    }

    none_worst : IsFeasibleRoot space start home → (r : ℕ) → IsWorst space start other r → ⊥
    none_worst f r w =
        below (home.constant r) (other.constant r) (same_constant r w.row.row) (f.constants r w.row.row) w.negative
      where
        below : (a b : ℤ) → a ≡ b → pos 0 ≤ℤ a → b <ℤ pos 0 → ⊥
        below a b s h g = omega (arith, lin)

  same_worst : (home other : Table) → IsRowDictionary space start home → IsRowDictionary space start other →
      (r q : ℕ) → IsFirstWorst space start home r → IsFirstWorst space start other q → r ≡ q
  same_worst home other d e r q x y =
      one r q (x.first q (worst_too other home e d q y.worst)) (y.first r (worst_too home other d e r x.worst))
    where
      one : (r q : ℕ) → r ≤ q → q ≤ r → r ≡ q
      one r q h k = omega (arith, h, k)

  module _ (none : HasNoRowZero space) (distinct : AreDistinct (rows_in space.labels)) where
    lifted_distinct : AreDistinct (rows_in (lifted space start).labels)
    lifted_distinct = (λ c. none (row_only space 0 c).0, distinct)

    module _ (home other : Table) (d : IsRowDictionary space start home) (e : IsRowDictionary space start other)
        (root new : List ℕ) (x : IsLowered space start home root) (y : IsLowered space start other new) where
      same_row : y.r ≡ x.r
      same_row = same_worst other home e d y.r x.r y.worst x.worst

      same_end : y.end ≡ x.end
      same_end =
          by (first_home space start none home d x.r x.worst.worst)
          (subst (λ r. IsDescent (lifted space start) (lowering_root start r) 0 y.steps (lowering_root start r) y.end)
          same_row y.descent)
        where
          by : (u : Table) × IsFeasibleRoot (lifted space start) (lowering_root start x.r) u →
              IsDescent (lifted space start) (lowering_root start x.r) 0 y.steps (lowering_root start x.r) y.end →
              y.end ≡ x.end
          by (u, f) back =
              (one_end (lifted space start) (lowering_root start x.r) u f.dictionary 0 (t_is_row space start none)
              lifted_distinct x.steps y.steps (lowering_root start x.r) x.end y.end u x.table y.table
              (root_is_feasible (lifted space start) (lowering_root start x.r) u f) x.dictionary x.lowest x.descent
              y.dictionary y.lowest back).1

      lowered_one : root ≡ new
      lowered_one = let same : 0 ∷ root ≡ 0 ∷ new = with_t in cc
        where
          f : IsLexFeasible (lifted space start) (lowering_root start x.r) x.end x.table
          f = end_feasible space start none home d root x

          there : IsRowDictionary (lifted space start) x.end y.table
          there = record {
            points = f.dictionary.points;
            ascending = f.dictionary.ascending;
            rows = f.dictionary.rows;
            dictionary = subst (λ k. IsDictionary (lifted space start) k y.table) same_end y.dictionary;
          }

          back : (x.end ≡ 0 ∷ new)
              ⊎ IsLastExchange (lifted space start).labels (lowering_root start x.r) x.end y.table (0 ∷ new)
          back =
              subst (λ k. (k ≡ 0 ∷ new)
              ⊎ IsLastExchange (lifted space start).labels (lowering_root start x.r) k y.table (0 ∷ new)) same_end
              (subst (λ r. (y.end ≡ 0 ∷ new)
              ⊎ IsLastExchange (lifted space start).labels (lowering_root start r) y.end y.table (0 ∷ new)) same_row
              y.last)

          with_t : 0 ∷ root ≡ 0 ∷ new
          with_t =
              last_is_one (lifted space start) (lowering_root start x.r) x.end x.table y.table f.dictionary there
              (t_is_row space start none) lifted_distinct (0 ∷ root) (0 ∷ new) (Contains-first 0 root)
              (Contains-first 0 new) x.last back

    pub given_one : (root other : List ℕ) → GivesByPhaseOne space start root → GivesByPhaseOne space start other →
        root ≡ other
    given_one root other a b = by a.root_is b.root_is
      where
        by : (IsFeasibleRoot space start a.home × (root ≡ start)) ⊎ IsLowered space start a.home root →
            (IsFeasibleRoot space start b.home × (other ≡ start)) ⊎ IsLowered space start b.home other → root ≡ other
        by (inl x) (inl y) = x.1 ∙ sym y.1
        by (inl x) (inr y) = absurd (none_worst a.home b.home a.dictionary b.dictionary x.0 y.r y.worst.worst)
        by (inr x) (inl y) = absurd (none_worst b.home a.home b.dictionary a.dictionary y.0 x.r x.worst.worst)
        by (inr x) (inr y) = lowered_one a.home b.home a.dictionary b.dictionary root other x y
