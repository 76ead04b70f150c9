-- One step that lowers t: some row leaves, what follows is reached, and one step less is left.
use Rattle.std.proofs.Common.{◌≡◌, ◌⊎◌, ⊎_elim, ℕ, zero, suc, ◌<◌, ℤ, pos, List, refl, sym, subst, ◌∙◌, arith}
use Rattle.std.specs.Prelude.{◌<ℤ◌}
use Rattle.std.specs.List.{All, Contains}
use Rattle.std.proofs.lemmas.Bool.{cases_eq}
use Rattle.std.proofs.lemmas.Int.{by_lt_z}
use Rattle.poly_num.proofs.Ring.{lin}
use Rattle.poly_model.specs.Spaces.{Space}
use Rattle.poly_model.specs.Dictionaries.{Table, IsDictionary}
use Rattle.poly_model.specs.LexOrder.{rows_in, IsEarlier}
use Rattle.poly_model.specs.Tree.{IsRowDictionary, Leaves, IsNeighbour, exchanged_key}
use Rattle.poly_model.specs.Lowering.{IsLoweringStep, IsLowest, IsDescent}
use Rattle.linear_laws.specs.Distinct.{AreDistinct}
use Rattle.dictionary_laws.proofs.Members.{contains_or}
use Rattle.tree_laws.proofs.ExchangedKeys.{exchanges, ascending_exchanged}
use Rattle.tree_laws.proofs.Neighbours.{neighbour_dictionary, neighbour_feasible}
use Rattle.search_laws.specs.Lowering.{HasEnd}
use Rattle.search_laws.proofs.Lowered.{lowest_too}
use Rattle.search_laws.proofs.LoweredEnds.{steps_end, one_end}
use Rattle.dictionary.specs.Views.{Dictionary, table_of, IsDictionaryIn}
use Rattle.dictionary.specs.Cobases.{HasUnits}
use Rattle.lex_pivot.specs.Ratios.{NoneLeaves}
use Rattle.lex_pivot.proofs.PivotLemmas.{same_exchange}
use Rattle.lex_pivot.proofs.EarlierLemmas.{row_has, rows_distinct}
use Rattle.phase_one.specs.declared.least.Sought.TheVariants.{Negative}
use Rattle.phase_one.specs.SoFar.{NoneOf}
use Rattle.phase_one.specs.Columns.{HasSought, IsLeastAmong}
use Rattle.phase_one.specs.Lowering.{MayLower, IsOnDescent, IsStep}

-- ---- one dictionary
-- where t is negative in a column, some row leaves there
pub t_leaves : (d : Dictionary) → HasUnits d → pos 0 <ℤ d.denominator → (s : ℕ) → Contains d.labels 0 → Contains d.key s →
    Table.entry (table_of d) 0 s <ℤ pos 0 → NoneLeaves d s → ⊥
t_leaves d units positive s t c l none =
    ⊎_elim
    (λ (m : Contains d.key 0). ⊎_elim
    (λ (e : 0 ≡ s). own (Table.entry (table_of d) 0 s)
    (subst (λ q. Table.entry (table_of d) q s ≡ d.denominator) (sym e) (units.own s c)) l)
    (λ (n : 0 ≡ s → ⊥). other (Table.entry (table_of d) 0 s) (units.other 0 s m c n) l)
    (cases_eq 0 s))
    (λ (n : Contains d.key 0 → ⊥).
    let z = none 0 (record { row = row_has d.labels 0 t refl; outside = n }) in omega (arith, lin))
    (contains_or d.key 0)
  where
    own : (x : ℤ) → x ≡ d.denominator → x <ℤ pos 0 → ⊥
    own x e h = omega (arith, lin)

    other : (x : ℤ) → x ≡ pos 0 → x <ℤ pos 0 → ⊥
    other x e h = omega (arith, lin)

-- where t is negative in no column, it is lowest
pub none_left : (d : Dictionary) → NoneOf (HasSought d Negative) d.key → IsLowest d.key (table_of d) 0
none_left d none s c =
    by_lt_z (Table.entry (table_of d) 0 s) (pos 0) (λ up. absurd (none s c up)) (λ down. down)

-- a descent with one step more at its end
pub descent_more : (space : Space) (root : List ℕ) (q n : ℕ) (key mid new : List ℕ) (t : Table) →
    IsDescent space root q n key mid → IsDictionary space mid t → IsLoweringStep space.labels root q mid t new →
    IsDescent space root q (suc n) key new
descent_more space root q zero key mid new t e d x =
    subst (λ k. IsDescent space root q 1 k new) (sym e) (t, d, new, x, refl)
descent_more space root q (suc n) key mid new t (u, d, next, y, rest) e x =
    (u, d, next, y, descent_more space root q n next mid new t rest e x)

-- ---- in a space in which t may be lowered
module _ (first : Space) (root : List ℕ) (may : MayLower first root) (d : Dictionary) (x : IsOnDescent first root d) where
  home_is : IsRowDictionary first root may.home
  home_is = may.feasible.dictionary

  pub t_is_row : Contains (rows_in first.labels) 0
  t_is_row = row_has first.labels 0 may.t refl

  distinct : AreDistinct (rows_in first.labels)
  distinct = rows_distinct first.labels root may.ascending

  pub t_there : Contains d.labels 0
  t_there = subst (λ ls. Contains ls 0) (sym x.labels) may.t

  pub of_rows : All (Contains (rows_in d.labels)) d.key
  of_rows = subst (λ ls. All (Contains (rows_in ls)) d.key) (sym x.labels) x.feasible.dictionary.rows

  -- the steps from here end
  pub some_end : HasEnd first root 0 d.key
  some_end =
      steps_end first root may.home home_is 0 t_is_row
      (record { key = d.key; table = table_of d; feasible = x.feasible })

  -- where t is negative in a column, there is a step before the end
  pub some_step_left : (s : ℕ) → Contains d.key s → Table.entry (table_of d) 0 s <ℤ pos 0 →
      (e : HasEnd first root 0 d.key) → 0 < e.steps
  some_step_left s c l e = by e.steps e.descent
    where
      at_end : d.key ≡ e.end → ⊥
      at_end same =
          let back : IsRowDictionary first d.key e.table =
          subst (λ k. IsRowDictionary first k e.table) (sym same) e.feasible.dictionary in
          let z = lowest_too first root d.key e.table back 0 t_is_row (table_of d) x.feasible.dictionary
          (subst (λ k. IsLowest k e.table 0) (sym same) e.lowest) s c in
          omega (arith, lin)

      by : (n : ℕ) → IsDescent first root 0 n d.key e.end → 0 < n
      by zero same = absurd (at_end same)
      by (suc n) h = omega arith

  module _ (s : ℕ) (least : IsLeastAmong d root Negative d.key s) (new : Dictionary) (step : IsStep d root s new) where
    leaves : Leaves first.labels root d.key (table_of d) s step.r
    leaves = subst (λ ls. Leaves ls root d.key (table_of d) s step.r) x.labels step.leaves

    key_is : new.key ≡ exchanged_key d.key s step.r
    key_is =
        let up = exchanges d.key s step.r x.feasible.dictionary.ascending leaves.row.outside in
        same_exchange d.key new.key (exchanged_key d.key s step.r) step.r s step.pivot.key.exchanges up
        step.pivot.key.is_key.ascending (ascending_exchanged d.key s step.r x.feasible.dictionary.ascending)

    neighbour : IsNeighbour first.labels root d.key (table_of d) s new.key
    neighbour = record { column = least.member; r = step.r; leaves = leaves; exchange = key_is }

    pub is_step : IsLoweringStep first.labels root 0 d.key (table_of d) new.key
    is_step = record {
      s = s;
      lowers = record {
        column = least.member;
        negative = least.asked;
        least = λ k c l. subst (λ ls. (k ≡ s) ⊎ IsEarlier ls root s k) x.labels (least.least k c l);
      };
      neighbour = neighbour;
    }

    dictionary_in : IsDictionaryIn first new
    dictionary_in =
        step.pivot.dictionary first x.feasible.dictionary.points
        (record { labels = x.labels; dictionary = x.feasible.dictionary.dictionary })

    rows_of_new : IsRowDictionary first new.key (table_of new)
    rows_of_new =
        let w = neighbour_dictionary first root d.key (table_of d) s new.key x.feasible.dictionary neighbour in record {
          points = w.1.points;
          ascending = w.1.ascending;
          rows = w.1.rows;
          dictionary = dictionary_in.dictionary;
        }

    pub reached_next : IsOnDescent first root new
    reached_next = record {
      phase = step.pivot.phase ∙ x.phase;
      labels = step.pivot.labels ∙ x.labels;
      feasible = neighbour_feasible first root d.key (table_of d) s new.key may.home (table_of new) home_is x.feasible
          neighbour rows_of_new;
      steps = suc x.steps;
      descent = descent_more first root 0 x.steps root d.key new.key (table_of d) x.descent
          x.feasible.dictionary.dictionary is_step;
    }

    -- what is left is one step less
    pub one_less : (e : HasEnd first root 0 d.key) (f : HasEnd first root 0 new.key) → suc f.steps ≡ e.steps
    one_less e f =
        (one_end first root may.home home_is 0 t_is_row distinct e.steps (suc f.steps) d.key e.end f.end (table_of d)
        e.table f.table x.feasible e.feasible.dictionary.dictionary e.lowest e.descent f.feasible.dictionary.dictionary
        f.lowest (table_of d, x.feasible.dictionary.dictionary, new.key, is_step, f.descent)).0
