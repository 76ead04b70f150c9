-- What phase one gives of a polyhedron: the root of its search, and overflows that are due.
use Rattle.std.proofs.Common.{◌≡◌, ◌⊎◌, inl, inr, ⊎_elim, ℕ, pos, List, ◌∷◌, refl, sym, subst, ◌∙◌, arith, map, ◌++◌}
use Rattle.std.specs.Prelude.{◌≤ℤ◌}
use Rattle.std.specs.List.{Contains}
use Rattle.std.proofs.lemmas.Int.{by_lt_z}
use Rattle.poly_num.proofs.Ring.{lin}
use Rattle.poly_num.specs.Vectors.{Vector}
use Rattle.poly_model.specs.declared.kind.Kind.{Kind}
use Rattle.poly_model.specs.declared.kind.Kind.TheVariants.{H, V}
use Rattle.poly_model.specs.declared.overflow.Overflow.{Overflow}
use Rattle.poly_model.specs.Systems.{Polyhedron, cone_of}
use Rattle.poly_model.specs.Cones.{coordinate}
use Rattle.poly_model.specs.Spaces.{Space, IsSpaceOf, equations, cut_space, lifted, main_space}
use Rattle.poly_model.specs.Dictionaries.{Table, IsDictionary}
use Rattle.poly_model.specs.LexOrder.{rows_in}
use Rattle.poly_model.specs.Tree.{IsRowDictionary, IsLexFeasible, Leaves}
use Rattle.poly_model.specs.Lowering.{IsDescent}
use Rattle.poly_model.specs.PhaseOne.{IsLastExchange, lowering_root}
use Rattle.poly_model.specs.Extreme.{IsFeasible}
use Rattle.poly_model.specs.Overflows.{Passes, IsPassing}
use Rattle.poly_model.specs.Due.{IsDue, IsAskedInFirst}
use Rattle.dictionary_laws.proofs.Members.{contains_or}
use Rattle.dictionary_laws.proofs.Narrow.{cobasis_is_narrow}
use Rattle.search_laws.specs.PhaseOne.{HasNoRowZero, MeetsRows}
use Rattle.search_laws.proofs.FeasibleFiles.{main_has_no_row_zero, feasible_files, roots_of_points}
use Rattle.search_laws.proofs.MainStart.{main_start}
use Rattle.search_laws.proofs.StartWithT.{dictionary_with_t}
use Rattle.search_laws.proofs.Lowered.{lowest_in_key}
use Rattle.dictionary.specs.Views.{Dictionary, table_of}
use Rattle.linearity.specs.Prepared.{IsPrepared}
use Rattle.phase_one.specs.Worst.{NoneNegative, IsWorstRow}
use Rattle.phase_one.specs.Beginning.{IsStart, IsAtFirstRoot, StopsBeginning}
use Rattle.phase_one.specs.Ending.{IsOnTheWay, IsEnded, StopsEnding}
use Rattle.phase_one.specs.Found.{IsGivenFrom, IsFound, StopsPhaseOne}

-- ---- in any space
module _ (space : Space) (start : Dictionary) (h : IsStart space start) (r : ℕ) (w : IsWorstRow start r) where
  pub stops_begin : (o : Overflow) → StopsBeginning space start.key r o → StopsPhaseOne space start.key r o
  stops_begin o x = record {
    at = x.at;
    phase = x.phase;
    dictionary = x.dictionary;
    r = r;
    s = 0;
    can = x.can;
    overflow = x.overflow;
    pivot = inl (x.key, refl, refl);
  }

  -- from the first root, which the order is relative to
  module _ (mid : Dictionary) (begun : IsAtFirstRoot space start.key r mid) (root : List ℕ) (same : root ≡ mid.key) where
    root_is : root ≡ lowering_root start.key r
    root_is = same ∙ begun.key

    pub on_the_way : IsOnTheWay space start.key root mid
    on_the_way =
        subst (λ k. IsOnTheWay space start.key k mid) (sym same)
        (record { none = h.none; may = begun.may; reached = begun.reached })

    pub stops_end : (o : Overflow) → StopsEnding space start.key root o → StopsPhaseOne space start.key r o
    stops_end o x = record {
      at = x.at;
      phase = x.phase;
      dictionary = x.dictionary;
      r = x.r;
      s = x.s;
      can = x.can;
      overflow = x.overflow;
      pivot = inr (
        subst (λ k. IsLexFeasible (lifted space start.key) k x.at.key (table_of x.at)) root_is x.feasible,
        subst (λ k. (x.r ≡ 0) ⊎ Leaves (lifted space start.key).labels k x.at.key (table_of x.at) x.s x.r) root_is
            x.row,
      );
    }

    pub given_from : (new : Dictionary) → IsEnded space start.key root new → IsGivenFrom space start.key new
    given_from new x = record {
      phase = x.phase;
      dictionary = x.dictionary;
      given = record {
        home = table_of start;
        dictionary = h.dictionary;
        root_is = inr (record {
          r = r;
          worst = w space h.labels;
          steps = x.steps;
          end = x.end;
          descent = subst (λ k. IsDescent (lifted space start.key) k 0 x.steps k x.end) root_is x.descent;
          table = x.table;
          dictionary = x.end_dictionary;
          lowest = x.lowest;
          last = subst (λ k. (x.end ≡ 0 ∷ new.key)
              ⊎ IsLastExchange (lifted space start.key).labels k x.end x.table (0 ∷ new.key)) root_is x.last;
        });
      };
    }

-- ---- of a polyhedron
width_of_cut : (kind : Kind) (p : Polyhedron) (fixed : List Vector) → kind ≡ H → (cut_space kind p fixed).n ≡ p.n
width_of_cut H p fixed e = refl
width_of_cut V p fixed e = absurd cc

module _ (p : Polyhedron) (lines : List Vector) (free : List ℕ) (d : Dictionary) (x : IsPrepared p lines free d) where
  abbrev main : Space
  main = main_space p free

  none : HasNoRowZero main
  none = main_has_no_row_zero p free

  rows : IsRowDictionary main d.key (table_of d)
  rows =
      let w = main_start p free x.columns x.few x.points d.key x.start in record {
        points = w.1.points;
        ascending = w.1.ascending;
        rows = w.1.rows;
        dictionary = x.dictionary.dictionary;
      }

  -- no constant is negative
  module _ (all : NoneNegative d) where
    not_negative : (i : ℕ) → Contains (rows_in main.labels) i → pos 0 ≤ℤ Table.constant (table_of d) i
    not_negative i l =
        by_lt_z (Table.constant (table_of d) i) (pos 0)
        (λ up. ⊎_elim
        (λ (c : Contains d.key i). let z = (lowest_in_key main d.key (table_of d) rows i c).1 in absurd (omega (arith, lin)))
        (λ (n : Contains d.key i → ⊥).
        absurd (all i (record {
          row = record { row = subst (λ ls. Contains (rows_in ls) i) (sym x.dictionary.labels) l; outside = n };
          negative = up;
        })))
        (contains_or d.key i))
        (λ down. down)

    pub given_at_start : IsGivenFrom main d.key d
    given_at_start = record {
      phase = x.phase;
      dictionary = x.dictionary;
      given = record {
        home = table_of d;
        dictionary = rows;
        root_is = inl (record { dictionary = rows; constants = not_negative }, refl);
      };
    }

  -- some constant is
  module _ (r : ℕ) (w : IsWorstRow d r) where
    is_inequalities : p.kind ≡ H
    is_inequalities = by p.kind refl
      where
        by : (kind : Kind) → p.kind ≡ kind → p.kind ≡ H
        by H e = e
        by V e =
            let f = roots_of_points p free d.key (table_of d) e rows in
            let m = (w main x.dictionary.labels).worst in
            let l = f.constants r m.row.row in
            let n = m.negative in
            absurd (omega (arith, lin))

    pub is_start : IsStart main d
    is_start = record {
      none = none;
      labels = x.dictionary.labels;
      dictionary = rows;
      room =
          let few = cobasis_is_narrow main d.key x.points x.dictionary.dictionary.cobasis in
          let same = width_of_cut p.kind p (map coordinate free ++ equations p) is_inequalities in
          let narrow = x.narrow in
          omega (arith, few, same, narrow);
    }

    pub infeasible : (MeetsRows main → ⊥) → IsFeasible (cone_of p) → ⊥
    infeasible none_meet point = none_meet ((feasible_files p free is_inequalities x.columns x.few).0 point)

    -- a pivot that stops phase one is due
    module _ (o : Overflow) (s : StopsPhaseOne main d.key r o) where
      same_key : o.key ≡ s.at.key
      same_key = s.overflow.key

      abbrev passes : Passes p o
      passes = record {
        space = lifted main d.key;
        is_space = subst (λ f. IsSpaceOf p f (lifted main d.key)) (sym (s.overflow.phase ∙ s.phase))
            (free, d.key, x.columns, x.start, refl);
        point = (dictionary_with_t main d.key none (table_of d) rows).points;
        table = table_of s.at;
        dictionary = subst (λ k. IsDictionary (lifted main d.key) k (table_of s.at)) (sym same_key)
            s.dictionary.dictionary;
        r = s.r;
        s = s.s;
        outside = (
          subst (λ ls. Contains ls s.r) s.dictionary.labels s.can.label,
          λ c. s.can.outside (subst (λ k. Contains k s.r) same_key c),
        );
        inside = subst (λ k. Contains k s.s) (sym same_key) s.can.inside;
        nonzero = s.can.nonzero;
        passing = subst (λ k. IsPassing (lifted main d.key).labels k (table_of s.at) s.r s.s o) (sym same_key)
            (subst (λ ls. IsPassing ls s.at.key (table_of s.at) s.r s.s o) s.dictionary.labels s.overflow.passes);
      }

      pub due : IsDue p o (IsAskedInFirst p o)
      due = record {
        passes = passes;
        asked = record {
          phase = s.overflow.phase ∙ s.phase;
          free = free;
          columns = x.columns;
          start = d.key;
          is_start = x.start;
          home = table_of d;
          dictionary = rows;
          worst = r;
          is_worst = w main x.dictionary.labels;
          pivot = subst (λ k. ((k ≡ 0 ∷ d.key) × (s.r ≡ r) × (s.s ≡ 0))
              ⊎ (IsLexFeasible (lifted main d.key) (lowering_root d.key r) k (table_of s.at)
              × ((s.r ≡ 0)
              ⊎ Leaves (lifted main d.key).labels (lowering_root d.key r) k (table_of s.at) s.s s.r)))
              (sym same_key) s.pivot;
        };
      }

  -- ---- the root
  pub found : (new : Dictionary) → IsGivenFrom main d.key new → IsFound p free new.key new
  found new g = record {
    phase = g.phase;
    key = refl;
    dictionary = g.dictionary;
    search_root = record { free = free; columns = x.columns; start = d.key; is_start = x.start; given = g.given };
  }
