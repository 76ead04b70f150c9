-- The end: what is left of a lowered cobasis without t, or of the last exchange, is the root.
use Rattle.std.proofs.Common.{◌≡◌, ◌⊎◌, inl, inr, ℕ, pos, List, ◌∷◌, refl, sym, ap, subst, ◌∙◌, arith}
use Rattle.std.specs.Prelude.{◌<ℤ◌}
use Rattle.std.specs.List.{Contains}
use Rattle.std.proofs.lemmas.Int.{by_lt_z}
use Rattle.poly_num.proofs.Ring.{lin}
use Rattle.poly_model.specs.declared.overflow.Overflow.{Overflow}
use Rattle.poly_model.specs.declared.overflow.Phase.TheVariants.{Main}
use Rattle.poly_model.specs.Spaces.{Space, lifted}
use Rattle.poly_model.specs.Dictionaries.{Table}
use Rattle.poly_model.specs.LexOrder.{IsEarlier}
use Rattle.poly_model.specs.Tree.{IsLexFeasible, IsFeasibleRoot, Leaves, exchanged_key}
use Rattle.poly_model.specs.PhaseOne.{IsLastExchange}
use Rattle.tree_laws.proofs.ExchangedKeys.{exchanges, ascending_exchanged}
use Rattle.tree_laws.proofs.PointTest.{constants_are_not_negative}
use Rattle.search_laws.specs.PhaseOne.{MeetsRows, GivesRoot}
use Rattle.search_laws.specs.PhaseEnds.{IsWithT}
use Rattle.search_laws.proofs.GivenRoots.{t_is_row}
use Rattle.search_laws.proofs.PhaseEnds.{none_meets_rows, some_column, exchange_at_zero}
use Rattle.search_laws.proofs.WithoutT.{root_without_t}
use Rattle.dictionary.specs.FirstPhase.{DropsT}
use Rattle.dictionary.specs.Views.{Dictionary, table_of, CanPivot, IsDictionaryIn}
use Rattle.phase_one.specs.declared.least.Sought.TheVariants.{Nonzero}
use Rattle.phase_one.specs.SoFar.{NoneOf}
use Rattle.phase_one.specs.Columns.{HasSought, IsLeastAmong}
use Rattle.phase_one.specs.Lowering.{IsAtLowest, StopsLowering}
use Rattle.phase_one.specs.Ending.{IsOnTheWay, IsEnded, StopsEnding, HasTOutside, IsBroughtBack, StopsComingBack}
use Rattle.lex_pivot.proofs.PivotLemmas.{same_exchange, can_leave}
use Rattle.phase_one.proofs.BeginLemmas.{root_by_dictionary}

-- ---- the last exchange
-- the column of t that is sought can be exchanged for t
pub can_come_back : (d : Dictionary) (root : List ℕ) (s : ℕ) → Contains d.labels 0 → (Contains d.key 0 → ⊥) →
    IsLeastAmong d root Nonzero d.key s → CanPivot d 0 s
can_come_back d root s t out c = record { label = t; outside = out; inside = c.member; nonzero = c.asked }

-- in some column t is not 0
pub some_nonzero : (space : Space) (start : List ℕ) (d : Dictionary) → HasTOutside space start d →
    NoneOf (HasSought d Nonzero) d.key → ⊥
some_nonzero space start d x none =
    let w = some_column space start d.key (table_of d) x.dictionary in none w.0 w.1 w.2

module _ (space : Space) (start root : List ℕ) (begun : Dictionary) (way : IsOnTheWay space start root begun) where
  abbrev first : Space
  first = lifted space start

  -- ---- overflows
  pub stops_lowering : (o : Overflow) → StopsLowering first root o → StopsEnding space start root o
  stops_lowering o x = record {
    at = x.at;
    phase = x.reached.phase;
    dictionary = record { labels = x.reached.labels; dictionary = x.reached.feasible.dictionary.dictionary };
    feasible = x.reached.feasible;
    r = x.stops.r;
    s = x.s;
    can = can_leave x.at root x.s x.stops.r x.stops.column x.stops.leaves;
    overflow = x.stops.overflow;
    row = inr (subst (λ ls. Leaves ls root x.at.key (table_of x.at) x.s x.stops.r) x.reached.labels x.stops.leaves);
  }

  -- ---- without t
  -- the dictionary of a feasible root of the space with t, without t
  module _ (d new : Dictionary) (is : IsDictionaryIn first d) (feasible : IsFeasibleRoot first d.key (table_of d))
      (t : Contains d.key 0) (drops : DropsT d new) where
    with_t : IsWithT space d.key (table_of d)
    with_t = root_without_t space start d.key (table_of d) way.none feasible t

    dropped : (new.key ≡ with_t.rest) × IsDictionaryIn space new
    dropped =
        drops.drops space with_t.rest with_t.root.some.1.points is.labels with_t.first
        with_t.root.some.1.dictionary.cobasis with_t.writes

    pub key_is : d.key ≡ 0 ∷ new.key
    key_is = with_t.first ∙ ap (λ ks. 0 ∷ ks) (sym dropped.0)

    pub new_in : IsDictionaryIn space new
    new_in = dropped.1

  -- ---- where t is lowest
  module _ (d : Dictionary) (low : IsAtLowest first root d) where
    f : IsLexFeasible first root d.key (table_of d)
    f = low.reached.feasible

    is : IsDictionaryIn first d
    is = record { labels = low.reached.labels; dictionary = f.dictionary.dictionary }

    feasible : IsFeasibleRoot first d.key (table_of d)
    feasible = constants_are_not_negative first root d.key (table_of d) f

    pub t_there : Contains d.labels 0
    t_there = subst (λ ls. Contains ls 0) (sym low.reached.labels) way.may.t

    pub outside : (Contains d.key 0 → ⊥) → HasTOutside space start d
    outside n = record { labels = low.reached.labels; dictionary = f.dictionary; outside = n }

    pub none_meets : pos 0 <ℤ Table.constant (table_of d) 0 → MeetsRows space → ⊥
    none_meets up = none_meets_rows space start d.key (table_of d) way.none f.dictionary low.lowest up

    ended : (new : Dictionary) → new.phase ≡ Main → IsDictionaryIn space new →
        (d.key ≡ 0 ∷ new.key) ⊎ IsLastExchange first.labels root d.key (table_of d) (0 ∷ new.key) → IsEnded space start root new
    ended new phase there last = record {
      phase = phase;
      dictionary = there;
      steps = low.reached.steps;
      end = d.key;
      descent = low.reached.descent;
      table = table_of d;
      end_dictionary = f.dictionary.dictionary;
      lowest = low.lowest;
      last = last;
    }

    -- t is in the cobasis
    pub ended_inside : Contains d.key 0 → (new : Dictionary) → DropsT d new → IsEnded space start root new
    ended_inside t new drops =
        ended new drops.phase (new_in d new is feasible t drops) (inl (key_is d new is feasible t drops))

    -- t is 0, and comes back
    module _ (n : Contains d.key 0 → ⊥) (down : pos 0 <ℤ Table.constant (table_of d) 0 → ⊥) where
      zero : Table.constant (table_of d) 0 ≡ pos 0
      zero =
          let l = feasible.constants 0 (t_is_row space start way.none) in
          by_lt_z (pos 0) (Table.constant (table_of d) 0) (λ up. absurd (down up)) (λ less. omega (arith, lin))

      pub stops_coming_back : (o : Overflow) → StopsComingBack d o → StopsEnding space start root o
      stops_coming_back o x = record {
        at = d;
        phase = low.reached.phase;
        dictionary = is;
        feasible = f;
        r = 0;
        s = x.s;
        can = x.can;
        overflow = x.overflow;
        row = inl refl;
      }

      module _ (back new : Dictionary) (x : IsBroughtBack d root back) (drops : DropsT back new) where
        gives : GivesRoot first (exchanged_key d.key x.s 0)
        gives =
            exchange_at_zero first d.key (table_of d) feasible 0 x.s
            (record { row = t_is_row space start way.none; outside = n }) zero x.column.member x.column.asked

        back_key : back.key ≡ exchanged_key d.key x.s 0
        back_key =
            same_exchange d.key back.key (exchanged_key d.key x.s 0) 0 x.s x.pivot.key.exchanges
            (exchanges d.key x.s 0 f.dictionary.ascending n) x.pivot.key.is_key.ascending
            (ascending_exchanged d.key x.s 0 f.dictionary.ascending)

        back_in : IsDictionaryIn first back
        back_in = x.pivot.dictionary first f.dictionary.points is

        back_feasible : IsFeasibleRoot first back.key (table_of back)
        back_feasible = root_by_dictionary first (exchanged_key d.key x.s 0) back gives back_key back_in

        t_back : Contains back.key 0
        t_back = x.pivot.key.exchanges.entering

        last : IsLastExchange first.labels root d.key (table_of d) (0 ∷ new.key)
        last = record {
          outside = n;
          constant = zero;
          s = x.s;
          column = record {
            column = x.column.member;
            nonzero = x.column.asked;
            least = λ k c m.
                subst (λ ls. (k ≡ x.s) ⊎ IsEarlier ls root x.s k) low.reached.labels (x.column.least k c m);
          };
          exchange = sym (key_is back new back_in back_feasible t_back drops) ∙ back_key;
        }

        pub ended_back : IsEnded space start root new
        ended_back = ended new drops.phase (new_in back new back_in back_feasible t_back drops) (inr last)
