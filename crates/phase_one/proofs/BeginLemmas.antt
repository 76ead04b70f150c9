-- The first exchange: with t the start cobasis is one of the space with t, and the worst row in its place makes it a root.
use Rattle.std.proofs.Common.{◌≡◌, ℕ, List, ◌∷◌, refl, sym, ap, subst, ◌∙◌}
use Rattle.std.specs.List.{Contains}
use Rattle.poly_model.specs.declared.overflow.Overflow.{Overflow}
use Rattle.poly_model.specs.Keys.{IsAscending}
use Rattle.poly_model.specs.Spaces.{Space, lifted}
use Rattle.poly_model.specs.Dictionaries.{IsDictionary}
use Rattle.poly_model.specs.Tree.{IsRowDictionary, IsFeasibleRoot, exchanged_key}
use Rattle.poly_model.specs.PhaseOne.{IsFirstWorst, lowering_root}
use Rattle.linear_laws.proofs.Members.{Contains-first}
use Rattle.dictionary_laws.specs.WithT.{with_t}
use Rattle.dictionary_laws.specs.Keys.{Exchanges}
use Rattle.dictionary_laws.specs.Numbers.{Agree}
use Rattle.dictionary_laws.proofs.SameLabels.{agreeing_dictionary}
use Rattle.tree_laws.proofs.ExchangedKeys.{exchanges, ascending_exchanged}
use Rattle.tree_laws.proofs.OrderLemmas.{row_only}
use Rattle.tree_laws.proofs.Roots.{root_is_feasible}
use Rattle.search_laws.specs.PhaseOne.{GivesRoot}
use Rattle.search_laws.proofs.StartWithT.{dictionary_with_t}
use Rattle.search_laws.proofs.FirstRoots.{comes_in, t_goes, first_root}
use Rattle.dictionary.specs.FirstPhase.{HasRoomForT, AddsT}
use Rattle.dictionary.specs.Views.{Dictionary, table_of, CanPivot, IsDictionaryIn, IsPivot, IsOverflow}
use Rattle.phase_one.specs.Worst.{IsWorstRow}
use Rattle.phase_one.specs.Beginning.{IsStart, IsAtFirstRoot, StopsBeginning}
use Rattle.lex_pivot.proofs.PivotLemmas.{same_exchange}

-- a root that a law gives is feasible by any dictionary of its key
pub root_by_dictionary : (space : Space) (key : List ℕ) (d : Dictionary) → GivesRoot space key → d.key ≡ key →
    IsDictionaryIn space d → IsFeasibleRoot space d.key (table_of d)
root_by_dictionary space key d g e is =
    subst (λ k. IsFeasibleRoot space k (table_of d)) (sym e)
    (g.feasible (table_of d) (record {
      points = g.some.1.points;
      ascending = g.some.1.ascending;
      rows = g.some.1.rows;
      dictionary = subst (λ k. IsDictionary space k (table_of d)) e is.dictionary;
    }))

module _ (space : Space) (start : Dictionary) (h : IsStart space start) where
  abbrev first : Space
  first = lifted space start.key

  abbrev key : List ℕ
  key = 0 ∷ start.key

  pub has_room : HasRoomForT start
  has_room = record { none = λ c. h.none (subst (λ ls. Contains ls 0) h.labels c); room = h.room }

  rows_with_t : IsRowDictionary first key (with_t start.key (table_of start))
  rows_with_t = dictionary_with_t space start.key h.none (table_of start) h.dictionary

  module _ (d : Dictionary) (adds : AddsT start d) where
    pub labels_are : d.labels ≡ first.labels
    labels_are = adds.labels ∙ ap (λ ls. 0 ∷ ls) h.labels

    agrees : Agree first key (with_t start.key (table_of start)) (table_of d)
    agrees = adds.numbers space h.labels

    pub is_in : IsDictionaryIn first d
    is_in = record {
      labels = labels_are;
      dictionary = subst (λ k. IsDictionary first k (table_of d)) (sym adds.key)
          (agreeing_dictionary first key (with_t start.key (table_of start)) (table_of d) rows_with_t.dictionary agrees);
    }

    module _ (r : ℕ) (w : IsWorstRow start r) where
      worst : IsFirstWorst space start.key (table_of start) r
      worst = w space h.labels

      label : Contains first.labels r
      label = (row_only first r (comes_in space start.key (table_of start) h.none h.dictionary r worst.worst).row).0

      pub can : CanPivot d r 0
      can = record {
        label = subst (λ ls. Contains ls r) (sym labels_are) label;
        outside = λ c. (comes_in space start.key (table_of start) h.none h.dictionary r worst.worst).outside
            (subst (λ k. Contains k r) adds.key c);
        inside = subst (λ k. Contains k 0) (sym adds.key) (Contains-first 0 start.key);
        nonzero = λ e. t_goes space start.key (table_of start) h.none h.dictionary r worst.worst
            (agrees.entries r 0 label (Contains-first 0 start.key) ∙ e);
      }

      pub stops : (o : Overflow) → IsOverflow d r 0 o →
          StopsBeginning space start.key r o
      stops o p = record { at = d; phase = adds.phase; dictionary = is_in; key = adds.key; can = can; overflow = p }

      module _ (up : IsAscending d.labels) (new : Dictionary) (pivot : IsPivot d r 0 new) where
        key_is : new.key ≡ lowering_root start.key r
        key_is =
            let out = (comes_in space start.key (table_of start) h.none h.dictionary r worst.worst).outside in
            same_exchange key new.key (exchanged_key key 0 r) r 0
            (subst (λ k. Exchanges k new.key r 0) adds.key pivot.key.exchanges)
            (exchanges key 0 r rows_with_t.ascending out) pivot.key.is_key.ascending
            (ascending_exchanged key 0 r rows_with_t.ascending)

        new_in : IsDictionaryIn first new
        new_in = pivot.dictionary first rows_with_t.points is_in

        feasible : IsFeasibleRoot first new.key (table_of new)
        feasible =
            root_by_dictionary first (lowering_root start.key r) new
            (first_root space start.key (table_of start) h.none h.dictionary r worst.worst) key_is new_in

        pub begun : IsAtFirstRoot space start.key r new
        begun = record {
          key = key_is;
          may = record {
            ascending = subst IsAscending labels_are up;
            t = Contains-first 0 space.labels;
            home = table_of new;
            feasible = feasible;
          };
          reached = record {
            phase = pivot.phase ∙ adds.phase;
            labels = new_in.labels;
            feasible = root_is_feasible first new.key (table_of new) feasible;
            steps = 0;
            descent = refl;
          };
        }
