-- The worst row so far, and that of all rows.
use Rattle.std.proofs.Common.{◌≡◌, inl, inr, ℕ, ◌<◌, ◌≤◌, ℤ, pos, ◌<ℤ◌, refl, sym, subst, arith, Option, Some, None}
use Rattle.std.specs.Prelude.{◌≤ℤ◌}
use Rattle.std.specs.List.{Contains}
use Rattle.std.specs.Option.{MatchOption}
use Rattle.std.proofs.lemmas.Int.{by_lt_z}
use Rattle.poly_num.proofs.Ring.{lin}
use Rattle.poly_model.specs.Spaces.{Space}
use Rattle.poly_model.specs.Dictionaries.{Table}
use Rattle.poly_model.specs.Tree.{IsRowOutside}
use Rattle.poly_model.specs.PhaseOne.{IsWorst, IsFirstWorst}
use Rattle.tree_laws.proofs.OrderLemmas.{row_only}
use Rattle.dictionary.specs.Views.{Dictionary, table_of}
use Rattle.lex_pivot.proofs.EarlierLemmas.{row_only as label_of}
use Rattle.phase_one.specs.SoFar.{IsLeastAsked, NoneOf, IsLeastSoFar}
use Rattle.phase_one.specs.Worst.{IsNegativeRow, NoneNegative, IsWorstRow, IsWorse}

module _ (d : Dictionary) where
  abbrev constant : ℕ → ℤ
  constant i = Table.constant (table_of d) i

  pub itself : (i : ℕ) → IsWorse d i i
  itself i = inr (refl, omega arith)

  -- a row with a lesser constant is worse than all that come after the other
  pub worse_through : (x r i : ℕ) → constant x <ℤ constant r → IsWorse d r i → IsWorse d x i
  worse_through x r i l (inl m) = inl (omega (arith, lin))
  worse_through x r i l (inr (e, m)) = inl (omega (arith, lin))

  -- a later row with a constant that is not less is not worse
  pub worse_than : (r x : ℕ) → r < x → (constant x <ℤ constant r → ⊥) → IsWorse d r x
  worse_than r x l n =
      by_lt_z (constant r) (constant x) (λ up. inl up)
      (λ down. inr (equal (constant r) (constant x) down n, omega arith))
    where
      equal : (a b : ℤ) → b ≤ℤ a → (b <ℤ a → ⊥) → a ≡ b
      equal a b h m = by_lt_z b a (λ less. absurd (m less)) (λ more. omega (arith, lin))

  -- ---- all rows
  pub none_negative : NoneOf (IsNegativeRow d) d.labels → NoneNegative d
  none_negative h i n = h i (label_of d.labels i n.row.row).0 n

  module _ (r : ℕ) (h : IsLeastAsked (IsNegativeRow d) (IsWorse d) d.labels r) (space : Space) (e : d.labels ≡ space.labels) where
    here : (i : ℕ) → IsRowOutside space.labels d.key i → IsRowOutside d.labels d.key i
    here i o = subst (λ ls. IsRowOutside ls d.key i) (sym e) o

    asked : (i : ℕ) → IsRowOutside space.labels d.key i → constant i <ℤ pos 0 → IsWorse d r i
    asked i o l =
        let n : IsNegativeRow d i = record { row = here i o; negative = l } in
        h.least i (subst (λ ls. Contains ls i) (sym e) (row_only space i o.row).0) n

    no_greater : (i : ℕ) → IsWorse d r i → constant r ≤ℤ constant i
    no_greater i (inl l) = omega (arith, lin)
    no_greater i (inr (f, l)) = omega (arith, lin)

    least : (i : ℕ) → IsRowOutside space.labels d.key i → constant r ≤ℤ constant i
    least i o =
        by_lt_z (constant i) (pos 0) (λ up. no_greater i (asked i o up))
        (λ down. let n = h.asked.negative in omega (arith, lin))

    is_worst : IsWorst space d.key (table_of d) r
    is_worst = record {
      row = subst (λ ls. IsRowOutside ls d.key r) e h.asked.row;
      negative = h.asked.negative;
      least = least;
    }

    first : (i : ℕ) → IsWorst space d.key (table_of d) i → IsWorse d r i → r ≤ i
    first i w (inl l) = let m = w.least r is_worst.row in absurd (omega (arith, lin))
    first i w (inr (f, l)) = l

    pub first_worst_row : IsFirstWorst space d.key (table_of d) r
    first_worst_row = record { worst = is_worst; first = λ i w. first i w (asked i w.row w.negative) }

  pub worst_of_all : (worst : Option ℕ) → IsLeastSoFar (IsNegativeRow d) (IsWorse d) d.labels worst →
      MatchOption worst (NoneNegative d) (λ r. IsWorstRow d r)
  worst_of_all None h = none_negative h
  worst_of_all (Some r) h = λ space e. first_worst_row r h space e
