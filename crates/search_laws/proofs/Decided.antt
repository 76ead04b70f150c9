-- Phase one decides: from a start cobasis it gives a root, or no vector meets all rows.
use Rattle.std.proofs.Common.{◌≡◌, ◌≢◌, ◌⊎◌, ◌↔◌, inl, inr, ⊎_elim, ◌≤◌, ℕ, Bool, true, false, List, [], ◌∷◌, ℤ, pos, refl, sym, subst, arith}
use Rattle.std.specs.Prelude.{◌<ℤ◌, ◌≤ℤ◌, None, nat_lt}
use Rattle.std.specs.List.{Contains}
use Rattle.std.proofs.lemmas.Bool.{ltb-true, ltb-false}
use Rattle.std.proofs.lemmas.Int.{by_lt_z}
use Rattle.std.proofs.lemmas.List.Elements.{All-contains}
use Rattle.poly_num.proofs.Ring.{lin}
use Rattle.poly_model.specs.Spaces.{Space, lifted}
use Rattle.poly_model.specs.Dictionaries.{Table}
use Rattle.poly_model.specs.LexOrder.{rows_in, outside, order}
use Rattle.poly_model.specs.Tree.{IsRowDictionary, IsRowOutside, IsFeasibleRoot, exchanged_key}
use Rattle.poly_model.specs.PhaseOne.{IsWorst, IsFirstWorst, lowering_root, IsLastColumn, IsLastExchange, GivesByPhaseOne}
use Rattle.linear_laws.proofs.Members.{Contains-nil, Contains-first, Contains-later}
use Rattle.linear_laws.proofs.Signs.{zero_or, not_both, nonnegative_zero}
use Rattle.dictionary_laws.proofs.Members.{contains_or, contains_cases}
use Rattle.dictionary_laws.specs.Keys.{Exchanges}
use Rattle.search_laws.specs.Lowering.{HasEnd}
use Rattle.search_laws.specs.PhaseOne.{HasNoRowZero, MeetsRows, GivesRoot}
use Rattle.search_laws.specs.PhaseEnds.{HasRoot, IsWithT, IsDecided}
use Rattle.tree_laws.proofs.LexLemmas.{by_sign}
use Rattle.tree_laws.proofs.FirstMembers.{IsFirst, first_with}
use Rattle.tree_laws.proofs.OrderLemmas.{row_outside, is_row_outside, order_has}
use Rattle.tree_laws.proofs.Levels.{own_level}
use Rattle.tree_laws.proofs.ExchangedKeys.{exchanges}
use Rattle.tree_laws.proofs.Roots.{root_is_feasible}
use Rattle.tree_laws.proofs.PointTest.{constants_are_not_negative}
use Rattle.search_laws.proofs.KeyPoints.{point_of_root}
use Rattle.search_laws.proofs.LoweredEnds.{steps_end}
use Rattle.search_laws.proofs.PhaseEnds.{none_meets_rows, some_column, exchange_at_zero}
use Rattle.search_laws.proofs.WithoutT.{root_without_t}
use Rattle.search_laws.proofs.GivenRoots.{t_is_row, first_home, given_feasible}

-- ---- the least of some numbers, and of equal ones that of the least label
abbrev ComesFirst : (ℕ → ℤ) → ℕ → ℕ → Type 0
ComesFirst c r i = (c r <ℤ c i) ⊎ ((c r ≡ c i) × (r ≤ i))

either_first : (c : ℕ → ℤ) (r i : ℕ) → ComesFirst c r i ⊎ ComesFirst c i r
either_first c r i =
    by_lt_z (c r) (c i) (λ less. inl (inl less))
    (λ more. by_lt_z (c i) (c r) (λ less. inr (inl less)) (λ most. by (nat_lt r i) refl (same (c r) (c i) more most)))
  where
    same : (a b : ℤ) → b ≤ℤ a → a ≤ℤ b → a ≡ b
    same a b h g = omega (arith, lin)

    by : (b : Bool) → nat_lt r i ≡ b → c r ≡ c i → ComesFirst c r i ⊎ ComesFirst c i r
    by true l e = let h = ltb-true r i l in inl (inr (e, omega (arith, h)))
    by false l e = let h = ltb-false r i l in inr (inr (sym e, omega (arith, h)))

first_twice : (c : ℕ → ℤ) (r j i : ℕ) → ComesFirst c r j → ComesFirst c j i → ComesFirst c r i
first_twice c r j i (inl a) (inl b) = inl (less (c r) (c j) (c i) a b)
  where
    less : (x y z : ℤ) → x <ℤ y → y <ℤ z → x <ℤ z
    less x y z a b = omega (arith, lin)
first_twice c r j i (inl a) (inr (e, b)) = inl (subst (λ (x : ℤ). c r <ℤ x) e a)
first_twice c r j i (inr (e, a)) (inl b) = inl (subst (λ (x : ℤ). x <ℤ c i) (sym e) b)
first_twice c r j i (inr (e, a)) (inr (f, b)) = inr (both (c r) (c j) (c i) e f, omega (arith, a, b))
  where
    both : (x y z : ℤ) → x ≡ y → y ≡ z → x ≡ z
    both x y z e f = cc

-- of these labels r comes first
record StandsFirst (c : ℕ → ℤ) (ks : List ℕ) (r : ℕ) : Type 0 where
  member : Contains ks r
  first : (i : ℕ) → Contains ks i → ComesFirst c r i

itself_first : (c : ℕ → ℤ) (r i : ℕ) → i ≡ r → ComesFirst c r i
itself_first c r i e = subst (ComesFirst c r) (sym e) (inr (refl, omega arith))

first_in : (c : ℕ → ℤ) (k : ℕ) (ks : List ℕ) → (r : ℕ) × StandsFirst c (k ∷ ks) r
first_in c k [] = (
  k,
  record {
    member = Contains-first k [];
    first = λ i m. ⊎_elim (itself_first c k i) (λ (n : Contains [] i). absurd (Contains-nil i n))
        (contains_cases k [] i m);
  },
)
first_in c k (j ∷ js) = by (first_in c j js)
  where
    by : (r : ℕ) × StandsFirst c (j ∷ js) r → (r : ℕ) × StandsFirst c (k ∷ j ∷ js) r
    by (r, w) =
        ⊎_elim
        (λ (f : ComesFirst c k r). (
          k,
          record {
            member = Contains-first k (j ∷ js);
            first = λ i n. ⊎_elim (itself_first c k i)
                (λ (d : Contains (j ∷ js) i). first_twice c k r i f (w.first i d)) (contains_cases k (j ∷ js) i n);
          },
        ))
        (λ (f : ComesFirst c r k). (
          r,
          record {
            member = Contains-later r k (j ∷ js) w.member;
            first = λ i n. ⊎_elim (λ (e : i ≡ k). subst (ComesFirst c r) (sym e) f) (w.first i)
                (contains_cases k (j ∷ js) i n);
          },
        ))
        (either_first c k r)

-- ---- the least column in which row 0 is not 0
module _ (space : Space) (root key : List ℕ) (t : Table) (d : IsRowDictionary space key t) where
  IsColumn : ℕ → Type 0
  IsColumn k = Contains key k × (t.entry 0 k ≢ pos 0)

  column_or_not : (k : ℕ) → IsColumn k ⊎ (IsColumn k → ⊥)
  unfolding IsColumn
  column_or_not k =
      ⊎_elim
      (λ (c : Contains key k). ⊎_elim (λ (e : t.entry 0 k ≡ pos 0). inr (λ m. m.1 e))
      (λ (n : t.entry 0 k ≢ pos 0). inl (c, n)) (zero_or (t.entry 0 k)))
      (λ (o : Contains key k → ⊥). inr (λ m. o m.0))
      (contains_or key k)

  last_column : (k : ℕ) × Contains key k × (t.entry 0 k ≢ pos 0) →
      (s : ℕ) × IsLastColumn space.labels root key t s
  unfolding IsColumn
  last_column some =
      ⊎_elim
      (λ (none : (k : ℕ) → Contains (order space.labels root) k → IsColumn k → ⊥).
      absurd (none some.0 (here some.0 some.1) (some.1, some.2)))
      (λ (w : (s : ℕ) × IsFirst IsColumn (order space.labels root) s). (
        w.0,
        record {
          column = w.1.has.0;
          nonzero = w.1.has.1;
          least = λ k c m. w.1.first k (here k c) (c, m);
        },
      ))
      (first_with IsColumn (order space.labels root) (λ k _. column_or_not k))
    where
      here : (k : ℕ) → Contains key k → Contains (order space.labels root) k
      here k c = order_has space root k (All-contains (Contains (rows_in space.labels)) key k d.rows c)

-- ---- the root
abbrev IsGiven : Space → List ℕ → Type 0
IsGiven space start = (root : List ℕ) × GivesByPhaseOne space start root

module _ (space : Space) (start : List ℕ) (none : HasNoRowZero space) (t : Table)
    (d : IsRowDictionary space start t) where
  -- ---- from where t is lowest
  module _ (r : ℕ) (w : IsFirstWorst space start t r)
      (e : HasEnd (lifted space start) (lowering_root start r) 0 (lowering_root start r)) where
    feasible : IsFeasibleRoot (lifted space start) e.end e.table
    feasible =
        constants_are_not_negative (lifted space start) (lowering_root start r) e.end e.table e.feasible

    given : (root : List ℕ) →
        (e.end ≡ 0 ∷ root)
        ⊎ IsLastExchange (lifted space start).labels (lowering_root start r) e.end e.table (0 ∷ root) →
        IsGiven space start
    given root last = (
      root,
      record {
        home = t;
        dictionary = d;
        root_is = inr (record {
          r = r;
          worst = w;
          steps = e.steps;
          end = e.end;
          descent = e.descent;
          table = e.table;
          dictionary = e.feasible.dictionary.dictionary;
          lowest = e.lowest;
          last = last;
        });
      },
    )

    from_inside : Contains e.end 0 → IsGiven space start
    from_inside c = let x = root_without_t space start e.end e.table none feasible c in given x.rest (inl x.first)

    -- t takes the place of a column, and stands in front then
    from_exchange : (Contains e.end 0 → ⊥) → e.table.constant 0 ≡ pos 0 → (s : ℕ) →
        IsLastColumn (lifted space start).labels (lowering_root start r) e.end e.table s →
        GivesRoot (lifted space start) (exchanged_key e.end s 0) → IsGiven space start
    from_exchange o z s c g =
        by (root_without_t space start (exchanged_key e.end s 0) g.some.0 none (g.feasible g.some.0 g.some.1)
        (Exchanges.entering (exchanges e.end s 0 e.feasible.dictionary.ascending o)))
      where
        by : IsWithT space (exchanged_key e.end s 0) g.some.0 → IsGiven space start
        by x = given x.rest
            (inr (record { outside = o; constant = z; s = s; column = c; exchange = sym x.first }))

    from_outside : (Contains e.end 0 → ⊥) → e.table.constant 0 ≡ pos 0 → IsGiven space start
    from_outside o z =
        by (last_column (lifted space start) (lowering_root start r) e.end e.table e.feasible.dictionary
        (some_column space start e.end e.table e.feasible.dictionary))
      where
        by : (s : ℕ) × IsLastColumn (lifted space start).labels (lowering_root start r) e.end e.table s →
            IsGiven space start
        by (s, c) =
            from_exchange o z s c
            (exchange_at_zero (lifted space start) e.end e.table feasible 0 s
            (record { row = t_is_row space start none; outside = o }) z c.column c.nonzero)

    from_end : IsGiven space start ⊎ (MeetsRows space → ⊥)
    from_end =
        by_sign (IsGiven space start ⊎ (MeetsRows space → ⊥)) (e.table.constant 0)
        (λ up. inr (none_meets_rows space start e.end e.table none e.feasible.dictionary e.lowest up))
        (λ z. inl (⊎_elim from_inside (λ (o : Contains e.end 0 → ⊥). from_outside o z) (contains_or e.end 0)))
        (λ down. absurd (not_both (e.table.constant 0) down (feasible.constants 0 (t_is_row space start none))))

  -- ---- from the start
  from_worst : (r : ℕ) → IsFirstWorst space start t r → IsGiven space start ⊎ (MeetsRows space → ⊥)
  from_worst r w = by (first_home space start none t d r w.worst)
    where
      by : (u : Table) × IsFeasibleRoot (lifted space start) (lowering_root start r) u →
          IsGiven space start ⊎ (MeetsRows space → ⊥)
      by (u, f) =
          from_end r w
          (steps_end (lifted space start) (lowering_root start r) u f.dictionary 0 (t_is_row space start none)
          (record {
            key = lowering_root start r;
            table = u;
            feasible = root_is_feasible (lifted space start) (lowering_root start r) u f;
          }))

  already : ((i : ℕ) → IsRowOutside space.labels start i → pos 0 ≤ℤ t.constant i) → IsGiven space start
  already h = (
    start,
    record {
      home = t;
      dictionary = d;
      root_is = inl (
        record {
          dictionary = d;
          constants = λ i l.
              ⊎_elim
              (λ (c : Contains start i). nonnegative_zero (t.constant i) (own_level space start t d i c None))
              (λ (o : Contains start i → ⊥). h i (record { row = l; outside = o }))
              (contains_or start i);
        },
        refl,
      );
    },
  )

  from_rows : (ks : List ℕ) → outside space.labels start ≡ ks → IsGiven space start ⊎ (MeetsRows space → ⊥)
  from_rows [] e =
      inl (already (λ i o. absurd (Contains-nil i (subst (λ ks. Contains ks i) e (row_outside space start i o)))))
  from_rows (k ∷ ks) e = by (first_in t.constant k ks)
    where
      no_greater : (r i : ℕ) → ComesFirst t.constant r i → t.constant r ≤ℤ t.constant i
      no_greater r i (inl l) = let h = l in omega (arith, lin)
      no_greater r i (inr (f, l)) = omega (arith, lin)

      first : (r i : ℕ) → ComesFirst t.constant r i → t.constant i ≤ℤ t.constant r → r ≤ i
      first r i (inl l) h = absurd (omega (arith, lin))
      first r i (inr (f, l)) h = l

      over : (a b : ℤ) → pos 0 ≤ℤ a → a ≤ℤ b → pos 0 ≤ℤ b
      over a b h g = omega (arith, lin)

      by : (r : ℕ) × StandsFirst t.constant (k ∷ ks) r → IsGiven space start ⊎ (MeetsRows space → ⊥)
      by (r, w) =
          by_lt_z (t.constant r) (pos 0)
          (λ less. from_worst r (record {
            worst = worst less;
            first = λ i x. first r i (comes i x.row) (x.least r (worst less).row);
          }))
          (λ more. inl (already (λ i o. over (t.constant r) (t.constant i) more (no_greater r i (comes i o)))))
        where
          comes : (i : ℕ) → IsRowOutside space.labels start i → ComesFirst t.constant r i
          comes i o = w.first i (subst (λ xs. Contains xs i) e (row_outside space start i o))

          worst : t.constant r <ℤ pos 0 → IsWorst space start t r
          worst less = record {
            row = is_row_outside space start r (subst (λ xs. Contains xs r) (sym e) w.member);
            negative = less;
            least = λ i o. no_greater r i (comes i o);
          }

  decides : IsGiven space start ⊎ (MeetsRows space → ⊥)
  decides = from_rows (outside space.labels start) refl

  feasible_root : IsGiven space start → HasRoot space
  feasible_root g = let f = given_feasible space start none g.0 g.1 in (g.0, f.0, f.1)

  pub gives_where_met : IsGiven space start ↔ MeetsRows space
  gives_where_met = (
    λ g. let f = given_feasible space start none g.0 g.1 in point_of_root space g.0 f.0 f.1,
    λ m. ⊎_elim (λ (g : IsGiven space start). g) (λ (n : MeetsRows space → ⊥). absurd (n m)) decides,
  )

  pub phase_one_decides : IsDecided space
  phase_one_decides = record {
    answer = ⊎_elim (λ (g : IsGiven space start). inl (feasible_root g)) (λ (n : MeetsRows space → ⊥). inr n) decides;
    exactly = (λ r. point_of_root space r.0 r.1 r.2, λ m. feasible_root (gives_where_met.1 m));
  }
