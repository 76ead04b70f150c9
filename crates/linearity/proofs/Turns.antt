-- One row more has been tried: it is passed over, it is 0 at every coordinate in the cobasis, or it enters.
use Rattle.std.proofs.Common.{◌≡◌, ◌≢◌, ◌⊎◌, ⊎_elim, inl, inr, true, false, ℕ, ◌+◌, ◌<◌, pos, List, sym, subst, arith}
use Rattle.std.specs.List.{Contains}
use Rattle.std.proofs.lemmas.Bool.{cases_eq, cases_lt, cases_order, both_ways, true_from_ne_false}
use Rattle.poly_model.specs.Labels.{coordinates_from, IsRow, IsCoordinate}
use Rattle.poly_model.specs.Systems.{Row, row_of}
use Rattle.poly_model.specs.Spaces.{Space, HasPoints}
use Rattle.poly_model.specs.Dictionaries.{Table}
use Rattle.dictionary_laws.specs.Exchange.{exchanged_entry}
use Rattle.dictionary_laws.specs.Keys.{Exchanges}
use Rattle.dictionary.specs.Views.{Dictionary, IsDictionaryIn, CanPivot, IsPivot, table_of}
use Rattle.linearity.specs.declared.eliminate.Pass.{Pass}
use Rattle.linearity.specs.declared.eliminate.Pass.TheVariants.{Linear, Others}
use Rattle.linearity.specs.Columns.{IsLeastColumn, IsZeroAtCoordinates}
use Rattle.linearity.specs.Elimination.{IsSettled, IsTried, IsEliminated, tries_others}
use Rattle.linearity.proofs.ZerosAfter.{zero_by_row, zero_by_column, zero_after}

-- ---- rows that have been tried
module _ (rows : List Row) (i : ℕ) where
  tried_later : (pass : Pass) (k : ℕ) → IsTried rows pass i k → IsTried rows pass (i + 1) k
  tried_later Linear k h = (h.0, let l = h.1 in omega arith)
  tried_later Others k h = ⊎_elim (λ e. inl e) (λ (l : k < i). inr (omega arith)) h

  tried_before : (pass : Pass) (k : ℕ) → IsTried rows pass (i + 1) k → IsTried rows pass i k ⊎ (k ≡ i)
  tried_before Linear k h =
      ⊎_elim (λ (e : k ≡ i). inr e) (λ (n : k ≢ i). inl (h.0, let l = h.1 in omega (arith, n))) (cases_eq k i)
  tried_before Others k h =
      ⊎_elim
      (λ (e : (row_of rows k).linear ≡ true). inl (inl e))
      (λ (l : k < i + 1). ⊎_elim (λ (e : k ≡ i). inr e) (λ (n : k ≢ i). inl (inr (omega (arith, n)))) (cases_eq k i))
      h

  -- a row that is tried in this pass
  tried_now : (pass : Pass) → (row_of rows i).linear ≢ tries_others pass → IsTried rows pass (i + 1) i
  tried_now Linear n = (true_from_ne_false (row_of rows i).linear n, omega arith)
  tried_now Others n = inr (omega arith)

  -- a row that is not
  tried_otherwise : (pass : Pass) → (row_of rows i).linear ≡ tries_others pass → IsTried rows pass (i + 1) i →
      IsTried rows pass i i
  tried_otherwise Linear e h = absurd (both_ways (row_of rows i).linear e h.0)
  tried_otherwise Others e h = inl e

  -- no row before one that is tried now is behind it
  none_behind : (pass : Pass) → (row_of rows i).linear ≢ tries_others pass → (k : ℕ) → IsTried rows pass i k →
      (row_of rows k).linear ≡ false → ((row_of rows i).linear ≡ true) ⊎ (i < k) → ⊥
  none_behind Linear n k h e later = both_ways (row_of rows k).linear e h.0
  none_behind Others n k h e later =
      ⊎_elim
      (λ (t : (row_of rows k).linear ≡ true). both_ways (row_of rows k).linear e t)
      (λ (l : k < i). ⊎_elim (λ (t : (row_of rows i).linear ≡ true). n t) (λ (m : i < k). omega arith) later)
      h

-- ---- the dictionary stays
module _ (rows : List Row) (pass : Pass) (i : ℕ) (d : Dictionary) (e : IsEliminated rows pass i d) where
  stays : (Contains d.labels i → IsRow i → IsTried rows pass (i + 1) i → IsSettled rows d i) →
      IsEliminated rows pass (i + 1) d
  stays settled = record {
    settled = λ j l few h.
        ⊎_elim
        (λ (b : IsTried rows pass i j). e.settled j l few b)
        (λ (same : j ≡ i). subst (IsSettled rows d) (sym same)
        (settled (subst (Contains d.labels) same l) (omega arith) (subst (IsTried rows pass (i + 1)) same h)))
        (tried_before rows i pass j h);
    taken = λ k c few. tried_later rows i pass k (e.taken k c few);
    leftmost = e.leftmost;
  }

  -- a row that is no label, or not tried in this pass
  pub passed_over : (Contains d.labels i → (row_of rows i).linear ≡ tries_others pass) → IsEliminated rows pass (i + 1) d
  passed_over is = stays (λ l few h. e.settled i l few (tried_otherwise rows i pass (is l) h))

  -- a row that is 0 at every coordinate in the cobasis
  pub no_column : (row_of rows i).linear ≢ tries_others pass → IsZeroAtCoordinates d i → IsEliminated rows pass (i + 1) d
  no_column n none =
      stays (λ l few h outside k c behind.
      ⊎_elim
      (λ (b : IsCoordinate k). none k c b)
      (λ (b : ((row_of rows k).linear ≡ false) × (((row_of rows i).linear ≡ true) ⊎ (i < k))).
      ⊎_elim
      (λ (f : IsRow k). absurd (none_behind rows i pass n k (e.taken k c f) b.0 b.1))
      (λ (f : IsCoordinate k). none k c f)
      (cases_lt k coordinates_from))
      behind)

-- ---- the row enters for the least coordinate at which it is not 0
module _ (rows : List Row) (pass : Pass) (r : ℕ) (few : IsRow r) (old new : Dictionary) (s : ℕ)
    (e : IsEliminated rows pass r old) (space : Space) (points : HasPoints space) (is : IsDictionaryIn space old)
    (column : IsLeastColumn old r s) (can : CanPivot old r s) (pivot : IsPivot old r s new) where
  abbrev exchanges : Exchanges old.key new.key r s
  exchanges = pivot.key.exchanges

  abbrev before : ℕ → ℕ → Type 0
  before i k = Table.entry (table_of old) i k ≡ pos 0

  -- a label of the new key is the row, or one of the old key other than the coordinate
  only : (P : Type 0) (k : ℕ) → Contains new.key k → (k ≡ r → P) → (Contains old.key k → k ≢ s → P) → P
  only P k c entering staying =
      ⊎_elim (λ (f : k ≡ r). entering f) (λ (f : Contains old.key k × (k ≢ s)). staying f.0 f.1) (exchanges.only k c)

  old_label : (i : ℕ) → Contains new.labels i → Contains old.labels i
  old_label i l = subst (λ ks. Contains ks i) pivot.labels l

  zero_now : (i k : ℕ) → Contains old.labels i → Contains new.key k →
      exchanged_entry (table_of old) r s i k ≡ pos 0 → Table.entry (table_of new) i k ≡ pos 0
  zero_now = zero_after space points old new r s is can pivot

  -- a row that was outside and tried before is 0 at the coordinate, and at what was behind it
  settled_before : (i : ℕ) → Contains new.labels i → IsRow i → IsTried rows pass r i → IsSettled rows new i
  settled_before i l low h outside k c behind =
      let label = old_label i l in
      let out : Contains old.key i → ⊥ = λ m. outside (exchanges.kept i m (let f = column.coordinate in omega arith)) in
      let old_settled = e.settled i label low h out in
      zero_now i k label c
      (zero_by_row (table_of old) r s i k (old_settled s column.inside (inl column.coordinate))
      (λ n. only (before i k) k c (λ f. absurd (n f)) (λ m q. old_settled k m behind)))

  settled : (i : ℕ) → Contains new.labels i → IsRow i → IsTried rows pass (r + 1) i → IsSettled rows new i
  settled i l low h outside =
      ⊎_elim
      (λ (b : IsTried rows pass r i). settled_before i l low b outside)
      (λ (same : i ≡ r). absurd (outside (subst (Contains new.key) (sym same) exchanges.entering)))
      (tried_before rows r pass i h)

  -- what stands at a coordinate that is left: before the one that leaves, the row is 0; behind it, the pass are
  leftmost : (j k : ℕ) → Contains new.labels j → Contains new.key k → IsCoordinate k → k < j →
      Table.entry (table_of new) j k ≡ pos 0
  leftmost j k l c high less =
      let label = old_label j l in
      only (Table.entry (table_of new) j k ≡ pos 0) k c
      (λ f. absurd (omega arith))
      (λ m n.
      let zero : before j k = e.leftmost j k label m high less in
      zero_now j k label c
      (⊎_elim
      (λ (f : k ≡ s). absurd (n f))
      (λ (o : (k < s) ⊎ (s < k)).
      ⊎_elim
      (λ (f : k < s). zero_by_column (table_of old) r s j k (λ g. omega arith) zero (column.least k m high f))
      (λ (f : s < k). zero_by_row (table_of old) r s j k
      (e.leftmost j s label column.inside column.coordinate (omega arith)) (λ g. zero))
      o)
      (cases_order k s)))

  pub enters : (row_of rows r).linear ≢ tries_others pass → IsEliminated rows pass (r + 1) new
  enters n = record {
    settled = settled;
    taken = λ k c low.
        only (IsTried rows pass (r + 1) k) k c
        (λ f. subst (IsTried rows pass (r + 1)) (sym f) (tried_now rows r pass n))
        (λ m q. tried_later rows r pass k (e.taken k m low));
    leftmost = leftmost;
  }
