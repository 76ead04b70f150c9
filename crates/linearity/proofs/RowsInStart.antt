-- While the rows that are not linear enter: those that have entered are in the start cobasis of the main space, and so
-- is the next one, where it is not 0 at some coordinate.
use Rattle.std.proofs.Common.{◌≡◌, ◌≢◌, ⊎_elim, inl, inr, ℕ, ◌<◌, ◌≤◌, true, false, List, [], pos, length, sym, ◌∙◌, arith}
use Rattle.std.specs.List.{Contains}
use Rattle.std.proofs.lemmas.Bool.{lt-ltb, ltb-true, both_ways}
use Rattle.poly_num.specs.Vectors.{◌·◌}
use Rattle.poly_num.proofs.Order.{zero_factor, mul_nonzero, positive_nonzero}
use Rattle.poly_model.specs.Systems.{row_of, Row, Polyhedron, cone_of}
use Rattle.poly_model.specs.FreeColumns.{AreFreeColumns, IsFree}
use Rattle.poly_model.specs.Spaces.{Space, prepare_space, main_space, IsStartCobasis}
use Rattle.poly_model.specs.Labels.{coordinates_from, IsRow, is_row, coordinate_label, coordinate_index}
use Rattle.poly_model.specs.Dictionaries.{Table, IsCobasis, Writes}
use Rattle.poly_model.specs.Equations.{HasPointOn, equation_labels}
use Rattle.dictionary_laws.proofs.Members.{contains_or}
use Rattle.dictionary_laws.proofs.Directions.{times_zero, zero_times}
use Rattle.dictionary_laws.proofs.Duals.{Dual, dual_of}
use Rattle.dictionary_laws.proofs.Values.{value_at}
use Rattle.dictionary.specs.Views.{Dictionary, IsDictionaryIn, table_of}
use Rattle.linearity.specs.declared.eliminate.Pass.TheVariants.{Others}
use Rattle.linearity.specs.Columns.{IsLeastColumn}
use Rattle.linearity.specs.Elimination.{IsBehind, IsEliminated}
use Rattle.linearity.proofs.StartCobasis.{start_has}
use Rattle.linearity.proofs.MainStart.{key_in_labels, enters, main_key, rows_ascend, row_is_left, row_stays, coordinate_stays, main_settled}

module _ (p : Polyhedron) (few : length (cone_of p).rows < coordinates_from) (d : Dictionary)
    (is : IsDictionaryIn (prepare_space p) d) (free : List ℕ) (columns : AreFreeColumns (cone_of p) free)
    (inside : (j : ℕ) → Contains free j → Contains d.key (coordinate_label j))
    (point : HasPointOn (prepare_space p) (equation_labels p)) (from : ℕ)
    (tried : IsEliminated (cone_of p).rows Others from d)
    (start : List ℕ) (is_start : IsStartCobasis (main_space p free) start) where
  abbrev rows : List Row
  rows = (cone_of p).rows

  abbrev space : Space
  space = main_space p free

  abbrev key : List ℕ
  key = main_key p few d is free columns inside point from tried

  cobasis : IsCobasis space key
  cobasis = (enters p few d is free columns inside point from tried).cobasis

  writes : Writes space key (table_of d)
  writes = (enters p few d is free columns inside point from tried).writes

  -- where the rows before i are to have been tried and c is a label of the key behind each of them, they are 0 at its
  -- dual direction
  zero_before : (i c : ℕ) → i ≤ from → Contains d.key c → Contains key c →
      ((j : ℕ) → is_row j ≡ true → j < i → IsBehind rows j c × (j ≢ c)) → (w : Dual space [] key c) →
      (j : ℕ) → Contains space.labels j → is_row j ≡ true → j < i → space.form j · w.vector ≡ pos 0
  zero_before i c l old m before w j label r less =
      ⊎_elim
      (λ (q : Contains key j). w.elsewhere j q (before j r less).1)
      (λ (q : Contains key j → ⊥).
      zero_factor d.denominator (space.form j · w.vector)
      (value_at space key cobasis (table_of d) writes j label c m w
      ∙ zero_times (Table.entry (table_of d) j c) (space.form c · w.vector)
      (main_settled p few d is free columns inside point from tried j label r (omega arith) q c old
      (before j r less).0))
      (positive_nonzero d.denominator writes.positive))
      (contains_or key j)

  -- a row that has entered
  pub entered_in_start : (k : ℕ) → Contains d.key k → IsRow k → (row_of rows k).linear ≡ false → Contains start k
  entered_in_start k c low e =
      let r = lt-ltb k coordinates_from low in
      let m = row_stays p few d is free columns inside point from tried k c r e in
      let w = dual_of space key cobasis k m in
      let earlier : k < from =
      ⊎_elim (λ (t : (row_of rows k).linear ≡ true). absurd (both_ways (row_of rows k).linear e t))
      (λ (l : k < from). l)
      (tried.taken k c low) in
      start_has space start is_start (rows_ascend p few d is free columns inside point from tried) k
      (row_is_left p few d is free columns inside point from tried k (key_in_labels p few d is k c) r e) r
      w.vector w.direction
      (zero_before k k (omega arith) c m (λ j s less. (inr (e, inr less), λ f. omega arith)) w)
      w.here

  -- the row that is tried next
  pub next_in_start : (k : ℕ) → Contains d.labels from → IsRow from → (row_of rows from).linear ≡ false →
      IsLeastColumn d from k → (IsFree (cone_of p) (coordinate_index k) → ⊥) → Contains start from
  next_in_start k label low e column n =
      let r = lt-ltb from coordinates_from low in
      let high = column.coordinate in
      let m = coordinate_stays p few d is free columns inside point from tried k column.inside high
      (λ c. n ((columns.exactly (coordinate_index k)).1 c)) in
      let w = dual_of space key cobasis k m in
      let left = row_is_left p few d is free columns inside point from tried from label r e in
      start_has space start is_start (rows_ascend p few d is free columns inside point from tried) from left r
      w.vector w.direction
      (zero_before from k (omega arith) column.inside m
      (λ j s less. (inl high, λ f. let l = ltb-true j coordinates_from s in omega arith)) w)
      (λ z. mul_nonzero (Table.entry (table_of d) from k) (space.form k · w.vector) column.nonzero w.here
      (sym (value_at space key cobasis (table_of d) writes from left k m w)
      ∙ times_zero d.denominator (space.form from · w.vector) z))
