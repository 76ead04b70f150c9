-- The overflows of the two passes of elimination are due.
use Rattle.std.proofs.Common.{◌≡◌, ⊎_elim, inl, inr, ℕ, ◌<◌, true, false, List, length, sym, subst, ◌∙◌, arith}
use Rattle.std.specs.List.{Contains}
use Rattle.std.proofs.lemmas.Bool.{cases_lt, cases_Bool, true_from_ne_false, false_from_ne_true}
use Rattle.poly_model.specs.Labels.{coordinates_from, IsRow, IsCoordinate}
use Rattle.poly_model.specs.declared.overflow.Overflow.{Overflow}
use Rattle.poly_model.specs.declared.overflow.Phase.TheVariants.{Prepare}
use Rattle.poly_model.specs.Systems.{row_of, Row, System, Polyhedron, cone_of}
use Rattle.poly_model.specs.FreeColumns.{AreFreeColumns}
use Rattle.poly_model.specs.Spaces.{IsStartCobasis, main_space}
use Rattle.poly_model.specs.Equations.{AreConsistent}
use Rattle.poly_model.specs.Due.{IsDue, IsEntering, IsAskedBefore}
use Rattle.cone_laws.proofs.ColumnLemmas.{one_list_of_columns}
use Rattle.dictionary_laws.proofs.Starts.{start_exists}
use Rattle.dictionary.specs.Views.{Dictionary}
use Rattle.linearity.specs.declared.eliminate.Pass.TheVariants.{Linear, Others}
use Rattle.linearity.specs.Elimination.{IsDictionaryOf, IsEliminated}
use Rattle.linearity.specs.Turns.{OverflowsFor, StopsAt}
use Rattle.linearity.proofs.Tries.{overflows_at}
use Rattle.linearity.proofs.FreeLabels.{free_in_key, least_is_not_free}
use Rattle.linearity.proofs.Consistency.{in_prepare}
use Rattle.linearity.proofs.RowsInStart.{entered_in_start, next_in_start}

module _ (p : Polyhedron) where
  abbrev rows : List Row
  rows = (cone_of p).rows

  abbrev free : List ℕ
  free = (one_list_of_columns (cone_of p)).one

  columns : AreFreeColumns (cone_of p) free
  columns = (one_list_of_columns (cone_of p)).has

  abbrev start : List ℕ
  start = (start_exists (main_space p free)).0

  is_start : IsStartCobasis (main_space p free) start
  is_start = (start_exists (main_space p free)).1

  module _ (i k : ℕ) (d : Dictionary) (o : Overflow) (of : IsDictionaryOf p d) (phase : d.phase ≡ Prepare)
      (over : OverflowsFor d i k o) where
    -- the pivot of a row that enters, where all rows that have entered are such
    due : IsEntering p start i → ((l : ℕ) → Contains d.key l → IsRow l → IsEntering p start l) →
        IsDue p o (IsAskedBefore p o)
    due entering entered =
        let at = overflows_at p d i k o of over.can over.overflow in
        record {
          passes = at.0;
          asked = record {
            phase = over.overflow.phase ∙ phase;
            free = free;
            columns = columns;
            start = start;
            is_start = is_start;
            row = subst (IsEntering p start) (sym at.1) entering;
            column = subst (λ s. IsCoordinate s) (sym at.2) over.column.coordinate;
            labels = λ l c.
                ⊎_elim
                (λ (low : IsRow l). inr (entered l (subst (λ ks. Contains ks l) over.overflow.key c) low))
                (λ (high : IsCoordinate l). inl high)
                (cases_lt l coordinates_from);
          };
        }

    -- the linear rows enter
    due_among_linear : IsEliminated rows Linear i d → (row_of rows i).linear ≡ true → IsDue p o (IsAskedBefore p o)
    due_among_linear tried e = due (inl e) (λ l c low. inl (tried.taken l c low).0)

    -- the others enter, and the equations have a common point
    due_among_others : AreConsistent p → IsEliminated rows Others i d → (row_of rows i).linear ≡ false → IsRow i →
        IsDue p o (IsAskedBefore p o)
    due_among_others point tried e low =
        let is = in_prepare p d of phase in
        let inside = λ (j : ℕ) (c : Contains free j). free_in_key p d of tried.leftmost j ((columns.exactly j).1 c) in
        due
        (inr (
          point,
          next_in_start p of.few d is free columns inside point i tried start is_start k over.can.label
              low e over.column
              (least_is_not_free p d of i k over.can.label low over.column),
        ))
        (λ l c few.
        ⊎_elim
        (λ (t : (row_of rows l).linear ≡ true). inl t)
        (λ (f : (row_of rows l).linear ≡ false).
        inr (point, entered_in_start p of.few d is free columns inside point i tried start is_start l c few f))
        (cases_Bool (row_of rows l).linear))

  -- ---- where a pass has stopped
  module _ (sys : System) (i : ℕ) (old new : Dictionary) (o : Overflow) (file : sys ≡ cone_of p)
      (of : IsDictionaryOf p old)
      (phase : new.phase ≡ Prepare) where
    pub due_in_first : IsEliminated rows Linear 1 old → StopsAt sys Linear i old new o → IsDue p o (IsAskedBefore p o)
    due_in_first untried stops =
        due_among_linear i stops.overflows.0 new o (stops.before.dictionary p file of) phase stops.overflows.1
        (subst (λ (s : System). IsEliminated s.rows Linear i new) file
        (stops.before.eliminated p file of
        (subst (λ (s : System). IsEliminated s.rows Linear 1 old) (sym file) untried)))
        (subst (λ (s : System). (row_of s.rows i).linear ≡ true) file
        (true_from_ne_false (row_of sys.rows i).linear stops.tried))

    pub due_in_second : AreConsistent p → IsEliminated rows Others 1 old → StopsAt sys Others i old new o →
        IsDue p o (IsAskedBefore p o)
    due_in_second point untried stops =
        let within = stops.within in
        let count : length sys.rows < coordinates_from = subst (λ (s : System). length s.rows < coordinates_from) (sym file) of.few in
        due_among_others i stops.overflows.0 new o (stops.before.dictionary p file of) phase stops.overflows.1 point
        (subst (λ (s : System). IsEliminated s.rows Others i new) file
        (stops.before.eliminated p file of
        (subst (λ (s : System). IsEliminated s.rows Others 1 old) (sym file) untried)))
        (subst (λ (s : System). (row_of s.rows i).linear ≡ false) file
        (false_from_ne_true (row_of sys.rows i).linear stops.tried))
        (omega arith)
