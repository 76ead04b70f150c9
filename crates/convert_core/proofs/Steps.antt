-- What is written along a walk: at its beginning, from step to step, and at its end.
use Rattle.std.proofs.Common.{◌≡◌, ℕ, ◌+◌, ◌≤◌, List, ◌++◌, length, Option, refl, sym, ap, subst, ◌∙◌}
use Rattle.poly_num.specs.Vectors.{Vector}
use Rattle.poly_model.specs.declared.kind.Kind.{Kind}
use Rattle.poly_model.specs.Extreme.{AreExtreme}
use Rattle.poly_model.specs.Systems.{System, Polyhedron, cone_of}
use Rattle.countdown.specs.Digits.{enough}
use Rattle.poly_io.specs.declared.sink.Sink.{Ghosts as Sink}
use Rattle.reverse_step.specs.declared.walker.Visit.{Visit}
use Rattle.reverse_step.specs.declared.walker.Visit.TheVariants.{New, Back, End}
use Rattle.reverse_step.specs.Walks.{Walk}
use Rattle.row_printer.specs.declared.shown.Shown.{Shown}
use Rattle.row_printer.specs.declared.tally.Tally.{Tally}
use Rattle.row_printer.specs.Rows.{HasWritten}
use Rattle.convert_core.specs.declared.rays.Rays.{Rays}
use Rattle.convert_core.specs.Rows.{WritesShown, columns_of, column_rows}
use Rattle.convert_core.specs.Searches.{IsSearch, IsAtRoot}
use Rattle.convert_core.specs.Listed.{WritesStep}
use Rattle.convert_core.proofs.RowsWritten.{has_more}
use Rattle.convert_core.proofs.Searching.{IsListedSoFar, starts, rows_here, another_vector, search_moves, goes_on, goes_back, lists_all}

-- the rows of the cobases visited were written since the sink was as `o`, of one kind, and are counted; no write has
-- failed
pub record Going {O : Type 0} (sink : Sink O) (p : Polyhedron) (cone : System) (rays : Rays) (first walk : Walk)
    (vector : Vector) (left before now : ℕ) (s : Shown) (o : O) (t : Shown) (m : O) : Type 0 where
  pub rows : List Vector
  pub listed : IsListedSoFar p cone rays first walk vector left rows before now
  pub written : HasWritten p.kind (sink.written o) (sink.written m) s.tally t.tally rows
  pub kind : t.listing ≡ s.listing
  pub same : sink.faults m ≡ sink.faults o

-- the rows of all extreme vectors were
pub record HasEnded {O : Type 0} (sink : Sink O) (p : Polyhedron) (s : Shown) (o : O) (t : Shown) (m : O) : Type 0 where
  pub rows : List Vector
  pub extreme : AreExtreme (cone_of p) rows
  pub written : HasWritten p.kind (sink.written o) (sink.written m) s.tally t.tally rows
  pub kind : t.listing ≡ s.listing
  pub same : sink.faults m ≡ sink.faults o

module _ {O : Type 0} (sink : Sink O) (p : Polyhedron) (cone : System) (rays : Rays) where
  of_kind : (s : Shown) → s.listing ≡ p.kind → (a b : Option (List ℕ)) (before now : Tally)
      (ys : List Vector) → HasWritten s.listing a b before now ys → HasWritten p.kind a b before now ys
  of_kind s kind a b before now ys w = subst (λ (k : Kind). HasWritten k a b before now ys) kind w

  -- ---- the beginning
  pub begins : (walk : Walk) (vector : Vector) (left before : ℕ) → IsSearch p cone rays walk vector → IsAtRoot p walk →
      enough ≤ left → (s : Shown) → s.listing ≡ p.kind → (o : O) (t : Shown) (m : O) →
      WritesShown sink.written sink.faults cone walk.root walk.dict (columns_of walk.dict) s o t m → (more : Vector) →
      length more ≡ length vector → Going sink p cone rays walk walk more left before before s o t m
  begins walk vector left before x a e s kind o t m w more width = record {
    rows = column_rows cone walk.dict w.shown;
    listed = starts p cone rays walk more left (column_rows cone walk.dict w.shown) before moved a e
        (rows_here p cone rays walk more moved w.shown w.all);
    written = of_kind s kind (sink.written o) (sink.written m) s.tally t.tally (column_rows cone walk.dict w.shown) w.rows;
    kind = w.kind;
    same = w.same;
  }
    where
      moved : IsSearch p cone rays walk more
      moved = another_vector p cone rays walk vector x more width

  -- ---- a step
  module _ (first walk : Walk) (vector : Vector) (left before now : ℕ) (s : Shown) (kind : s.listing ≡ p.kind) (o : O)
      (t : Shown) (m : O) (x : Going sink p cone rays first walk vector (left + 1) before now s o t m)
      (new : Walk) (more : Vector) (width : length more ≡ length vector) (then : ℕ) (counted : then ≤ now + 1)
      (u : Shown) (q : O) where
    stays : (u ≡ t) → (q ≡ m) → HasWritten p.kind (sink.written o) (sink.written q) s.tally u.tally x.rows
    stays e f =
        subst (λ (z : O). HasWritten p.kind (sink.written o) (sink.written z) s.tally u.tally x.rows) (sym f)
        (subst (λ (z : Shown). HasWritten p.kind (sink.written o) (sink.written m) s.tally z.tally x.rows) (sym e) x.written)

    pub goes : (visit : Visit) → (visit ≡ End → ⊥) →
        WritesStep sink.written sink.faults cone walk visit new t m u q →
        Going sink p cone rays first new more left before then s o u q
    goes New n h = record {
      rows = x.rows ++ column_rows cone new.dict h.shows.shown;
      listed = goes_on p cone rays first walk vector left x.rows before now x.listed new more width then counted h.moved
          (column_rows cone new.dict h.shows.shown)
          (rows_here p cone rays new more
          (search_moves p cone rays walk vector x.listed.search New new more h.moved width) h.shows.shown h.shows.all);
      written = has_more p.kind (sink.written o) (sink.written m) (sink.written q) s.tally t.tally u.tally x.rows
          (column_rows cone new.dict h.shows.shown) x.written
          (of_kind t (x.kind ∙ kind) (sink.written m) (sink.written q) t.tally u.tally
          (column_rows cone new.dict h.shows.shown) h.shows.rows);
      kind = h.shows.kind ∙ x.kind;
      same = h.shows.same ∙ x.same;
    }
    goes Back n h = record {
      rows = x.rows;
      listed = goes_back p cone rays first walk vector left x.rows before now x.listed new more width then counted h.moved;
      written = stays h.shows.0 h.shows.1;
      kind = ap (λ (z : Shown). z.listing) h.shows.0 ∙ x.kind;
      same = ap sink.faults h.shows.1 ∙ x.same;
    }
    goes End n h = absurd (n refl)

    -- ---- the end
    at_end : (visit : Visit) → visit ≡ End → WritesStep sink.written sink.faults cone walk visit new t m u q →
        WritesStep sink.written sink.faults cone walk End new t m u q
    at_end visit e h = subst (λ (v : Visit). WritesStep sink.written sink.faults cone walk v new t m u q) e h

    pub ends : (visit : Visit) → visit ≡ End → WritesStep sink.written sink.faults cone walk visit new t m u q →
        HasEnded sink p s o u q
    ends visit e h =
        let end = at_end visit e h in
        record {
          rows = x.rows;
          extreme = lists_all p cone rays first walk vector left x.rows before now x.listed new more width then counted
              end.moved;
          written = stays end.shows.0 end.shows.1;
          kind = ap (λ (z : Shown). z.listing) end.shows.0 ∙ x.kind;
          same = ap sink.faults end.shows.1 ∙ x.same;
        }
