-- What was written where a walk stops: first bytes of the rows of some extreme vectors; and whether its overflow is due.
use Rattle.std.specs.Prelude.{Result}
use Rattle.std.specs.Result.{IsErr, IsErrOf}
use Rattle.std.proofs.Common.{◌≡◌, ℕ, ◌≤◌, true, false, List, [], ◌∷◌, ◌++◌, Option, Ok, Err, refl, sym, ap, subst, ◌∙◌, arith}
use Rattle.std.specs.List.{flat_map}
use Rattle.std.specs.Io.KnownBytes.{Appends}
use Rattle.poly_num.specs.Vectors.{Vector}
use Rattle.poly_model.specs.declared.overflow.Overflow.{Overflow as Passed}
use Rattle.poly_model.specs.Due.{IsDue, IsAskedInMain}
use Rattle.poly_model.specs.Extreme.{AreExtreme}
use Rattle.poly_model.specs.ListingText.{row_text}
use Rattle.poly_model.specs.Systems.{System, Polyhedron, cone_of}
use Rattle.linear_laws.proofs.Distinct.{distinct_append}
use Rattle.listing_laws.proofs.Completions.{completed}
use Rattle.poly_io.specs.declared.sink.Sink.{Ghosts as Sink}
use Rattle.poly_io.specs.Causes.{Rose, RisesAt}
use Rattle.poly_io.specs.Written.{AppendsPart}
use Rattle.reverse_step.specs.declared.walker.Visit.TheVariants.{New}
use Rattle.reverse_step.specs.Walks.{Walk}
use Rattle.reverse_step.specs.Moves.{IsVisit}
use Rattle.reverse_step.proofs.DueLemmas.{due_in_main}
use Rattle.row_printer.specs.declared.shown.Shown.{Shown}
use Rattle.row_printer.specs.declared.tally.Tally.{Tally}
use Rattle.row_printer.specs.Rows.{HasWritten}
use Rattle.convert_core.specs.declared.rays.Rays.{Rays}
use Rattle.convert_core.specs.declared.walk.Ended.{Ended}
use Rattle.convert_core.specs.declared.walk.Ended.TheVariants.{Overflow, WriteFault}
use Rattle.convert_core.specs.Rows.{FailsShown, columns_of, column_rows}
use Rattle.convert_core.specs.Searches.{IsSearch}
use Rattle.convert_core.specs.Listed.{EndsStep, ListsRows}
use Rattle.convert_core.proofs.RowsWritten.{part_more, part_all}
use Rattle.convert_core.proofs.Searching.{IsListedSoFar, some_rows_here, extreme_of_some, search_moves, new_apart, stops_after, stops_here}

part_of : {E : Type 0} (p : Polyhedron) (old new : Option (List ℕ)) (before : Tally) (result : Result Shown E) → IsErr result →
    (shown rest : List Vector) → AreExtreme (cone_of p) (shown ++ rest) →
    AppendsPart old new (flat_map (row_text p.kind) shown) → ListsRows p old new before result
part_of p old new before (Ok x) r shown rest e a = absurd (let f : false ≡ true = r in cc)
part_of p old new before (Err x) r shown rest e a = record { whole = tt; part = (shown, rest, e, a) }

module _ {O : Type 0} (sink : Sink O) (p : Polyhedron) (cone : System) (rays : Rays) where
  -- ---- at the first cobasis
  pub stops_first : {E : Type 0} (walk : Walk) (vector : Vector) → IsSearch p cone rays walk vector → (s : Shown) → s.listing ≡ p.kind →
      (o q : O) → FailsShown sink.written sink.faults cone walk.root walk.dict (columns_of walk.dict) s o q →
      (result : Result Shown E) → IsErr result → ListsRows p (sink.written o) (sink.written q) s.tally result
  stops_first walk vector x s kind o q f result r =
      let ys = column_rows cone walk.dict f.shown in
      let some = some_rows_here p cone rays walk vector x f.shown f.once f.only in
      let (rest, e) = completed p ys some.0
      (λ y c. extreme_of_some p cone rays walk vector x (walk.dict.key ∷ []) y (some.1 y c)) in
      part_of p (sink.written o) (sink.written q) s.tally result r ys rest e
      (subst (λ k. AppendsPart (sink.written o) (sink.written q) (flat_map (row_text k) ys)) kind f.bytes)

  -- ---- at a step
  module _ (first walk : Walk) (vector : Vector) (left : ℕ) (rows : List Vector) (before now : ℕ)
      (x : IsListedSoFar p cone rays first walk vector left rows before now) (s t : Shown) (same : t.listing ≡ s.listing)
      (kind : s.listing ≡ p.kind) (o m : O)
      (w : HasWritten p.kind (sink.written o) (sink.written m) s.tally t.tally rows) where
    here : t.listing ≡ p.kind
    here = same ∙ kind

    fails : {E : Type 0} (new : Walk) (q : O) → IsVisit walk New new →
        FailsShown sink.written sink.faults cone new.root new.dict (columns_of new.dict) t m q →
        (result : Result Shown E) → IsErr result → ListsRows p (sink.written o) (sink.written q) s.tally result
    fails new q v f result r =
        let ys = column_rows cone new.dict f.shown in
        let moved = search_moves p cone rays walk vector x.search New new vector v refl in
        let some = some_rows_here p cone rays new vector moved f.shown f.once f.only in
        let (rest, e) = stops_after p cone rays first walk vector left rows before now x ys
        (distinct_append rows ys x.shown.once some.0
        (λ y c d. new_apart p cone rays first walk vector left rows before now x new v y (x.shown.only y c) (some.1 y d)))
        (λ y c. extreme_of_some p cone rays new vector moved (new.dict.key ∷ []) y (some.1 y c)) in
        part_of p (sink.written o) (sink.written q) s.tally result r (rows ++ ys) rest e
        (part_more p.kind (sink.written o) (sink.written m) (sink.written q) rows ys w.bytes
        (subst (λ k. AppendsPart (sink.written m) (sink.written q) (flat_map (row_text k) ys)) here f.bytes))

    pub stops_rows : {E : Type 0} (new : Walk) (q : O) (e : Ended) →
        EndsStep sink.written sink.faults cone walk new t m q e → (result : Result Shown E) → IsErr result →
        ListsRows p (sink.written o) (sink.written q) s.tally result
    stops_rows new q (Overflow a) h result r =
        let (rest, e) = stops_here p cone rays first walk vector left rows before now x in
        part_of p (sink.written o) (sink.written q) s.tally result r rows rest e
        (part_all p.kind (sink.written o) (sink.written q) rows
        (subst (λ (z : O). Appends (sink.written o) (sink.written z) (flat_map (row_text p.kind) rows))
        (sym h.1) w.bytes))
    stops_rows new q WriteFault h result r = fails new q h.0 h.1 result r

  -- ---- the faults
  pub stops_cause : (before after : Walk) (t : Shown) (o m q : O) → sink.faults m ≡ sink.faults o → (e : Ended) →
      EndsStep sink.written sink.faults cone before after t m q e →
      RisesAt {T = Shown} WriteFault (sink.faults o) (sink.faults q) (Err e)
  stops_cause before after t o m q same (Overflow a) h =
      let still : sink.faults q ≡ sink.faults o = ap sink.faults h.1 ∙ same in
      record { later = omega (arith, still); failed = λ f. absurd cc; same = λ n. still }
  stops_cause before after t o m q same WriteFault h = record {
    later = subst (λ n. n ≤ sink.faults q) same h.1.later;
    failed = λ f. subst (λ n. Rose n (sink.faults q)) same h.1.rose;
    same = λ n. absurd (n refl);
  }

  -- ---- the overflow
  same_overflow : (a o : Passed) → IsErrOf {T = Shown} (Err (Overflow a)) (Overflow o) → a ≡ o
  same_overflow a o h = cc

  pub stops_due : (walk after : Walk) (vector : Vector) → IsSearch p cone rays walk vector → (root : List ℕ) →
      walk.root ≡ root → (t : Shown) (m q : O) (e : Ended) → EndsStep sink.written sink.faults cone walk after t m q e →
      (o : Passed) → IsErrOf {T = Shown} (Err e) (Overflow o) → IsDue p o (IsAskedInMain p root o)
  stops_due walk after vector x root same t m q (Overflow a) h o e =
      subst (λ r. IsDue p o (IsAskedInMain p r o)) same
      (subst (λ (b : Passed). IsDue p b (IsAskedInMain p walk.root b)) (same_overflow a o e)
      (due_in_main p x.free x.columns walk.root x.home walk.dict x.phase x.walk_in.stands a h.0))
  stops_due walk after vector x root same t m q WriteFault h o e = absurd cc
