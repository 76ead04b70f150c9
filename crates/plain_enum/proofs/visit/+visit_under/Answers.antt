use Rattle.std.proofs.Common.{◌≡◌, ◌+◌, ◌∷◌, Err, List, length, arith, refl, sym, ap, subst, ◌∙◌}
use Rattle.std.proofs.lemmas.Result.{err_from_is_err_and}
use Rattle.poly_num.specs.Vectors.{Vector}
use Rattle.poly_model.specs.declared.overflow.Overflow.{Overflow}
use Rattle.dictionary.specs.Views.{Dictionary, CanPivot, IsPivot, IsOverflow}
use Rattle.listing_laws.specs.Prefixes.{IsCornerUnder}
use Rattle.linearity.proofs.Errors.{one_error}
use Rattle.plain_enum.specs.declared.prefix.Ended.TheVariants as Ended
use Rattle.plain_enum.specs.Columns.{IsColumnOf, HasNoColumn}
use Rattle.plain_enum.specs.Listed.{HasRoomFor, IsAt}
use Rattle.plain_enum.specs.Visits.{HasVisited, VisitsEach, VisitsSome}
use Rattle.plain_enum.proofs.VisitLemmas.{some_none, some_all, some_stopped, some_then, some_broke}
use Rattle.plain_enum.proofs.LoopUnder.{IsInLoop, loop_start, skipped, goes_on, breaks, stops, ends_loop, overflows, deeper, shape_first, room_with, room_below, room_back}
use Rattle.plain_enum.proofs.visit.+visit_under.Goals.{in-Some-column_of+in_default-take_row+in_ok-visitor-in-Some, in_default}
use Rattle.plain_enum.proofs.visit.+visit_under.Goals as goal

pub rows-init : goal.rows-init
rows-init g t c =
    let prefix = c.args.prefix.now in
    record {
      room = subst (λ (ds : List Dictionary). HasRoomFor prefix.sys.now prefix.dict.now ds c.args.vector.now)
          c.in-Some.ensures.cases.0 c.requires.room;
      depth = c.in-Some.ensures.cases.1;
      visited = loop_start g.V.Visit.visits g.V.Visit.ends prefix.sys.now prefix.free.now prefix.dict.now prefix.from
          (length c.args.deeper.now) c.args.visitor c.args.out.now;
      some = some_none g.V.Visit.visits g.V.Visit.ends c.args.visitor c.args.out.now;
    }

pub take_row-requires-clause-shape : goal.take_row-requires-clause-shape
take_row-requires-clause-shape g t c =
    shape_first c.args.prefix.now.dict.now c.rows.next c.rows.others c.rows.invariant.room.shapes

pub returns-in-Err-clause-visited : goal.returns-in-Err-clause-visited
returns-in-Err-clause-visited g t c p cone fixed left marks at =
    let prefix = c.args.prefix.now in
    stops g.V.Visit.visits g.V.Visit.ends prefix.sys.now prefix.free.now prefix.dict.now (length c.args.deeper.now)
    c.args.visitor c.args.out.now c.rows.visitor c.rows.out c.rows.i p cone fixed left marks
    (c.rows.invariant.visited p cone fixed left marks at) c.in-Err.overflow

pub returns-in-Err-clause-passes : goal.returns-in-Err-clause-passes
returns-in-Err-clause-passes g t c o e p cone fixed left marks at =
    let prefix = c.args.prefix.now in
    let same : c.in-Err.overflow ≡ o = cc in
    overflows g.V.Visit.visits g.V.Visit.ends prefix.sys.now prefix.free.now prefix.dict.now (length c.args.deeper.now)
    c.args.visitor c.args.out.now c.rows.visitor c.rows.out c.rows.i p cone fixed left marks
    (c.rows.invariant.visited p cone fixed left marks at) c.in-Some-column_of.col o
    (subst (λ k. CanPivot prefix.dict.now k c.in-Some-column_of.col) c.row-row.ensures c.in-Some-column_of.ensures.pivots)
    (subst (λ (v : Overflow). IsOverflow prefix.dict.now c.rows.i c.in-Some-column_of.col v) same
    (subst (λ k. IsOverflow prefix.dict.now k c.in-Some-column_of.col c.in-Err.overflow) c.row-row.ensures
    c.in-Err.ensures.passes))

pub returns-in-Err-clause-room : goal.returns-in-Err-clause-room
returns-in-Err-clause-room g t c =
    room_with c.args.prefix.now.sys.now c.args.prefix.now.dict.now c.rows.next c.take_row.new.next c.rows.others _
    c.rows.invariant.room c.in-Err.ensures.shape

pub visit_under-requires : goal.visit_under-requires
visit_under-requires g t c κs within = (
  omega (arith, c.decreases, c.rows.invariant.depth),
  (
    within.0,
    (
      within.1.0,
      (
        within.1.1,
        (
          omega arith,
          room_below c.args.prefix.now.sys.now c.args.prefix.now.dict.now c.rows.next c.take_row.new.next c.rows.others
              _ c.rows.i c.in-Some-column_of.col c.rows.invariant.room c.in_default-take_row.ensures.shape
              (subst (λ k. IsPivot c.args.prefix.now.dict.now k c.in-Some-column_of.col c.take_row.new.next) c.row-row.ensures
              c.in_default-take_row.ensures.pivoted),
        ),
      ),
    ),
  ),
)

pub returns-in_err-visitor-in-Some-clause-visited : goal.returns-in_err-visitor-in-Some-clause-visited
returns-in_err-visitor-in-Some-clause-visited g t c p cone fixed left marks at =
    let prefix = c.args.prefix.now in
    let q = err_from_is_err_and c.from_residual.result c.from_residual.ensures.1 in
    subst
    (λ r. VisitsEach g.V.Visit.visits g.V.Visit.ends c.args.visitor c.args.out.now c.visit_under.new.out r
    (IsCornerUnder cone marks)) (sym (q.1 ∙ ap (λ x. Err x) q.2))
    (breaks g.V.Visit.visits g.V.Visit.ends prefix.sys.now prefix.free.now prefix.dict.now (length c.args.deeper.now)
    c.args.visitor c.args.out.now c.rows.visitor c.rows.out c.rows.i p cone fixed left marks
    (c.rows.invariant.visited p cone fixed left marks at) (omega (arith, c.rows-test.true, c.rows-i-end.ensures.value))
    c.in-Some-column_of.col (subst (λ k. IsColumnOf prefix.dict.now prefix.free.now k c.in-Some-column_of.col) c.row-row.ensures
    c.in-Some-column_of.ensures.some) c.take_row.new.next
    (subst (λ k. IsPivot prefix.dict.now k c.in-Some-column_of.col c.take_row.new.next) c.row-row.ensures
    c.in_default-take_row.ensures.pivoted) (length c.rows.others) (omega (arith, c.rows.invariant.depth))
    c.visit_under.new.out c.in_err-visitor-in-Some.field-0.0 c.in_err-visitor-in-Some.ensures.visited)

pub returns-in_err-visitor-in-Some-clause-passes : goal.returns-in_err-visitor-in-Some-clause-passes
returns-in_err-visitor-in-Some-clause-passes g t c o e p cone fixed left marks at =
    let prefix = c.args.prefix.now in
    let q = err_from_is_err_and c.from_residual.result c.from_residual.ensures.1 in
    let far : c.in_err-visitor-in-Some.field-0.0 ≡ Ended.Overflow o =
    sym q.2 ∙ one_error c.from_residual.result (Ended.Overflow o) q.0 e q.1 in
    c.in_err-visitor-in-Some.ensures.passes o (ap (λ v. Err v) far) p cone fixed _ _
    (deeper g.V.Visit.visits g.V.Visit.ends prefix.sys.now prefix.free.now prefix.dict.now (length c.args.deeper.now)
    c.args.visitor c.args.out.now c.rows.visitor c.rows.out c.rows.i p cone fixed left marks
    (c.rows.invariant.visited p cone fixed left marks at) (omega (arith, c.rows-test.true, c.rows-i-end.ensures.value))
    c.in-Some-column_of.col (subst (λ k. IsColumnOf prefix.dict.now prefix.free.now k c.in-Some-column_of.col) c.row-row.ensures
    c.in-Some-column_of.ensures.some) c.take_row.new.next
    (subst (λ k. IsPivot prefix.dict.now k c.in-Some-column_of.col c.take_row.new.next) c.row-row.ensures
    c.in_default-take_row.ensures.pivoted) (length c.rows.others) (omega (arith, c.rows.invariant.depth)))

pub returns-in_err-visitor-in-Some-clause-room : goal.returns-in_err-visitor-in-Some-clause-room
returns-in_err-visitor-in-Some-clause-room g t c =
    room_back c.args.prefix.now.sys.now c.args.prefix.now.dict.now c.rows.next c.take_row.new.next c.rows.others
    c.visit_under.new.deeper _ c.visit_under.new.vector c.rows.invariant.room c.in_default-take_row.ensures.shape
    c.in_err-visitor-in-Some.ensures.room

pub rows-preserved : goal.rows-preserved
rows-preserved g t c =
    let prefix = c.args.prefix.now in
    let room = c.rows.invariant.room in
    elim c.match-column_of.branch [
      | in-Some-column_of+in_default-take_row+in_ok-visitor-in-Some w ↦ record {
        room = subst (λ (d : Dictionary). HasRoomFor prefix.sys.now prefix.dict.now (d ∷ c.match-column_of.others)
            c.match-column_of.vector) (sym w.next-is)
            (subst (λ (ds : List Dictionary). HasRoomFor prefix.sys.now prefix.dict.now (w.take_row.new.next ∷ ds)
            c.match-column_of.vector) (sym w.others-is)
            (subst (λ (v : Vector). HasRoomFor prefix.sys.now prefix.dict.now
            (w.take_row.new.next ∷ w.visit_under.new.deeper) v) (sym w.vector-is)
            (room_back prefix.sys.now prefix.dict.now c.rows.next w.take_row.new.next c.rows.others
            w.visit_under.new.deeper c.rows.vector w.visit_under.new.vector room w.in_default-take_row.ensures.shape
            w.in_ok-visitor-in-Some.ensures.room)));
        depth = omega (arith, ap length w.others-is, w.in_ok-visitor-in-Some.ensures.depth, c.rows.invariant.depth);
        visited = λ p cone fixed left marks at.
            subst (λ v. IsInLoop g.V.Visit.visits g.V.Visit.ends prefix.sys.now prefix.free.now prefix.dict.now
            (length c.args.deeper.now) p cone fixed left marks c.args.visitor c.args.out.now v c.match-column_of.out
            (c.rows.i + 1)) (sym w.visitor-is)
            (subst (λ o. IsInLoop g.V.Visit.visits g.V.Visit.ends prefix.sys.now prefix.free.now prefix.dict.now
            (length c.args.deeper.now) p cone fixed left marks c.args.visitor c.args.out.now
            w.in_ok-visitor-in-Some.visitor o (c.rows.i + 1)) (sym w.out-is)
            (goes_on g.V.Visit.visits g.V.Visit.ends prefix.sys.now prefix.free.now prefix.dict.now
            (length c.args.deeper.now) c.args.visitor c.args.out.now c.rows.visitor c.rows.out c.rows.i
            p cone fixed left marks (c.rows.invariant.visited p cone fixed left marks at)
            (omega (arith, c.rows-test.true, c.rows-i-end.ensures.value)) w.in-Some-column_of.col
            (subst (λ k. IsColumnOf prefix.dict.now prefix.free.now k w.in-Some-column_of.col) c.row-row.ensures
            w.in-Some-column_of.ensures.some) w.take_row.new.next (subst (λ k. IsPivot prefix.dict.now k w.in-Some-column_of.col w.take_row.new.next) c.row-row.ensures
            w.in_default-take_row.ensures.pivoted)
            (length c.rows.others) (omega (arith, c.rows.invariant.depth)) w.visit_under.new.out
            w.in_ok-visitor-in-Some.visitor w.in_ok-visitor-in-Some.ensures.visited));
        some = subst (λ v. HasVisited g.V.Visit.visits c.args.visitor c.args.out.now v c.match-column_of.out)
            (sym w.visitor-is)
            (subst (λ o. HasVisited g.V.Visit.visits c.args.visitor c.args.out.now w.in_ok-visitor-in-Some.visitor o)
            (sym w.out-is)
            (some_then g.V.Visit.visits g.V.Visit.ends c.args.visitor c.rows.visitor w.in_ok-visitor-in-Some.visitor
            c.args.out.now c.rows.out w.visit_under.new.out c.rows.invariant.some
            w.in_ok-visitor-in-Some.ensures.some));
      }
      | in_default w ↦ record {
        room = subst (λ (d : Dictionary). HasRoomFor prefix.sys.now prefix.dict.now (d ∷ c.match-column_of.others)
            c.match-column_of.vector) (sym w.next-is)
            (subst (λ (ds : List Dictionary). HasRoomFor prefix.sys.now prefix.dict.now (c.rows.next ∷ ds)
            c.match-column_of.vector) (sym w.others-is)
            (subst (λ (v : Vector). HasRoomFor prefix.sys.now prefix.dict.now (c.rows.next ∷ c.rows.others) v)
            (sym w.vector-is) room));
        depth = omega (arith, ap length w.others-is, c.rows.invariant.depth);
        visited = λ p cone fixed left marks at.
            subst (λ v. IsInLoop g.V.Visit.visits g.V.Visit.ends prefix.sys.now prefix.free.now prefix.dict.now
            (length c.args.deeper.now) p cone fixed left marks c.args.visitor c.args.out.now v c.match-column_of.out
            (c.rows.i + 1)) (sym w.visitor-is)
            (subst (λ o. IsInLoop g.V.Visit.visits g.V.Visit.ends prefix.sys.now prefix.free.now prefix.dict.now
            (length c.args.deeper.now) p cone fixed left marks c.args.visitor c.args.out.now c.rows.visitor o
            (c.rows.i + 1)) (sym w.out-is)
            (skipped g.V.Visit.visits g.V.Visit.ends prefix.sys.now prefix.free.now prefix.dict.now
            (length c.args.deeper.now) c.args.visitor c.args.out.now c.rows.visitor c.rows.out c.rows.i
            p cone fixed left marks (c.rows.invariant.visited p cone fixed left marks at)
            (omega (arith, c.rows-test.true, c.rows-i-end.ensures.value)) (subst (λ k. HasNoColumn prefix.dict.now prefix.free.now k) c.row-row.ensures
            (w.in_default.ensures.none refl))));
        some = subst (λ v. HasVisited g.V.Visit.visits c.args.visitor c.args.out.now v c.match-column_of.out)
            (sym w.visitor-is)
            (subst (λ o. HasVisited g.V.Visit.visits c.args.visitor c.args.out.now c.rows.visitor o) (sym w.out-is)
            c.rows.invariant.some);
      }
    ]

pub returns-in-None-clause-visited : goal.returns-in-None-clause-visited
returns-in-None-clause-visited g t c p cone fixed left marks at =
    let prefix = c.args.prefix.now in
    c.visit_left.ensures.visited p cone fixed left marks
    (subst (λ n. IsAt prefix.sys.now prefix.free.now prefix.dict.now prefix.from n p cone fixed left marks)
    (let z = c.in-None.ensures.cases in omega arith) at)

pub returns-after-rows-clause-visited : goal.returns-after-rows-clause-visited
returns-after-rows-clause-visited g t c p cone fixed left marks at =
    let prefix = c.args.prefix.now in
    ends_loop g.V.Visit.visits g.V.Visit.ends prefix.sys.now prefix.free.now prefix.dict.now (length c.args.deeper.now)
    c.args.visitor c.args.out.now c.rows.visitor c.rows.out c.rows.i p cone fixed left marks
    (c.rows.invariant.visited p cone fixed left marks at)
    (omega (arith, c.rows-test.false, c.rows-i-end.ensures.value)) (omega (arith, c.rows.invariant.depth))

pub returns-in-Err-clause-some : goal.returns-in-Err-clause-some
returns-in-Err-clause-some g t c =
    some_stopped g.V.Visit.visits g.V.Visit.ends c.args.visitor c.rows.visitor c.args.out.now c.rows.out
    c.in-Err.overflow c.rows.invariant.some

pub returns-in_err-visitor-in-Some-clause-some : goal.returns-in_err-visitor-in-Some-clause-some
returns-in_err-visitor-in-Some-clause-some g t c =
    let q = err_from_is_err_and c.from_residual.result c.from_residual.ensures.1 in
    subst (λ r. VisitsSome g.V.Visit.visits g.V.Visit.ends c.args.visitor c.args.out.now c.visit_under.new.out r)
    (sym (q.1 ∙ ap (λ x. Err x) q.2))
    (some_broke g.V.Visit.visits g.V.Visit.ends c.args.visitor c.rows.visitor c.args.out.now c.rows.out
    c.visit_under.new.out c.in_err-visitor-in-Some.field-0.0 c.rows.invariant.some
    c.in_err-visitor-in-Some.ensures.some)

pub returns-after-rows-clause-some : goal.returns-after-rows-clause-some
returns-after-rows-clause-some g t c =
    some_all g.V.Visit.visits g.V.Visit.ends c.args.visitor c.rows.visitor c.args.out.now c.rows.out
    c.rows.invariant.some
