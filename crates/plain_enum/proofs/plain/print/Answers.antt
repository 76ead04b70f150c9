use Rattle.std.proofs.Common.{◌≡◌, ◌≤◌, ℕ, List, Err, refl, sym, ap, subst, ◌∙◌, ◌++◌, length}
use Rattle.std.proofs.lemmas.Result.{err_from_is_err_and}
use Rattle.std.specs.Io.KnownBytes.{Appends}
use Rattle.std.specs.List.{flat_map}
use Rattle.poly_num.specs.Vectors.{Vector}
use Rattle.poly_io.specs.Causes.{Rose}
use Rattle.poly_io.specs.Written.{AppendsPart}
use Rattle.poly_model.specs.declared.kind.Kind.{Kind}
use Rattle.poly_model.specs.ListingText.{head_text, vector_text}
use Rattle.poly_model.specs.Systems.{System, Polyhedron, cone_of}
use Rattle.linearity.proofs.Errors.{one_error}
use Rattle.plain_enum.specs.declared.prefix.Ended.TheVariants as Ended
use Rattle.plain_enum.specs.Begin.{begun_cone}
use Rattle.plain_enum.proofs.BeginAt.{begun_lines, is_cone_of}
use Rattle.plain_enum.proofs.ListingParts.{stops_in_head, stops_in_rows, stops_in_end, ends_whole}
use Rattle.plain_enum.proofs.RowsShown.{stopped, not_stopped, cause_after}
use Rattle.plain_enum.proofs.plain.print.Goals as goal

-- what is written before the rows, of the kind and the width that the system tells
same_head : (p : Polyhedron) (sys : System) (lines : List Vector) (kind : Kind) (n : ℕ) → sys ≡ cone_of p →
    kind ≡ sys.kind → n ≡ sys.n →
    head_text kind n (length lines) ++ flat_map vector_text lines
    ≡ head_text p.kind p.n (length lines) ++ flat_map vector_text lines
same_head p sys lines kind n file e f =
    ap (λ k. head_text k n (length lines) ++ flat_map vector_text lines) (e ∙ ap (λ (s : System). s.kind) file)
    ∙ ap (λ m. head_text p.kind m (length lines) ++ flat_map vector_text lines) (f ∙ ap (λ (s : System). s.n) file)

pub returns-in-Err-clause-written : goal.returns-in-Err-clause-written
returns-in-Err-clause-written g c p last file b same =
    let old = g.S.Sink.written c.args.out.now in
    let mid = g.S.Sink.written c.begin.new.out in
    stops_in_head c.args.start.now.sys.now p (begun_cone p c.args.start.now.free.now c.args.start.now.dict.now) file
    (is_cone_of p c.args.start.now.dict.now last c.args.start.now.free.now b c.args.start.now.sys.now file)
    c.args.lines.now
    (begun_lines p c.args.start.now.dict.now last c.args.start.now.free.now b c.args.start.now.sys.now c.args.lines.now
    file same) old mid _ refl
    (subst (λ t. AppendsPart old mid t)
    (same_head p c.args.start.now.sys.now c.args.lines.now c.kind.result c.n.result file c.kind.ensures c.n.ensures.value)
    c.in-Err.ensures.prints.part)

pub returns-in_err-listing-clause-written : goal.returns-in_err-listing-clause-written
returns-in_err-listing-clause-written g c p last file b same =
    let old = g.S.Sink.written c.args.out.now in
    let mid = g.S.Sink.written c.begin.new.out in
    stops_in_rows c.args.start.now.sys.now p (begun_cone p c.args.start.now.free.now c.args.start.now.dict.now) file
    (is_cone_of p c.args.start.now.dict.now last c.args.start.now.free.now b c.args.start.now.sys.now file)
    c.args.lines.now
    (begun_lines p c.args.start.now.dict.now last c.args.start.now.free.now b c.args.start.now.sys.now c.args.lines.now
    file same)
    old mid (g.S.Sink.written c.list_rows.new.out) c.from_residual.result c.from_residual.ensures.0
    (subst (λ t. Appends old mid t)
    (same_head p c.args.start.now.sys.now c.args.lines.now c.kind.result c.n.result file c.kind.ensures c.n.ensures.value)
    c.in-Ok.ensures.prints.whole)
    (c.in_err-listing.ensures.written p last file b).part

pub returns-in_err-listing-clause-passes : goal.returns-in_err-listing-clause-passes
returns-in_err-listing-clause-passes g c o e p last file b =
    let q = err_from_is_err_and c.from_residual.result c.from_residual.ensures.1 in
    let far : c.in_err-listing.field-0.0 ≡ Ended.Overflow o =
    sym q.2 ∙ one_error c.from_residual.result (Ended.Overflow o) q.0 e q.1 in
    c.in_err-listing.ensures.passes o (ap (λ v. Err v) far) p last file b

pub returns-in-Ok-finish-clause-written : goal.returns-in-Ok-finish-clause-written
returns-in-Ok-finish-clause-written g c p last file b same =
    let start = c.args.start.now in
    let old = g.S.Sink.written c.args.out.now in
    let mid = g.S.Sink.written c.begin.new.out in
    ends_whole start.sys.now p (begun_cone p start.free.now start.dict.now) file
    (is_cone_of p start.dict.now last start.free.now b start.sys.now file) c.args.lines.now
    (begun_lines p start.dict.now last start.free.now b start.sys.now c.args.lines.now file same)
    old mid (g.S.Sink.written c.list_rows.new.out) (g.S.Sink.written c.finish.new.out) _ refl
    (subst (λ t. Appends old mid t)
    (same_head p start.sys.now c.args.lines.now c.kind.result c.n.result file c.kind.ensures c.n.ensures.value)
    c.in-Ok.ensures.prints.whole) c.none.result.tally c.in_ok-listing.field-0.tally c.none.ensures.rows refl
    (c.in_ok-listing.ensures.written p last file b).whole c.in-Ok-finish.ensures.whole

pub returns-in-Err-finish-clause-written : goal.returns-in-Err-finish-clause-written
returns-in-Err-finish-clause-written g c p last file b same =
    let start = c.args.start.now in
    let old = g.S.Sink.written c.args.out.now in
    let mid = g.S.Sink.written c.begin.new.out in
    let rows = (c.in_ok-listing.ensures.written p last file b).whole in
    stops_in_end start.sys.now p (begun_cone p start.free.now start.dict.now) file
    (is_cone_of p start.dict.now last start.free.now b start.sys.now file) c.args.lines.now
    (begun_lines p start.dict.now last start.free.now b start.sys.now c.args.lines.now file same)
    old mid (g.S.Sink.written c.list_rows.new.out) (g.S.Sink.written c.finish.new.out) _ refl
    (subst (λ t. Appends old mid t)
    (same_head p start.sys.now c.args.lines.now c.kind.result c.n.result file c.kind.ensures c.n.ensures.value)
    c.in-Ok.ensures.prints.whole) rows.0 rows.1 rows.2.bytes c.in-Err-finish.ensures.part

-- ---- the faults
pub returns-in-Err-clause-cause : goal.returns-in-Err-clause-cause
returns-in-Err-clause-cause g c =
    stopped (g.S.Sink.faults c.args.out.now) (g.S.Sink.faults c.begin.new.out) c.in-Err.fault
    c.in-Err.ensures.prints.cause.later c.in-Err.ensures.prints.cause.failed

pub returns-in_err-listing-clause-cause : goal.returns-in_err-listing-clause-cause
returns-in_err-listing-clause-cause g c =
    let q = err_from_is_err_and c.from_residual.result c.from_residual.ensures.1 in
    cause_after (g.S.Sink.faults c.args.out.now) (g.S.Sink.faults c.begin.new.out)
    (g.S.Sink.faults c.list_rows.new.out) c.in_err-listing.field-0.0
    c.from_residual.result c.in-Ok.ensures.prints.cause.same
    (q.1 ∙ ap (λ x. Err x) q.2) c.in_err-listing.ensures.cause

pub returns-in-Ok-finish-clause-cause : goal.returns-in-Ok-finish-clause-cause
returns-in-Ok-finish-clause-cause g c =
    not_stopped (g.S.Sink.faults c.args.out.now) (g.S.Sink.faults c.finish.new.out) _
    (c.in-Ok-finish.ensures.cause.same ∙ c.in_ok-listing.ensures.cause.same (λ e h. cc)
    ∙ c.in-Ok.ensures.prints.cause.same)
    (λ e h. cc)

pub returns-in-Err-finish-clause-cause : goal.returns-in-Err-finish-clause-cause
returns-in-Err-finish-clause-cause g c =
    let same = c.in_ok-listing.ensures.cause.same (λ e h. cc) ∙ c.in-Ok.ensures.prints.cause.same in
    stopped (g.S.Sink.faults c.args.out.now) (g.S.Sink.faults c.finish.new.out) c.in-Err-finish.fault
    (subst (λ n. n ≤ g.S.Sink.faults c.finish.new.out) same c.in-Err-finish.ensures.cause.later)
    (subst (λ n. Rose n (g.S.Sink.faults c.finish.new.out)) same c.in-Err-finish.ensures.cause.failed)
