use Rattle.std.proofs.Common.{◌∙◌, [], List, ℕ, length, refl, sym, ap, arith}
use Rattle.std.proofs.lemmas.Bool.{eqb-false, eqb-true}
use Rattle.plain_text.proofs.ReadLemmas.{none_read, some_read}
use Rattle.job_text.proofs.EndLemmas.{bases_text, jobs_text, end_pieces, rows_in_front, jobs_in_front, bases_in_front, end_read, empty_from_length, small}
use Rattle.job_text.proofs.ends.read_end.Goals as goal

pub returns-in-None : goal.returns-in-None
returns-in-None c = none_read (λ o h is.
    let m = small c.args.rows c.args.jobs o h (omega arith) (omega arith) in
    c.in-None.ensures.none refl o.rows (jobs_text o) m.rows refl (is ∙ end_pieces o))

pub returns-in-None-next_count : goal.returns-in-None-next_count
returns-in-None-next_count c = none_read (λ o h is.
    let m = small c.args.rows c.args.jobs o h (omega arith) (omega arith) in
    let rows = rows_in_front o m is c.in-Some.ensures in
    c.in-None-next_count.ensures.none refl o.jobs (bases_text o) m.jobs refl rows.1)

pub returns-in-None-next_count-2 : goal.returns-in-None-next_count-2
returns-in-None-next_count-2 c = none_read (λ o h is.
    let m = small c.args.rows c.args.jobs o h (omega arith) (omega arith) in
    let jobs = jobs_in_front o m is c.in-Some.ensures c.in-Some-next_count.ensures in
    c.in-None-next_count-2.ensures.none refl o.bases ([]) m.bases tt jobs.1)

pub returns-then-shown-rows : goal.returns-then-shown-rows
returns-then-shown-rows c = none_read (λ o h is.
    let m = small c.args.rows c.args.jobs o h (omega arith) (omega arith) in
    let rows = rows_in_front o m is c.in-Some.ensures in
    c.if-shown-rows.true (rows.0 ∙ h.rows_are))

pub returns-then-given-jobs : goal.returns-then-given-jobs
returns-then-given-jobs c = none_read (λ o h is.
    let m = small c.args.rows c.args.jobs o h (omega arith) (omega arith) in
    let jobs = jobs_in_front o m is c.in-Some.ensures c.in-Some-next_count.ensures in
    c.if-given-jobs.true (jobs.0 ∙ h.jobs_are))

pub returns-then-bases-eq0 : goal.returns-then-bases-eq0
returns-then-bases-eq0 c = none_read (λ o h is.
    let m = small c.args.rows c.args.jobs o h (omega arith) (omega arith) in
    let bases = bases_in_front o m is c.in-Some.ensures c.in-Some-next_count.ensures c.in-Some-next_count-2.ensures in
    omega (arith, bases.0, h.some, c.if-bases-eq0.true))

pub returns-then-bases-gt-MOST_BASES : goal.returns-then-bases-gt-MOST_BASES
returns-then-bases-gt-MOST_BASES c = none_read (λ o h is.
    let m = small c.args.rows c.args.jobs o h (omega arith) (omega arith) in
    let bases = bases_in_front o m is c.in-Some.ensures c.in-Some-next_count.ensures c.in-Some-next_count-2.ensures in
    omega (arith, bases.0, h.most, c.if-bases-gt-MOST_BASES.true))

pub returns-then-not-is_empty : goal.returns-then-not-is_empty
returns-then-not-is_empty c = none_read (λ o h is.
    let m = small c.args.rows c.args.jobs o h (omega arith) (omega arith) in
    let bases = bases_in_front o m is c.in-Some.ensures c.in-Some-next_count.ensures c.in-Some-next_count-2.ensures in
    eqb-false (length c.in-Some-next_count-2.found.1.now) 0 (sym c.is_empty.ensures ∙ c.if-not-is_empty.true)
    (ap (λ (t : List ℕ). length t) bases.1))

pub returns : goal.returns
returns c =
    let s0 = c.in-Some.ensures.some in
    let s1 = c.in-Some-next_count.ensures.some in
    let s2 = c.in-Some-next_count-2.ensures.some in
    some_read _ (record { rows_are = refl; jobs_are = refl; some = omega (arith, c.if-bases-eq0.false); most = omega (arith, c.if-bases-gt-MOST_BASES.false) })
    (end_read (record { rows = c.args.rows; jobs = c.args.jobs; bases = c.in-Some-next_count-2.found.0 }) c.if-shown-rows.false
    c.if-given-jobs.false s0.1 s1.1 s2.1
    (empty_from_length c.in-Some-next_count-2.found.1.now (eqb-true (length c.in-Some-next_count-2.found.1.now) 0 (sym c.is_empty.ensures ∙ c.if-not-is_empty.false))))
