use Rattle.std.proofs.Common.{arith}
use Rattle.job_text.proofs.LeftRowLemmas.{ends_rows, fewer_behind, gives_back, no_other, row_line_is, shows_next, some_line_left}
use Rattle.job_text.proofs.rows.next_row.Goals as goal

pub returns-in_default-clause-bad : goal.returns-in_default-clause-bad
returns-in_default-clause-bad c n rows left =
    some_line_left n rows c.lines.left.now c.in_default.ensures (c.lines.invariant.left n rows left)

pub returns-then-not-goes_on-clause-bad : goal.returns-then-not-goes_on-clause-bad
returns-then-not-goes_on-clause-bad c n rows left =
    c.goes_on.ensures.no c.if-not-goes_on.true
    (shows_next n rows c.lines.left.now c.in-Some.line.now c.in-Some.rest.now c.in-Some.ensures
    c.in-Some-strip_front.entries.now c.in-Some-strip_front.ensures (c.lines.invariant.left n rows left)).1

pub returns-in-Some-strip_front-clause-row : goal.returns-in-Some-strip_front-clause-row
returns-in-Some-strip_front-clause-row c n rows left =
    rw (row_line_is c.lines.left.now c.in-Some.line.now c.in-Some.rest.now c.in-Some-strip_front.entries.now
    c.in-Some.ensures c.in-Some-strip_front.ensures)
    (shows_next n rows c.lines.left.now c.in-Some.line.now c.in-Some.rest.now c.in-Some.ensures
    c.in-Some-strip_front.entries.now c.in-Some-strip_front.ensures (c.lines.invariant.left n rows left)).0

pub returns-in-Some-strip_front-clause-blank : goal.returns-in-Some-strip_front-clause-blank
returns-in-Some-strip_front-clause-blank c = record {
  entries = c.in-Some-strip_front.entries.now;
  whole = row_line_is c.lines.left.now c.in-Some.line.now c.in-Some.rest.now c.in-Some-strip_front.entries.now
      c.in-Some.ensures c.in-Some-strip_front.ensures;
  blank = c.goes_on.ensures.yes c.if-not-goes_on.false;
}

pub returns-in-Some-strip_front-clause-fewer : goal.returns-in-Some-strip_front-clause-fewer
returns-in-Some-strip_front-clause-fewer c =
    let less = fewer_behind c.lines.left.now c.in-Some.line.now c.in-Some.rest.now c.in-Some.ensures in
    let most = c.lines.invariant.size in omega (arith, less, most)

pub returns-in-Some-strip_front-3-clause-end : goal.returns-in-Some-strip_front-3-clause-end
returns-in-Some-strip_front-3-clause-end c none n rows left =
    ends_rows n rows c.lines.left.now c.in-Some.line.now c.in-Some.rest.now c.in-Some.ensures
    c.in-Some-strip_front-3._count.now c.in-Some-strip_front-3.ensures (c.lines.invariant.left n rows left)

pub returns-in-None-clause-bad : goal.returns-in-None-clause-bad
returns-in-None-clause-bad c n rows left =
    no_other n rows c.lines.left.now c.in-Some.line.now c.in-Some.rest.now c.in-Some.ensures
    c.in_default-strip_front.ensures c.in_default-strip_front-2.ensures c.in-None.ensures
    (c.lines.invariant.left n rows left)

pub lines-preserved : goal.lines-preserved
lines-preserved c =
    let less = fewer_behind c.lines.left.now c.in-Some.line.now c.in-Some.rest.now c.in-Some.ensures in
    let most = c.lines.invariant.size in
    record {
      left = λ n rows left.
          gives_back n rows c.lines.left.now c.in-Some.line.now c.in-Some.rest.now c.in-Some.ensures
          c.in-Some-strip_front-2._key.now c.in-Some-strip_front-2.ensures (c.lines.invariant.left n rows left);
      size = omega (arith, less, most);
    }
