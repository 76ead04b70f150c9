use Rattle.std.proofs.Common.{◌≡◌, ◌∙◌, ◌++◌, ◌∷◌, [], ℕ, List, length, length-append, take, refl, sym, ap, subst, arith, rules, Result, Option, Err}
use Rattle.std.specs.Result.{IsErrOf}
use Rattle.std.proofs.lemmas.Bool.{eqb-true, eqb-false}
use Rattle.std.proofs.Math.Seq.{take-append_seam}
use Rattle.plain_text.specs.Texts.{IsReadOf}
use Rattle.plain_text.proofs.ReadLemmas.{read_none, read_at}
use Rattle.job_text.specs.Fits.{Said, MaySay, said_text}
use Rattle.work_core.specs.ReplyLines.{lines_text, row_line}
use Rattle.job_text.specs.LineTexts.{IsReplyLine}
use Rattle.job_text.specs.Scans.{StopsScanAt}
use Rattle.job_text.specs.declared.scan.Scan.{Scan}
use Rattle.job_text.specs.declared.stops.ReplyStop.{ReplyStop}
use Rattle.job_text.specs.declared.stops.ReplyStop.TheVariants.{NotWhole}
use Rattle.job_text.proofs.EndLemmas.{empty_from_length}
use Rattle.job_text.proofs.ScanLemmas.{no_line_left, no_fit, more_behind, tail_ends, tail_may, row_scanned, job_scanned}
use Rattle.job_text.proofs.scan.scan_lines.Goals as goal

place_of : Result Scan ReplyStop → ℕ
place_of (Err (NotWhole place)) = place
place_of _ = 0

stopped : (n : ℕ) (text : List ℕ) (at place : ℕ) → StopsScanAt n text at → IsErrOf {T = Scan} {E = ReplyStop} (Err (NotWhole at)) (NotWhole place)
    → StopsScanAt n text place
unfolding place_of
stopped n text at place h e = subst (StopsScanAt n text) (ap place_of e) h

-- what a line says, in the numbers of the loop
said_of : (n m rows jobs count : ℕ) {line : List ℕ} {said : Option Said} → m ≡ n → count ≡ jobs
    → IsReadOf (MaySay m rows count) said_text line said → IsReadOf (MaySay n rows jobs) said_text line said
said_of n m rows jobs count {line = line} {said = said} e f h =
    subst (λ (k : ℕ). IsReadOf (MaySay k rows jobs) said_text line said) e
    (subst (λ (k : ℕ). IsReadOf (MaySay m rows k) said_text line said) f h)

pub returns-in-None-clause-stop : goal.returns-in-None-clause-stop
returns-in-None-clause-stop c place e =
    let l = c.lines in
    stopped (length c.args.row.now) c.args.text.now l.place place
    (no_line_left _ _ _ _ _ _ l.invariant.scanned (omega (arith, l.invariant.few)) (omega (arith, l.invariant.few_keys)) c.in-None.ensures) e

pub returns-in-No-clause-stop : goal.returns-in-No-clause-stop
returns-in-No-clause-stop c place e =
    let l = c.lines in
    stopped (length c.args.row.now) c.args.text.now l.place place
    (no_fit _ _ _ _ _ _ l.invariant.scanned (omega (arith, l.invariant.few)) (omega (arith, l.invariant.few_keys)) c.in-Some.found.0.now c.in-Some.found.1.now c.in-Some.ensures
    (λ x may is. read_none refl (said_of (length c.args.row.now) (length c.is_row.new.row) l.rows (length l.keys) c.len.result (c.is_row.ensures.size ∙ l.invariant.size) (search rules) c.in-No.ensures.fits) x may is)) e

pub returns-in-Last-clause-stop : goal.returns-in-Last-clause-stop
returns-in-Last-clause-stop c place e =
    let l = c.lines in
    let k = read_at refl (said_of (length c.args.row.now) (length c.is_row.new.row) l.rows (length l.keys) c.len.result (c.is_row.ensures.size ∙ l.invariant.size) (search rules) c.in-Last.ensures.fits) in
    stopped (length c.args.row.now) c.args.text.now _ place
    (more_behind _ _ _ _ _ _ l.invariant.scanned (omega (arith, l.invariant.few)) (omega (arith, l.invariant.few_keys)) c.in-Some.found.0.now c.in-Some.found.1.now c.in-Some.ensures
    c.in-Last.tail k.0 k.1
    (λ none. eqb-false (length c.in-Some.found.1.now) 0 (sym c.is_empty.ensures ∙ c.if-is_empty.false) (ap (λ (t : List ℕ). length t) none))) e

pub returns-then-is_empty-clause-ok : goal.returns-then-is_empty-clause-ok
returns-then-is_empty-clause-ok c =
    let l = c.lines in
    let s = l.invariant.scanned in
    let k = read_at refl (said_of (length c.args.row.now) (length c.is_row.new.row) l.rows (length l.keys) c.len.result (c.is_row.ensures.size ∙ l.invariant.size) (search rules) c.in-Last.ensures.fits) in
    let empty = empty_from_length c.in-Some.found.1.now
    (eqb-true (length c.in-Some.found.1.now) 0 (sym c.is_empty.ensures ∙ c.if-is_empty.true)) in
    record {
      lines = s.lines;
      fit = s.fit;
      split = tail_ends _ _ _ _ _ _ s (omega (arith, l.invariant.few)) (omega (arith, l.invariant.few_keys)) c.in-Some.found.0.now c.in-Some.found.1.now c.in-Some.ensures c.in-Last.tail k.1 empty;
      front =
          ap (λ (t : List ℕ). take l.place t) s.split ∙ ap (λ (k : ℕ). take k (lines_text s.lines ++ l.rest.now)) s.size
          ∙ take-append_seam (lines_text s.lines) l.rest.now;
      rows_are = s.rows_are;
      keys_are = s.keys_are;
      ends = tail_may _ _ _ _ _ _ s (omega (arith, l.invariant.few)) (omega (arith, l.invariant.few_keys)) c.in-Some.found.0.now c.in-Some.found.1.now c.in-Some.ensures c.in-Last.tail k.0;
    }

pub lines-preserved-then-is_row : goal.lines-preserved-then-is_row
lines-preserved-then-is_row c =
    let l = c.lines in
    let shown = c.is_row.ensures.yes c.if-is_row.true in
    record {
      scanned =
          row_scanned _ _ _ _ _ _ l.invariant.scanned (omega (arith, l.invariant.few)) (omega (arith, l.invariant.few_keys)) c.in-Some.found.0.now c.in-Some.found.1.now c.in-Some.ensures
          c.is_row.new.row (subst (λ (n : ℕ). IsReplyLine n (row_line c.is_row.new.row)) l.invariant.size shown.0) shown.1;
      size = c.is_row.ensures.size ∙ l.invariant.size;
      few = omega (arith, l.invariant.few);
      few_keys = omega (arith, l.invariant.few_keys);
    }

pub lines-preserved-in-Row : goal.lines-preserved-in-Row
lines-preserved-in-Row c =
    let l = c.lines in
    let k = read_at refl (said_of (length c.args.row.now) (length c.is_row.new.row) l.rows (length l.keys) c.len.result (c.is_row.ensures.size ∙ l.invariant.size) (search rules) c.in-Row.ensures.fits) in
    record {
      scanned =
          row_scanned _ _ _ _ _ _ l.invariant.scanned (omega (arith, l.invariant.few)) (omega (arith, l.invariant.few_keys)) c.in-Some.found.0.now c.in-Some.found.1.now c.in-Some.ensures
          c.fit_line.new.row k.0 k.1;
      size = c.in-Row.ensures.size ∙ c.is_row.ensures.size ∙ l.invariant.size;
      few = omega (arith, l.invariant.few);
      few_keys = omega (arith, l.invariant.few_keys);
    }

pub lines-preserved : goal.lines-preserved
lines-preserved c =
    let l = c.lines in
    let k = read_at refl (said_of (length c.args.row.now) (length c.is_row.new.row) l.rows (length l.keys) c.len.result (c.is_row.ensures.size ∙ l.invariant.size) (search rules) c.in-Job.ensures.fits) in
    record {
      scanned =
          job_scanned _ _ _ _ _ _ l.invariant.scanned (omega (arith, l.invariant.few)) (omega (arith, l.invariant.few_keys)) c.in-Some.found.0.now c.in-Some.found.1.now c.in-Some.ensures
          c.in-Job.key _ k.0 k.1 (search rules);
      size = c.in-Job.ensures.size ∙ c.is_row.ensures.size ∙ l.invariant.size;
      few = omega (arith, l.invariant.few);
      few_keys = omega (arith, l.invariant.few_keys, ap (λ (keys : List (List ℕ)). length keys) c.in_ok-push-in-Job.ensures.ok, length-append l.keys (c.in-Job.key ∷ []));
    }
