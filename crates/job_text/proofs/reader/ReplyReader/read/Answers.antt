use Rattle.std.proofs.Common.{◌≡◌, ◌∙◌, ◌+◌, ◌++◌, ℕ, List, length, refl, sym, ap, subst, arith, rules, length-append, Result, Ok, Err, true, false}
use Rattle.std.specs.Result.{IsErrOf}
use Rattle.job_text.specs.Replies.{IsNotWhole, reply_head}
use Rattle.job_text.specs.RowTexts.{shown_rows}
use Rattle.poly_num.specs.Vectors.{Vector}
use Rattle.job_text.specs.Scans.{StopsScanAt, IsScanOf}
use Rattle.job_text.specs.declared.scan.Scan.{Scan}
use Rattle.job_text.specs.declared.reply.Reply.{Reply}
use Rattle.job_text.specs.declared.stops.ReplyStop.{ReplyStop}
use Rattle.job_text.specs.declared.stops.ReplyStop.TheVariants.{NotWhole, Memory}
use Rattle.job_text.proofs.NotWholeLemmas.{no_head, not_whole, stop_within, head_is, head_from, other_head}
use Rattle.job_text.proofs.OneReplyLemmas.{one_reply}
use Rattle.job_text.proofs.RowTextLemmas.{rows_are}
use Rattle.job_text.proofs.reader.ReplyReader.read.Goals as goal

stop_of : Result Reply ReplyStop → ReplyStop
stop_of (Err stop) = stop
stop_of (Ok reply) = Memory

abbrev as_error : ReplyStop → Result Scan ReplyStop
as_error stop = Err stop

place_of : ReplyStop → ℕ
place_of (NotWhole place) = place
place_of Memory = 0

the_stop : (stop : ReplyStop) (place : ℕ) → IsErrOf {T = Reply} {E = ReplyStop} (Err stop) (NotWhole place) → stop ≡ NotWhole place
unfolding stop_of
the_stop stop place e = ap stop_of e

at_start : (n : ℕ) (key text : List ℕ) (place : ℕ) → IsNotWhole n key text 0
    → IsErrOf {T = Reply} {E = ReplyStop} (Err (NotWhole 0)) (NotWhole place) → IsNotWhole n key text place
unfolding place_of
at_start n key text place h e = subst (IsNotWhole n key text) (ap place_of (the_stop (NotWhole 0) place e)) h

pub returns-in-None-clause-not_whole : goal.returns-in-None-clause-not_whole
returns-in-None-clause-not_whole c place e =
    at_start c.args.n c.args.key.now c.args.text.now place
    (no_head c.args.n c.args.key.now c.args.text.now (λ more has is.
    c.in-None.ensures.none refl c.args.key.now more has (head_is c.args.key.now more is))) e

pub returns-then-not-is_same-clause-not_whole : goal.returns-then-not-is_same-clause-not_whole
returns-then-not-is_same-clause-not_whole c place e =
    let k = c.in-Some.ensures.some in
    at_start c.args.n c.args.key.now c.args.text.now place
    (no_head c.args.n c.args.key.now c.args.text.now (λ more has is.
    let same = other_head c.in-Some.found.0 c.args.key.now c.in-Some.found.1.now more k.0 has k.1 (head_is c.args.key.now more is) in
    let holds = c.is_same.ensures.1 same in
    let no : true ≡ false = sym holds ∙ c.if-not-is_same.true in absurd cc)) e

pub further-requires : goal.further-requires
further-requires c place e =
    let k = c.in-Some.ensures.some in
    let n : length c.in_ok-row.row.items ≡ c.args.n = c.in_ok-row.ensures in
    let s = c.in-Err.ensures.stop place (ap as_error e) in
    let le = stop_within _ _ _ s in
    omega (arith, le)

pub returns-in-Ok-clause-ok : goal.returns-in-Ok-clause-ok
returns-in-Ok-clause-ok c =
    let k = c.in-Some.ensures.some in
    let s = c.in-Ok.ensures.ok in
    let size : length c.deref_mut.result.now ≡ c.args.n = search rules in
    let t = subst (λ (n : ℕ). IsScanOf n c.in-Some.found.1.now c.in-Ok.scan) size s in (
      c.is_same.ensures.0 c.if-not-is_same.false,
      record {
        key = k.0;
        lines = t.lines;
        fit = t.fit;
        rows = c.of_lines.ensures ∙ ap shown_rows t.front ∙ rows_are c.args.n t.lines t.fit;
        keys = t.keys_are;
        tail = t.ends;
        is_text = head_from c.in-Some.found.0 c.in-Some.found.1.now k.1
            ∙ ap (λ (l : List ℕ). reply_head c.in-Some.found.0 ++ l) t.split;
      },
    )

pub of_lines-requires : goal.of_lines-requires
of_lines-requires c =
    let s = c.in-Ok.ensures.ok in
    s.rows_are ∙ ap (λ (rows : List Vector). length rows) (sym (ap shown_rows s.front ∙ rows_are _ s.lines s.fit))

pub returns-in-Ok-clause-one : goal.returns-in-Ok-clause-one
returns-in-Ok-clause-one c other whole =
    one_reply c.args.n other _ c.args.text.now (omega arith) whole (returns-in-Ok-clause-ok c).1

pub returns-clause-not_whole : goal.returns-clause-not_whole
returns-clause-not_whole c place e =
    let k = c.in-Some.ensures.some in
    let key : c.in-Some.found.0 ≡ c.args.key.now = c.is_same.ensures.0 c.if-not-is_same.false in
    let text = head_from c.in-Some.found.0 c.in-Some.found.1.now k.1 in
    let (inner, is, at) = c.further.ensures place (the_stop _ place e) in
    let stop = c.in-Err.ensures.stop inner (ap as_error is) in
    let size : length c.deref_mut.result.now ≡ c.args.n = search rules in
    let s = subst (λ (n : ℕ). StopsScanAt n c.in-Some.found.1.now inner) size stop in
    let start : length (reply_head c.in-Some.found.0) + inner ≡ place =
    omega (arith, at, ap (λ (l : List ℕ). length l) text, length-append (reply_head c.in-Some.found.0) c.in-Some.found.1.now) in
    subst (IsNotWhole c.args.n c.args.key.now c.args.text.now) start
    (rw (← key) (not_whole c.args.n c.in-Some.found.0 c.args.text.now c.in-Some.found.1.now inner k.0 text s))
