-- Replies of a job: what was written is one, or the beginning of one.
use Rattle.std.proofs.Common.{inl, inr, ℕ, List, [], ◌∷◌, ◌++◌, Option, refl, arith}
use Rattle.std.specs.List.{All, AllByRecursion}
use Rattle.std.specs.Io.KnownBytes.{Appends}
use Rattle.std.proofs.KnownBytes.{Appends-trans}
use Rattle.std.proofs.lemmas.List.Elements.{All-from_recursion, All-nil, All-head, All-tail}
use Rattle.poly_num.specs.Vectors.{Vector}
use Rattle.poly_io.specs.Written.{AppendsPart}
use Rattle.poly_io.proofs.Parts.{part_before, part_after}
use Rattle.poly_model.specs.declared.listed.Count.{Count}
use Rattle.poly_model.specs.declared.overflow.Overflow.{Overflow as Passed}
use Rattle.poly_model.specs.Keys.{IsKey}
use Rattle.poly_model.specs.declared.kind.WorkKind.{WorkKind}
use Rattle.poly_model.specs.declared.kind.WorkKind.TheVariants.{Subsets, Subtrees}
use Rattle.poly_model.specs.Overflows.{Passes}
use Rattle.poly_model.specs.Systems.{Polyhedron}
use Rattle.listing_laws.proofs.ListLemmas.{all_members}
use Rattle.work_core.specs.Meanings.{Meaning, IsKeyBelow}
use Rattle.work_core.specs.Searches.{meaning_of, MayBegin}
use Rattle.work_core.specs.Splits.{Splits, AreWithin}
use Rattle.work_core.specs.ReplyLines.{ReplyLine, row_line, job_line, lines_text, rows_in_lines, keys_in_lines, IsInHand, IsWholeRun, IsCutRun, IsTornRun}
use Rattle.work_core.proofs.KeyLaws.{shares_are_extreme, keys_are_of_rows}
use Rattle.job_text.specs.declared.job.Job.{Job}
use Rattle.job_text.specs.declared.reply.Tail.{Tail}
use Rattle.job_text.specs.declared.reply.Tail.TheVariants.{End, Overflow, Memory}
use Rattle.job_text.specs.KeyTexts.{IsKeyLabel}
use Rattle.job_text.specs.Jobs.{HasHeadText}
use Rattle.job_text.specs.LineTexts.{IsReplyLine}
use Rattle.job_text.specs.Replies.{reply_head, tail_text, EndsLines}
use Rattle.job_text.specs.Rule.{search_of, Obeys, IsReply}
use Rattle.job_text.proofs.PassesLemmas.{passing_has_text}
use Rattle.worker_job.specs.Due.{IsDueBy, IsDueInJob}
use Rattle.worker_job.specs.Replies.{HasItsKey, RepliesWith, BeginsReply, IsOfAFile}

-- ---- the text of a reply
abbrev reply_text : Job → List ReplyLine → Tail → List ℕ
reply_text job lines tail = reply_head job.head.key ++ (lines_text lines ++ tail_text tail)

-- lines that fit, and a last line behind them
record IsReplyOf (job : Job) (lines : List ReplyLine) (tail : Tail) : Type 0 where
  pub fit : AllByRecursion (IsReplyLine job.poly.n) lines
  pub ends : EndsLines lines tail
  pub rule : Obeys (search_of job) job.head.key job.head.budget (rows_in_lines lines) (keys_in_lines lines) tail

abbrev reply_of : (job : Job) → HasHeadText job.head → (lines : List ReplyLine) (tail : Tail) → IsReplyOf job lines tail →
    IsReply job (reply_text job lines tail)
reply_of job head lines tail h = record {
  reply = record { key = job.head.key; rows = rows_in_lines lines; keys = keys_in_lines lines; tail = tail };
  whole = record {
    key = head.key;
    lines = lines;
    fit = h.fit;
    rows = refl;
    keys = refl;
    tail = h.ends;
    is_text = refl;
  };
  key = refl;
  rule = h.rule;
}

nothing_within : (work : Meaning) (key : List ℕ) → AreWithin work key [] []
nothing_within work key = record { rows_within = All-nil (work.in_share key); keys_within = All-nil (IsKeyBelow work key) }

starved : (job : Job) → IsReplyOf job [] Memory
starved job = record { fit = tt; ends = tt; rule = nothing_within (meaning_of (search_of job)) job.head.key }

due_passes : (work : WorkKind) (p : Polyhedron) (root key : List ℕ) (o : Passed) → IsDueBy work p root key o → Passes p o
due_passes Subsets p root key o h = h.passes
due_passes Subtrees p root key o (inl h) = h.passes
due_passes Subtrees p root key o (inr (inl h)) = h.due.passes
due_passes Subtrees p root key o (inr (inr h)) = h.passes

-- ---- replies of no line
pub starves : (job : Job) → HasHeadText job.head → (a b : Option (List ℕ)) →
    Appends a b (reply_head job.head.key ++ tail_text Memory) → RepliesWith job a b Memory
starves job head a b w = record {
  may_end = tt;
  text = reply_text job [] Memory;
  obeys = reply_of job head [] Memory (starved job);
  ends = refl;
  outcome = tt;
  written = w;
}

pub starves_in_part : (job : Job) → HasHeadText job.head → (a b : Option (List ℕ)) →
    AppendsPart a b (reply_head job.head.key ++ tail_text Memory) → BeginsReply job a b
starves_in_part job head a b w =
    record { text = reply_text job [] Memory; obeys = reply_of job head [] Memory (starved job); written = w }

module _ (job : Job) (file : IsOfAFile job) (o : Passed) (is_key : IsKey o.key) (due : IsDueInJob job o) where
  abbrev passes : Passes job.poly o
  passes = due_passes job.head.work job.poly job.head.root.key job.head.key o due

  passed : (lines : List ReplyLine) → AllByRecursion (IsReplyLine job.poly.n) lines →
      AreWithin (meaning_of (search_of job)) job.head.key (rows_in_lines lines) (keys_in_lines lines) →
      IsReplyOf job lines (Overflow o)
  passed lines fit within =
      record { fit = fit; ends = passing_has_text job.poly o file.few file.narrow is_key passes; rule = (passes, within) }

  abbrev alone : IsReply job (reply_text job [] (Overflow o))
  alone =
      reply_of job file.head [] (Overflow o) (passed [] tt (nothing_within (meaning_of (search_of job)) job.head.key))

  pub passes_alone : (a b : Option (List ℕ)) → Appends a b (reply_head job.head.key ++ tail_text (Overflow o)) →
      RepliesWith job a b (Overflow o)
  passes_alone a b w =
      record { may_end = due; text = reply_text job [] (Overflow o); obeys = alone; ends = refl; outcome = tt; written = w }

  pub passes_in_part : (a b : Option (List ℕ)) → AppendsPart a b (reply_head job.head.key ++ tail_text (Overflow o)) →
      BeginsReply job a b
  passes_in_part a b w = record { text = reply_text job [] (Overflow o); obeys = alone; written = w }

-- ---- replies of a run
module _ (job : Job) (file : IsOfAFile job) (begins : MayBegin (search_of job)) where
  abbrev work : Meaning
  work = meaning_of (search_of job)

  lines_fit : (lines : List ReplyLine) → AllByRecursion IsInHand lines → All (work.in_share job.head.key) (rows_in_lines lines) →
      All work.is_key (keys_in_lines lines) → AllByRecursion (IsReplyLine job.poly.n) lines
  lines_fit [] f r k = tt
  lines_fit (row_line v ∷ lines) f r k =
      let m = All-head (work.in_share job.head.key) v (rows_in_lines lines) r in
      let e = shares_are_extreme (search_of job) file.few begins job.head.key v m in (
        (e.in_cone.width, e.primitive, f.0),
        lines_fit lines f.1 (All-tail (work.in_share job.head.key) v (rows_in_lines lines) r) k,
      )
  lines_fit (job_line key ∷ lines) f r k = (
    record { is_key = f.0; labels = labels_fit key (All-head work.is_key key (keys_in_lines lines) k) },
    lines_fit lines f.1 r (All-tail work.is_key key (keys_in_lines lines) k),
  )
    where
      labels_fit : (key : List ℕ) → work.is_key key → AllByRecursion IsKeyLabel key
      labels_fit key is =
          all_members IsKeyLabel key
          (λ l c. let few = keys_are_of_rows (search_of job) file.few key is l c in omega (arith, few))

  abbrev AreIn : List ReplyLine → Type 0
  AreIn lines = AreWithin work job.head.key (rows_in_lines lines) (keys_in_lines lines)

  within_fit : (lines : List ReplyLine) → AllByRecursion IsInHand lines → AreIn lines →
      AllByRecursion (IsReplyLine job.poly.n) lines
  within_fit lines f w = lines_fit lines f w.rows_within (λ i d l. (w.keys_within i d l).0)

  split_within : (rows : List Vector) (keys : List (List ℕ)) → Splits work job.head.key rows keys →
      AreWithin work job.head.key rows keys
  split_within rows keys s = record {
    rows_within = All-from_recursion (work.in_share job.head.key) rows
        (all_members (work.in_share job.head.key) rows s.parts.rows_within);
    keys_within = All-from_recursion (IsKeyBelow work job.head.key) keys
        (all_members (IsKeyBelow work job.head.key) keys (λ one c. let g = s.given one c in (g.key_of, g.under)));
  }

  -- the head, lines and a last line are appended one after the other
  three : (a b c d : Option (List ℕ)) (lines : List ReplyLine) (tail : Tail) → Appends a b (reply_head job.head.key) →
      Appends b c (lines_text lines) → Appends c d (tail_text tail) → Appends a d (reply_text job lines tail)
  three a b c d lines tail h m t =
      Appends-trans a b d (reply_head job.head.key) (lines_text lines ++ tail_text tail) h
      (Appends-trans b c d (lines_text lines) (tail_text tail) m t)

  three_in_part : (a b c d : Option (List ℕ)) (lines : List ReplyLine) (tail : Tail) → Appends a b (reply_head job.head.key) →
      Appends b c (lines_text lines) → AppendsPart c d (tail_text tail) → AppendsPart a d (reply_text job lines tail)
  three_in_part a b c d lines tail h m t =
      part_after a b d (reply_head job.head.key) (lines_text lines ++ tail_text tail) h
      (part_after b c d (lines_text lines) (tail_text tail) m t)

  -- the head was written in part, or the lines behind it
  pub head_in_part : (a b : Option (List ℕ)) → AppendsPart a b (reply_head job.head.key) → BeginsReply job a b
  head_in_part a b h = record {
    text = reply_text job [] Memory;
    obeys = reply_of job file.head [] Memory (starved job);
    written = part_before (tail_text Memory) h;
  }

  pub run_in_part : (a b c : Option (List ℕ)) → Appends a b (reply_head job.head.key) → IsTornRun work job.head.key b c →
      BeginsReply job a c
  run_in_part a b c h run = record {
    text = reply_text job run.lines Memory;
    obeys = reply_of job file.head run.lines Memory
        (record { fit = within_fit run.lines run.written.in_hand run.within; ends = tt; rule = run.within });
    written = part_after a b c (reply_head job.head.key) (lines_text run.lines ++ tail_text Memory) h
        (part_before (tail_text Memory) run.written.bytes);
  }

  -- the run ended
  module _ (a b c : Option (List ℕ)) (count : Count) (h : Appends a b (reply_head job.head.key))
      (run : IsWholeRun work job.head.key job.head.budget b c count) where
    abbrev ended : IsReply job (reply_text job run.lines (End count))
    ended =
        let most = run.budgeted.most in
        let allowed = file.head.budget.bases in
        reply_of job file.head run.lines (End count)
        (record {
          fit = within_fit run.lines run.written.in_hand
              (split_within (rows_in_lines run.lines) (keys_in_lines run.lines) run.splits);
          ends = record {
            rows_are = run.rows;
            jobs_are = run.jobs;
            some = run.budgeted.some;
            most = omega (arith, most, allowed);
          };
          rule = (run.splits, run.budgeted);
        })

    pub ends_with : (d : Option (List ℕ)) → HasItsKey job → Appends c d (tail_text (End count)) → RepliesWith job a d (End count)
    ends_with d is t = record {
      may_end = (begins, is);
      text = reply_text job run.lines (End count);
      obeys = ended;
      ends = refl;
      outcome = run.outcome;
      written = three a b c d run.lines (End count) h run.written.bytes t;
    }

    pub ends_in_part : (d : Option (List ℕ)) → AppendsPart c d (tail_text (End count)) → BeginsReply job a d
    ends_in_part d t = record {
      text = reply_text job run.lines (End count);
      obeys = ended;
      written = three_in_part a b c d run.lines (End count) h run.written.bytes t;
    }

  -- an overflow stopped it
  module _ (a b c : Option (List ℕ)) (o : Passed) (is_key : IsKey o.key) (due : IsDueInJob job o)
      (h : Appends a b (reply_head job.head.key)) (run : IsCutRun work job.head.key b c) where
    abbrev stopped : IsReply job (reply_text job run.lines (Overflow o))
    stopped =
        reply_of job file.head run.lines (Overflow o)
        (passed job file o is_key due run.lines (within_fit run.lines run.written.in_hand run.within) run.within)

    pub stops_with : (d : Option (List ℕ)) → Appends c d (tail_text (Overflow o)) → RepliesWith job a d (Overflow o)
    stops_with d t = record {
      may_end = due;
      text = reply_text job run.lines (Overflow o);
      obeys = stopped;
      ends = refl;
      outcome = tt;
      written = three a b c d run.lines (Overflow o) h run.written.bytes t;
    }

    pub stops_in_part : (d : Option (List ℕ)) → AppendsPart c d (tail_text (Overflow o)) → BeginsReply job a d
    stops_in_part d t = record {
      text = reply_text job run.lines (Overflow o);
      obeys = stopped;
      written = three_in_part a b c d run.lines (Overflow o) h run.written.bytes t;
    }
