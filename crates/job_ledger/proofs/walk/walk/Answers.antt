use Rattle.std.proofs.Common.{arith, rules, ◌≡◌, ◌<◌, ◌+◌, ◌∙◌, ◌++◌, ◌∷◌, [], List, sym, subst, length, refl}
use Rattle.job_ledger.specs.Records.{IsBrokenAt}
use Rattle.job_ledger.specs.Spans.{ArePlaced}
use Rattle.job_ledger.specs.Walks.{HasReached}
use Rattle.job_ledger.specs.declared.entry.Entry.TheVariants.{Broken, Closed, Record}
use Rattle.job_ledger.specs.declared.span.Span.{Span}
use Rattle.disk_core.proofs.Quiets.{quiet_then}
use Rattle.job_ledger.proofs.WalkLemmas.{entry_at, broken_here, closed_at_first, closed_here, placed_more, reached_more}
use Rattle.job_ledger.proofs.walk.walk.Goals as goal

pub returns-then-is_empty-clause-none : goal.returns-then-is_empty-clause-none
returns-then-is_empty-clause-none g c _ f told size =
    let i = c.records.invariant in
    let head = (c.in_ok-reach.ensures.head f (i.quiet.same ∙ told) (i.size f told size) (i.window f told size)).1 in
    let entry = entry_at Closed c.head.result.now f c.records.at c.records.size i.within (i.size f told size) (c.head.ensures ∙ head) c.in-Closed.ensures.entry in
    closed_at_first c.records.spans.items c.records.at f (i.reached f told size) entry (search rules)

pub returns-in-Closed-clause-records : goal.returns-in-Closed-clause-records
returns-in-Closed-clause-records g c f told size =
    let i = c.records.invariant in
    let head = (c.in_ok-reach.ensures.head f (i.quiet.same ∙ told) (i.size f told size) (i.window f told size)).1 in
    let entry = entry_at Closed c.head.result.now f c.records.at c.records.size i.within (i.size f told size) (c.head.ensures ∙ head) c.in-Closed.ensures.entry in
    closed_here c.records.spans.items c.records.at f (i.reached f told size) entry (search rules)

pub records-preserved-in-Record : goal.records-preserved-in-Record
records-preserved-in-Record g c =
    let d = g.D.Disk in
    let i = c.records.invariant in
    let at = c.records.at in
    let n = c.in-Record.len in
    let s : Span = record { at = at + 15; len = n } in
    let spans = c.records.spans.items in
    let next : at + 15 + n < c.records.size = search rules in
    let pushed : c.push.new.self.items ≡ spans ++ s ∷ [] = c.in_ok-push-in-Record.ensures.items in
    record {
      quiet = quiet_then d.seen d.images d.moment d.since g.met.D.Disk.only_now _ _ _ i.quiet c.reach.ensures.quiet;
      faults = search rules;
      within = next;
      fits = i.fits;
      size = i.size;
      placed = subst (λ (l : List Span). ArePlaced l (at + 15 + n)) (sym pushed) (placed_more spans at (at + 15 + n) s i.placed refl refl);
      window = λ f told size. (c.in_ok-reach.ensures.head f (i.quiet.same ∙ told) (i.size f told size) (i.window f told size)).0;
      reached = λ f told size.
          let head = (c.in_ok-reach.ensures.head f (i.quiet.same ∙ told) (i.size f told size) (i.window f told size)).1 in
          let entry = entry_at (Record n) c.head.result.now f at c.records.size i.within (i.size f told size) (c.head.ensures ∙ head) c.in-Record.ensures.entry in
          subst (λ (l : List Span). HasReached l (at + 15 + n) f) (sym pushed) (reached_more spans at (at + 15 + n) n s f (i.reached f told size) entry refl refl);
    }

pub returns-then-now-size-clause-bad : goal.returns-then-now-size-clause-bad
returns-then-now-size-clause-bad g c place is f told size =
    let i = c.records.invariant in
    let head = (c.in_ok-reach.ensures.head f (i.quiet.same ∙ told) (i.size f told size) (i.window f told size)).1 in
    let entry = entry_at Broken c.head.result.now f c.records.at c.records.size i.within (i.size f told size) (c.head.ensures ∙ head) c.in-Broken.ensures.entry in
    let count : length c.records.spans.items + 1 ≡ place = search rules in
    subst (λ n. IsBrokenAt n f) count (broken_here c.records.spans.items c.records.at f (i.reached f told size) entry)

-- the file has grown meanwhile, which one that tells its content has not
pub records-preserved : goal.records-preserved
records-preserved g c =
    let d = g.D.Disk in
    let i = c.records.invariant in
    let reach = quiet_then d.seen d.images d.moment d.since g.met.D.Disk.only_now _ _ _ i.quiet c.reach.ensures.quiet in
    record {
      quiet = quiet_then d.seen d.images d.moment d.since g.met.D.Disk.only_now _ _ _ reach c.file_len.ensures.quiet;
      faults = search rules;
      within = omega (arith, i.within, c.if-now-size.false);
      fits = search rules;
      size = λ f told size. c.in_ok-now-in-Broken.ensures.len f (reach.same ∙ told);
      placed = i.placed;
      window = λ f told size. (c.in_ok-reach.ensures.head f (i.quiet.same ∙ told) (i.size f told size) (i.window f told size)).0;
      reached = i.reached;
    }
