-- A run that goes on, where its ledger is attached first; and what its records tell.
use Rattle.std.proofs.Common.{ℕ, List, ◌≡◌, ◌∙◌, ◌⊎◌, inl, inr, ◌++◌, sym, Option, Err}
use Rattle.disk_core.specs.declared.disk.Disk.{Ghosts as Disk}
use Rattle.disk_core.specs.Contents.{Told}
use Rattle.disk_core.specs.Images.{NothingNew}
use Rattle.disk_core.specs.Moments.{LeavesOnly}
use Rattle.disk_core.proofs.Moments.{joined}
use Rattle.workers_io.specs.declared.workers.Workers.{Ghosts as Workers}
use Rattle.coordinator_core.specs.declared.options.Options.{Options}
use Rattle.coordinator.specs.Calls.{PrintsRecords, RecordedRun}
use Rattle.coordinator.specs.Leaving.{HasFront}
use Rattle.lrs_cli.specs.declared.status.Status.{Status}
use Rattle.lrs_cli.specs.Ledgers.{Resources, WritesRecordsPart, resources}
use Rattle.lrs_cli.specs.Resume.{EndsRecorded, GoesOn}
use Rattle.lrs_cli.proofs.CarriedEnds.{carried}
use Rattle.lrs_cli.proofs.SearchLemmas.{part_of}

-- what is read stays the same, so the records do
abbrev pub moved : (mid old : Option (List ℕ)) → mid ≡ old → RecordedRun mid → RecordedRun old
moved mid old same r = record {
  search = r.search;
  replies = r.replies;
  payloads = r.payloads;
  is_text = r.is_text;
  has = λ f told. r.has f (same ∙ told);
}

-- where nothing was left to do, first bytes of what the records list were written
pub parts_of_run : {E : Type 0} (seen old new : Option (List ℕ)) (stop : E) (U : Type 0) (F R : RecordedRun seen → List (List ℕ) → Type 0) →
    U ⊎ ((r : RecordedRun seen) × (texts : List (List ℕ)) × F r texts × Told seen (λ f. R r texts × PrintsRecords {E = E} r.search (r.payloads ++ texts) old new (Err stop))) →
    U ⊎ ((r : RecordedRun seen) × (texts : List (List ℕ)) × F r texts × Told seen (λ f. R r texts) × Told seen (λ f. WritesRecordsPart r.search (r.payloads ++ texts) old new))
parts_of_run seen old new stop U F R (inl u) = inl u
parts_of_run seen old new stop U F R (inr p) =
    inr (p.0, p.1, p.2, λ f told. (p.3 f told).0, λ f told. part_of p.0.search (p.0.payloads ++ p.1) old new stop (p.3 f told).1)

module _ {D W : Type 0} (disk : Disk D) (workers : Workers W) (options : Options) (limit : ℕ) (old mid new : D) (w v : W)
    (same : disk.seen mid ≡ disk.seen old) (nothing : NothingNew (disk.images old) (disk.images mid))
    (first : LeavesOnly disk.moment disk.since old mid (disk.images old)) where
  back : (P : List ℕ → Type 0) → Told (disk.seen mid) P → Told (disk.seen old) P
  back P h f told = h f (same ∙ told)

  abbrev here : RecordedRun (disk.seen mid) → RecordedRun (disk.seen old)
  here r = moved (disk.seen mid) (disk.seen old) same r

  leaves_images : LeavesOnly disk.moment disk.since mid new (disk.images mid) → LeavesOnly disk.moment disk.since old new (disk.images old)
  leaves_images l = joined disk.moment disk.since old mid new (disk.images old) (disk.images mid) (disk.images old) first l (λ c i. i) nothing

  more : (payloads texts : List (List ℕ)) (c : List ℕ) → disk.images mid c ⊎ HasFront payloads texts c → disk.images old c ⊎ HasFront payloads texts c
  more payloads texts c (inl i) = inl (nothing c i)
  more payloads texts c (inr h) = inr h

  abbrev from : Resources D W
  from = resources mid w

  abbrev at_first : Resources D W
  at_first = resources old w

  abbrev to : Resources D W
  to = resources new v

  ends_attached : (written now : Option (List ℕ)) (U : Type 0) (answer : Status) → EndsRecorded disk workers options limit from to written now U answer →
      EndsRecorded disk workers options limit at_first to written now U answer
  ends_attached written now U answer e = carried _ _ (record {
    done = λ rows lines e. (here e.0, e.1, e.2, back _ e.3, back _ e.4);
    lost = λ lost strays e. (e.0, here e.1, e.2, e.3, back _ e.4);
    overflow = λ o e. (
      e.0,
      here e.1,
      elim e.2 [
        | inl own ↦ inl (own.0, own.1, back _ own.2)
        | inr told ↦ inr (told.0, told.1, back _ told.2)
      ],
    );
    infeasible = λ e. (e.0, e.1, here e.2, e.3, back _ e.4);
    no_run = λ e. (e.0, e.1, back _ e.2);
    has_run = λ e. e;
    bad_ledger = λ place e. back _ e;
    ledger_limit = λ need most e. (e.0, here e.1, e.2, e.3, back _ e.4);
  }) answer e

  pub attached : (written now : Option (List ℕ)) (U : Type 0) (answer : Status) → GoesOn disk workers options limit from to written now U answer →
      GoesOn disk workers options limit at_first to written now U answer
  attached written now U answer g = record {
    goes = elim g.goes [
      | inl i ↦ inl (i.0, leaves_images i.1)
      | inr r ↦ inr (
        here r.0,
        r.1,
        r.2,
        r.3,
        λ f told. joined disk.moment disk.since old mid new (disk.images old) _ _ first (r.4 f (same ∙ told)) (λ c i. inl i) (more r.0.payloads r.1),
      )
    ];
    prints = elim g.prints [
      | inl u ↦ inl u
      | inr p ↦ inr (here p.0, p.1, p.2, back _ p.3, back _ p.4)
    ];
    ends = ends_attached written now U answer g.ends;
    idle = λ f told r none. g.idle f (same ∙ told) (moved (disk.seen old) (disk.seen mid) (sym same) r) none;
    honest = g.honest;
  }
