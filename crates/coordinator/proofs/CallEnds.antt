-- How a call comes to its end, on the disk and in what is printed.
use Rattle.std.proofs.Common.{ℕ, List, ◌≡◌, [], ◌++◌, sym, ap, ◌∙◌, subst, append-nil, Option, Ok, Err, Result, IfOk, IsErrOf}
use Rattle.poly_model.specs.declared.listed.Listed.{Listed}
use Rattle.poly_num.specs.Vectors.{Vector}
use Rattle.poly_model.specs.FreeColumns.{AreLines}
use Rattle.poly_model.specs.Systems.{Polyhedron, cone_of}
use Rattle.work_core.specs.Searches.{Search}
use Rattle.job_text.specs.declared.reply.Reply.{Reply}
use Rattle.disk_core.specs.declared.disk.Disk.{Ghosts as Disk}
use Rattle.disk_core.specs.Moments.{IsQuiet}
use Rattle.disk_core.proofs.Moments.{weaker}
use Rattle.job_ledger.specs.Records.{Records}
use Rattle.job_ledger.specs.Ledgers.{IsLedgerAt, Known}
use Rattle.run_state.specs.Payloads.{IsLedgerText}
use Rattle.run_ledger.specs.Printing.{WritesRun}
use Rattle.coordinator_core.specs.Machine.{State}
use Rattle.coordinator_core.specs.Traces.{accepted}
use Rattle.run_state.specs.Runs.{Run}
use Rattle.run_state.proofs.FollowLemmas.{run-search}
use Rattle.workers_io.specs.History.{Happening}
use Rattle.coordinator_laws.proofs.FollowLemmas.{runs-follow}
use Rattle.coordinator.specs.declared.stops.GoStop.TheVariants.{LedgerLimit}
use Rattle.coordinator.specs.Following.{LeadsTo}
use Rattle.coordinator.specs.Leaving.{Adds, HasFront, LeavesFronts}
use Rattle.coordinator.specs.Ending.{PrintsWith, Rests, RestsWith}
use Rattle.coordinator.proofs.MoreRecords.{front_none, leaves_join}

module _ {D : Type 0} (disk : Disk D) where
  -- ---- a quiet call
  pub rests_quiet : (a b : D) (k : Known) → IsQuiet disk.seen disk.images disk.moment disk.since a b → RestsWith disk a b k []
  rests_quiet a b k q records at = record {
    file = at.file;
    told = q.same ∙ at.told;
    has = subst (λ (l : List (List ℕ)). Records l at.file) (sym (append-nil records)) at.has;
    settled = λ c now. at.settled c (q.nothing_new c now);
  }

  pub leaves_quiet : (a b : D) (k : Known) (texts : List (List ℕ)) → IsQuiet disk.seen disk.images disk.moment disk.since a b → LeavesFronts disk a b k texts
  leaves_quiet a b k texts q records at =
      weaker disk.moment disk.since a b (disk.images a) (HasFront records texts) q.leaves
      (λ c now. front_none records texts c (subst (Records records) (sym (at.settled c now)) at.has))

  -- ---- behind other calls
  pub rests_after : (a b : D) (k l : Known) (xs : List (List ℕ)) → Adds disk a b k l xs → RestsWith disk a b k xs
  rests_after a b k l xs f records at = let z = f.kept records at in record { file = z.file; told = z.told; has = z.has; settled = z.settled }

  pub rests_join : (a b c : D) (k l : Known) (xs : List (List ℕ)) → Adds disk a b k l xs → RestsWith disk b c l [] → RestsWith disk a c k xs
  rests_join a b c k l xs f r records at =
      subst (λ (z : List (List ℕ)). Rests z (disk.seen c) (disk.images c)) (append-nil (records ++ xs)) (r (records ++ xs) (f.kept records at))

  pub leaves_end : (a b c : D) (k l : Known) (xs : List (List ℕ)) → Adds disk a b k l xs → LeavesFronts disk b c l [] → LeavesFronts disk a c k xs
  leaves_end a b c k l xs f g =
      subst (LeavesFronts disk a c k) (append-nil xs) (leaves_join disk a b c k l xs [] f g)

  pub prints_join : {E : Type 0} (a b : D) (k l : Known) (xs : List (List ℕ)) (p : Polyhedron) (old new : Option (List ℕ)) (result : Result Listed E) → Adds disk a b k l xs →
      PrintsWith disk b l [] p old new result → PrintsWith disk a k xs p old new result
  prints_join a b k l xs p old new result f g records s replies at text same =
      g (records ++ xs) s replies (f.kept records at) (subst (IsLedgerText s replies) (sym (append-nil (records ++ xs))) text) same

-- ---- the answer of a printer, with another word for why it stopped
pub writes_ok : {E F : Type 0} (s : Search) (replies : List Reply) (old new : Option (List ℕ)) (listed : Listed) →
    WritesRun {E = E} s replies old new (Ok listed) → WritesRun {E = F} s replies old new (Ok listed)
writes_ok s replies old new listed w = record { whole = w.whole; part = tt }

pub writes_err : {E F : Type 0} (s : Search) (replies : List Reply) (old new : Option (List ℕ)) (e : E) (f : F) →
    WritesRun {E = E} s replies old new (Err e) → WritesRun {E = F} s replies old new (Err f)
writes_err s replies old new e f w = record { whole = tt; part = w.part }

-- ---- what is searched stays
pub goes-search : (s t : State) (old new : Option (List Happening)) (texts : List (List ℕ)) → LeadsTo s t old new texts → t.run.search ≡ s.run.search
goes-search s t old new texts g = ap (λ (z : Run). z.search) (runs-follow s t g.steps g.trace) ∙ run-search s.run (accepted s g.steps)

-- ---- the print of a ledger
pub prints_from : {D E F : Type 0} (disk : Disk D) (d : D) (k : Known) (p q : Polyhedron) (lines lines' : List Vector) (old new : Option (List ℕ)) (r : Result Listed E) (r' : Result Listed F) →
    ((s : Search) (replies : List Reply) (payloads : List (List ℕ)) → IsLedgerAt k payloads (disk.seen d) (disk.images d) → IsLedgerText s replies payloads →
    s.polyhedron ≡ q → AreLines (cone_of q) lines' → WritesRun s replies old new r) → q ≡ p → lines' ≡ lines → AreLines (cone_of p) lines →
    ((s : Search) (replies : List Reply) → WritesRun s replies old new r → WritesRun s replies old new r') → PrintsWith disk d k [] p old new r'
prints_from disk d k p q lines lines' old new r r' listed same these are turned records s replies at text polyhedron =
    turned s replies (listed s replies records at (subst (IsLedgerText s replies) (append-nil records) text) (polyhedron ∙ sym same)
    (subst (λ (z : Polyhedron). AreLines (cone_of z) lines') (sym same) (subst (AreLines (cone_of p)) (sym these) are)))

-- ---- whatever the answer
pub if_ok : {T E : Type 0} {P : Type 0} (r : Result T E) → P → IfOk r (λ x. P)
if_ok (Ok x) p = p
if_ok (Err e) p = tt

-- ---- a limit that is passed names its two numbers
pub limits_are : {T : Type 0} (a b need most : ℕ) → IsErrOf {T = T} (Err (LedgerLimit a b)) (LedgerLimit need most) → (a ≡ need) × (b ≡ most)
limits_are a b need most is = (cc, cc)
