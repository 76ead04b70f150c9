-- The headline of `resume`: what was printed and left, where the images go on from legal records and the workers are trusted.
use Rattle.std.proofs.Common.{arith, ℕ, List, ◌≡◌, ◌∙◌, ◌<◌, ◌⊎◌, inl, inr, [], ◌∷◌, ◌++◌, refl, sym, ap, subst, length, append_assoc, Option, Some}
use Rattle.poly_model.specs.declared.overflow.Overflow.{Overflow as Passed}
use Rattle.poly_model.specs.Overflows.{Passes}
use Rattle.poly_model.specs.Systems.{Polyhedron}
use Rattle.work_core.specs.Searches.{Search}
use Rattle.disk_core.specs.declared.disk.Disk.{Ghosts as Disk}
use Rattle.disk_core.specs.Contents.{Told}
use Rattle.disk_core.specs.Moments.{LeavesOnly}
use Rattle.disk_core.proofs.Moments.{weaker}
use Rattle.job_ledger.specs.Records.{IsOpen, Records, frame, layout}
use Rattle.job_ledger.proofs.LayoutLemmas.{one_layout}
use Rattle.job_text.specs.declared.reply.Reply.{Reply}
use Rattle.job_text.specs.FirstPayloads.{IsFirstPayload}
use Rattle.job_text.proofs.FirstPayloadLemmas.{one_first_payload}
use Rattle.run_state.specs.Legal.{AreLegal, IsLegal}
use Rattle.run_state.specs.Payloads.{IsLedgerText}
use Rattle.run_ledger.specs.Recorded.{IsBadLedger}
use Rattle.run_state.proofs.FileRows.{few_rows}
use Rattle.run_state.proofs.MeaningLemmas.{not_broken, one_ledger}
use Rattle.workers_io.specs.declared.workers.Workers.{Ghosts as Workers}
use Rattle.workers_io.specs.History.{Happening, IsHonest}
use Rattle.coordinator_core.specs.declared.options.Options.{Options}
use Rattle.convert_core.proofs.LinearRows.{feasible_is_consistent}
use Rattle.coordinator_core.specs.Machine.{AreOptions}
use Rattle.coordinator.specs.Calls.{RecordedRun}
use Rattle.coordinator.specs.Leaving.{HasFront}
use Rattle.run_laws.specs.Laws.{IsAnsweredCall, IsHonestCall, IsLedgerFile, TellsFullAnswers}
use Rattle.run_laws.proofs.EndingLaws.{answered_calls_go_on, answered_overflows_pass, overflows_pass}
use Rattle.run_laws.proofs.RunLaws.{fronts_stay_legal, fronts_stay_text}
use Rattle.lrs_cli.specs.declared.status.Status.{Status}
use Rattle.lrs_cli.specs.declared.status.Status.TheVariants.{Done, Usage, BadFile, BadJob, Infeasible, Overflow, ReadFault, WriteFault, DiskFault, Lost, NoRun, HasRun, BadLedger, LedgerLimit, OutOfMemory}
use Rattle.lrs_cli.specs.Answers.{Knows, PassesNowhere, WritesPart, WritesWhole}
use Rattle.lrs_cli.specs.Ledgers.{AllGoOnFrom, AreTrusted, ComesToItsEnd, DiskRose, GoesOnFrom, Resources, RoseAt, TellsOf}
use Rattle.lrs_cli.specs.Resume.{AnswersResume, EndsRecorded, GoesOn}
use Rattle.coordinator.proofs.RunsAgain.{are_short}
use Rattle.lrs_cli.proofs.ListingLemmas.{lists_part, lists_whole}
use Rattle.lrs_cli.proofs.RunComplete.{known_file}
use Rattle.lrs_cli.proofs.TrustLemmas.{tells_honestly}

-- ---- the records of a file
-- a file with records is open
open_layout : (payloads : List (List ℕ)) (first : List ℕ) (others : List (List ℕ)) (gate : ℕ) (rest : List ℕ) → payloads ≡ first ∷ others → IsOpen (layout payloads ++ gate ∷ rest)
open_layout payloads first others gate rest split = rw split ((frame first ++ layout others) ++ gate ∷ rest, refl)

is_open : (s : Search) (replies : List Reply) (payloads : List (List ℕ)) (file : List ℕ) → IsLedgerText s replies payloads → Records payloads file → IsOpen file
is_open s replies payloads file t h = subst IsOpen (sym h.split) (open_layout payloads t.first t.others h.gate h.rest t.split)

-- legal records of the same payloads are these
legal_here : (s : Search) (replies : List Reply) (payloads all : List (List ℕ)) (file : List ℕ) → IsLedgerText s replies payloads → Records payloads file → payloads ≡ all →
    IsLegal all → AreLegal s replies payloads
legal_here s replies payloads all file t h same legal =
    let l = subst (AreLegal legal.0 legal.1) (sym same) legal.2 in
    let one = one_ledger payloads (are_short payloads h.short) legal.0 s legal.1 replies l.is_text t in
    subst (λ (rs : List Reply). AreLegal s rs payloads) one.1 (subst (λ (z : Search). AreLegal z legal.1 payloads) one.0 l)

-- the first of them stands first in those with which they begin
tells : (P : Polyhedron → Type 0) (s : Search) (replies : List Reply) (payloads records more : List (List ℕ)) → 0 < length records → IsLedgerText s replies payloads →
    payloads ≡ records ++ more → P s.polyhedron → TellsOf P records
tells P s replies payloads [] more some t same h = absurd (omega (arith, some))
tells P s replies payloads (r ∷ records) more some t same h =
    let is : t.first ∷ t.others ≡ r ∷ (records ++ more) = sym t.split ∙ same in
    let head : t.first ≡ r = cc in
    record { search = s; first = r; rest = records; split = refl; is_first = subst (IsFirstPayload s) head t.is_first; holds = h }

-- what goes on from more records goes on from the first ones
from_first : (records more payloads : List (List ℕ)) (file : List ℕ) → payloads ≡ records ++ more → (further : List (List ℕ)) → Records (payloads ++ further) file → IsLegal (payloads ++ further) →
    GoesOnFrom records file
from_first records more payloads file same further has legal =
    let all : payloads ++ further ≡ records ++ (more ++ further) = ap (λ (l : List (List ℕ)). l ++ further) same ∙ append_assoc records more further in
    record { more = more ++ further; has = subst (λ (l : List (List ℕ)). Records l file) all has; legal = subst IsLegal all legal }

module _ {D W : Type 0} (disk : Disk D) (workers : Workers W)
    (law : (w : W) (happenings : List Happening) → workers.honest w → workers.history w ≡ Some happenings → IsHonest workers.allows [] happenings)
    (reads_an_image : (d : D) (f : List ℕ) → disk.seen d ≡ Some f → disk.images d f)
    (options : Options) (in_range : AreOptions options) (limit : ℕ) (old new : Resources D W) (written now : Option (List ℕ)) (Unwritten : Type 0) (answer : Status)
    (g : GoesOn disk workers options limit old new written now Unwritten answer) where
  module _ (records : List (List ℕ)) (images : AllGoOnFrom records (disk.images old.disk)) (f : List ℕ) (told : disk.seen old.disk ≡ Some f) (r : RecordedRun (disk.seen old.disk)) where
    here : GoesOnFrom records f
    here = images f (reads_an_image old.disk f told) (is_open r.search r.replies r.payloads f r.is_text (r.has f told))

    same : r.payloads ≡ records ++ here.more
    same = (one_layout f).one r.payloads (records ++ here.more) (r.has f told) here.has

    legal : AreLegal r.search r.replies r.payloads
    legal = legal_here r.search r.replies r.payloads (records ++ here.more) f r.is_text (r.has f told) same here.legal

    honest_call : AreTrusted workers old.workers new.workers → IsHonestCall options r.search r.replies r.payloads (workers.history new.workers)
    honest_call trusted = record {
      in_range = in_range;
      legal = legal;
      honest = tells_honestly workers law old.workers new.workers g.honest trusted;
    }

    answered_call : TellsFullAnswers (workers.history old.workers) (workers.history new.workers) →
        IsAnsweredCall options r.search r.replies r.payloads (workers.history old.workers) (workers.history new.workers)
    answered_call answered = record { in_range = in_range; legal = legal; answered = answered }

    on : (texts : List (List ℕ)) (c : List ℕ) → ((file : List ℕ) → HasFront r.payloads texts file → GoesOnFrom records file) →
        disk.images old.disk c ⊎ HasFront r.payloads texts c → disk.images old.disk c ⊎ GoesOnFrom records c
    on texts c more (inl i) = inl i
    on texts c more (inr h) = inr (more c h)

  lists : (records : List (List ℕ)) → 0 < length records → AllGoOnFrom records (disk.images old.disk) → AreTrusted workers old.workers new.workers → (rows lines : ℕ) →
      answer ≡ Done rows lines → Told (disk.seen old.disk) (λ f. TellsOf (WritesWhole written now rows lines) records)
  lists records some images t rows lines e f told =
      let d = subst (EndsRecorded disk workers options limit old new written now Unwritten) e g.ends in
      let r = d.0 in
      tells (WritesWhole written now rows lines) r.search r.replies r.payloads records (here records images f told r).more some r.is_text (same records images f told r)
      (lists_whole options r.search r.replies r.payloads d.1 _ _ (honest_call records images f told r t) d.2 (are_short (r.payloads ++ d.1) (d.3 f told).has.short)
      written now rows lines (d.4 f told))

  leaves : (records : List (List ℕ)) → 0 < length records → AllGoOnFrom records (disk.images old.disk) → AreTrusted workers old.workers new.workers →
      Told (disk.seen old.disk) (λ f. LeavesOnly disk.moment disk.since old.disk new.disk (λ c. disk.images old.disk c ⊎ GoesOnFrom records c))
  leaves records some images t f told = elim g.goes [
    | inl i ↦ weaker disk.moment disk.since old.disk new.disk _ _ i.1 (λ c h. inl h)
    | inr x ↦
        let more : (file : List ℕ) → HasFront x.0.payloads x.1 file → GoesOnFrom records file = λ file h.
        let l = fronts_stay_legal options x.0.search x.0.replies x.0.payloads x.1 _ _ (honest_call records images f told x.0 t) x.3 file h in
        from_first records (here records images f told x.0).more x.0.payloads file (same records images f told x.0) l.0 l.1 l.2 in
        weaker disk.moment disk.since old.disk new.disk _ _ (x.4 f told) (λ c h. on records images f told x.0 x.1 c more h)
  ]

  part : (records : List (List ℕ)) → 0 < length records → AllGoOnFrom records (disk.images old.disk) → AreTrusted workers old.workers new.workers →
      Unwritten ⊎ Told (disk.seen old.disk) (λ f. TellsOf (WritesPart written now) records)
  part records some images t = elim g.prints [
    | inl u ↦ inl u
    | inr p ↦ inr (λ f told.
        let r = p.0 in
        tells (WritesPart written now) r.search r.replies r.payloads records (here records images f told r).more some r.is_text (same records images f told r)
        (lists_part options r.search r.replies r.payloads p.1 _ _ (honest_call records images f told r t) p.2 (are_short (r.payloads ++ p.1) (p.3 f told).has.short)
        written now (p.4 f told)))
  ]

  text_or : (texts payloads : List (List ℕ)) (c : List ℕ) → ((file : List ℕ) → HasFront payloads texts file → IsLedgerFile file) → disk.images old.disk c ⊎ HasFront payloads texts c →
      disk.images old.disk c ⊎ IsLedgerFile c
  text_or texts payloads c on (inl i) = inl i
  text_or texts payloads c on (inr h) = inr (on c h)

  texts : Told (disk.seen old.disk) (λ f. LeavesOnly disk.moment disk.since old.disk new.disk (λ c. disk.images old.disk c ⊎ IsLedgerFile c))
  texts f told = elim g.goes [
    | inl i ↦ weaker disk.moment disk.since old.disk new.disk _ _ i.1 (λ c h. inl h)
    | inr x ↦ weaker disk.moment disk.since old.disk new.disk _ _ (x.4 f told)
        (λ c h. text_or x.1 x.0.payloads c (λ file y. fronts_stay_text options x.0.search x.0.replies x.0.payloads x.1 _ _ x.0.is_text x.3 file y) h)
  ]

  overflow : (records : List (List ℕ)) → 0 < length records → AllGoOnFrom records (disk.images old.disk) → AreTrusted workers old.workers new.workers → (o : Passed) →
      answer ≡ Overflow o → Told (disk.seen old.disk) (λ f. TellsOf (λ p. Passes p o) records)
  overflow records some images t o e f told =
      let d = subst (EndsRecorded disk workers options limit old new written now Unwritten) e g.ends in
      let r = d.1 in
      let passes : Passes r.search.polyhedron o = elim d.2 [
        | inl own ↦ own.0.passes
        | inr reply ↦ overflows_pass options r.search r.replies r.payloads reply.0 _ _ o (honest_call records images f told r t) reply.1
      ] in
      tells (λ p. Passes p o) r.search r.replies r.payloads records (here records images f told r).more some r.is_text (same records images f told r) passes

  -- ---- where nothing is in the way
  module _ (records : List (List ℕ)) (images : AllGoOnFrom records (disk.images old.disk)) (opened : Knows (disk.seen old.disk) IsOpen) (whole : TellsOf PassesNowhere records)
      (answered : TellsFullAnswers (workers.history old.workers) (workers.history new.workers)) where
    nothing_passes : (f : List ℕ) → disk.seen old.disk ≡ Some f → (r : RecordedRun (disk.seen old.disk)) → PassesNowhere r.search.polyhedron
    nothing_passes f told r =
        first_is_of_these r.is_text (same records images f told r ∙ ap (λ (l : List (List ℕ)). l ++ (here records images f told r).more) whole.split)
      where
        first_is_of_these : {payloads rest : List (List ℕ)} → (t : IsLedgerText r.search r.replies payloads) → payloads ≡ whole.first ∷ rest → PassesNowhere r.search.polyhedron
        first_is_of_these {payloads} {rest} t split =
            let is : t.first ∷ t.others ≡ whole.first ∷ rest = sym t.split ∙ split in
            let head : t.first ≡ whole.first = cc in
            let one : whole.search ≡ r.search = one_first_payload whole.search r.search whole.first whole.is_first (subst (IsFirstPayload r.search) head t.is_first) in
            subst (λ (s : Search). PassesNowhere s.polyhedron) one whole.holds

    -- the file that is read goes on from the records
    goes_on : (f : List ℕ) → disk.seen old.disk ≡ Some f → GoesOnFrom records f
    goes_on f told = images f (reads_an_image old.disk f told) (is_open_file f told)
      where
        is_open_file : (f : List ℕ) → disk.seen old.disk ≡ Some f → IsOpen f
        is_open_file f told = subst (λ (seen : Option (List ℕ)). Knows seen IsOpen) told opened

    not_bad_ledger : (place : ℕ) (f : List ℕ) → disk.seen old.disk ≡ Some f → IsBadLedger place f → ⊥
    not_bad_ledger place f told (inl broken) = let on = goes_on f told in (one_layout f).not_both (records ++ on.more) place on.has broken
    not_bad_ledger place f told (inr (payloads, broken)) =
        let on = goes_on f told in
        let one : payloads ≡ records ++ on.more = (one_layout f).one payloads (records ++ on.more) broken.has on.has in
        not_broken payloads (are_short payloads broken.has.short) on.legal.0 on.legal.1 place (subst (IsLedgerText on.legal.0 on.legal.1) (sym one) on.legal.2.is_text) broken.broken

    comes_to_its_end : (answer : Status) → EndsRecorded disk workers options limit old new written now Unwritten answer → (answer ≡ WriteFault → ⊥) →
        (answer ≡ DiskFault → ⊥) → ComesToItsEnd answer
    comes_to_its_end (Done rows lines) e w d = tt
    comes_to_its_end (Lost lost strays) e w d =
        let f = known_file (disk.seen old.disk) IsOpen opened in
        let r = e.1 in
        absurd (answered_calls_go_on options r.search r.replies r.payloads e.2 _ _ lost strays (answered_call records images f.0 f.1 r answered) e.3)
    comes_to_its_end (Overflow o) e w d =
        let f = known_file (disk.seen old.disk) IsOpen opened in
        let r = e.1 in
        absurd (nothing_passes f.0 f.1 r o (elim e.2 [
          | inl own ↦ own.0.passes
          | inr reply ↦ answered_overflows_pass options r.search r.replies r.payloads reply.0 _ _ o (answered_call records images f.0 f.1 r answered) reply.1
        ]))
    comes_to_its_end Infeasible e w d =
        let f = known_file (disk.seen old.disk) IsOpen opened in
        let r = e.2 in
        let l = legal records images f.0 f.1 r in
        absurd (e.3 (feasible_is_consistent r.search.polyhedron (few_rows r.search.polyhedron l.is_text.is_first.file) l.feasible))
    comes_to_its_end NoRun e w d = let f = known_file (disk.seen old.disk) IsOpen opened in absurd ((e.2 f.0 f.1).0 f.2)
    comes_to_its_end (BadLedger place) e w d = let f = known_file (disk.seen old.disk) IsOpen opened in absurd (not_bad_ledger place f.0 f.1 (e f.0 f.1).0)
    comes_to_its_end (LedgerLimit need most) e w d = tt
    comes_to_its_end DiskFault e w d = absurd (d refl)
    comes_to_its_end WriteFault e w d = absurd (w refl)
    comes_to_its_end OutOfMemory e w d = tt
    comes_to_its_end Usage e w d = absurd e
    comes_to_its_end (BadFile f) e w d = absurd e
    comes_to_its_end (BadJob place) e w d = absurd e
    comes_to_its_end ReadFault e w d = absurd e
    comes_to_its_end HasRun e w d = absurd e

  pub answers_resume : (faults faults' : ℕ) → RoseAt WriteFault answer faults faults' → DiskRose answer (disk.faults old.disk) (disk.faults new.disk) →
      AnswersResume disk workers options limit old new written now faults faults' Unwritten answer
  answers_resume faults faults' w d = record {
    lists = lists;
    leaves = leaves;
    part = part;
    overflow = overflow;
    texts = texts;
    complete = λ records images opened whole answered n m.
        comes_to_its_end records images opened whole answered answer g.ends (λ e. n (w.failed e)) (λ e. m (d.failed e));
    comes = g;
    writes = w;
    disk_calls = d;
  }
