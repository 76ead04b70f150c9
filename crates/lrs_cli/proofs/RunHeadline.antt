-- The headline of `run`: what was printed and left, where the workers are trusted.
use Rattle.std.proofs.Common.{ℕ, List, ◌≡◌, ◌⊎◌, inl, inr, [], ◌∷◌, sym, subst, Option, Some}
use Rattle.work_core.specs.Searches.{Search}
use Rattle.poly_io.specs.Causes.{Rose}
use Rattle.poly_model.specs.declared.overflow.Overflow.{Overflow as Passed}
use Rattle.poly_model.specs.Overflows.{Passes}
use Rattle.disk_core.specs.declared.disk.Disk.{Ghosts as Disk}
use Rattle.disk_core.specs.Contents.{Told}
use Rattle.disk_core.specs.Moments.{LeavesOnly}
use Rattle.disk_core.proofs.Moments.{started, weaker}
use Rattle.job_ledger.specs.Records.{HasNoRun}
use Rattle.job_text.specs.FirstPayloads.{first_payload}
use Rattle.workers_io.specs.declared.workers.Workers.{Ghosts as Workers}
use Rattle.workers_io.specs.History.{Happening, IsHonest}
use Rattle.coordinator_core.specs.declared.options.Options.{Options}
use Rattle.coordinator_core.specs.Machine.{AreOptions}
use Rattle.coordinator.specs.Leaving.{HasFront}
use Rattle.run_laws.specs.Laws.{IsHonestCall, IsLedgerFile, TellsFullAnswers}
use Rattle.run_laws.proofs.EndingLaws.{overflows_pass}
use Rattle.run_laws.proofs.RunLaws.{first_record_is_legal, fronts_stay_legal, fronts_stay_text}
use Rattle.lrs_cli.specs.declared.status.Status.{Status}
use Rattle.lrs_cli.specs.declared.status.Status.TheVariants.{Done, Infeasible, Overflow}
use Rattle.lrs_cli.specs.Answers.{Describes, IsListed, IsPartlyListed, Knows, PassesNowhere, WritesPart, WritesWhole}
use Rattle.lrs_cli.specs.Ledgers.{AreTrusted, ComesToItsEnd, GoesOnFrom, Resources}
use Rattle.lrs_cli.specs.Run.{AnswersRun, EndsSearch, IsLeftByRun, MaySearch, RefusesFile, RunsFile, RunsSearch}
use Rattle.lrs_cli.specs.Streams.{Streams}
use Rattle.lrs_cli.proofs.FaultLemmas.{described}
use Rattle.coordinator.proofs.RunsAgain.{are_short}
use Rattle.lrs_cli.proofs.ListingLemmas.{lists_part, lists_whole}
use Rattle.lrs_cli.proofs.RunComplete.{passes_before, refused_ends, search_ends}
use Rattle.lrs_cli.proofs.TrustLemmas.{tells_honestly}

-- no file is refused with an answer that it was listed
not_done : (left : Option (List ℕ)) (answer : Status) (rows lines : ℕ) → answer ≡ Done rows lines → RefusesFile left answer → ⊥
not_done left answer rows lines e r = subst (RefusesFile left) e r

module _ {D W : Type 0} (disk : Disk D) (workers : Workers W)
    (law : (w : W) (happenings : List Happening) → workers.honest w → workers.history w ≡ Some happenings → IsHonest workers.allows [] happenings)
    (only_now : (d : D) (c : List ℕ) → disk.since d (disk.moment d) c → disk.images d c)
    (options : Options) (in_range : AreOptions options) (limit : ℕ) (old new : Resources D W) where
  -- ---- one search
  module _ (s : Search) (may : MaySearch s) (written now : Option (List ℕ)) (Unwritten : Type 0) (answer : Status)
      (run : RunsSearch disk workers options limit s old new written now Unwritten answer) (trusted : AreTrusted workers old.workers new.workers) where
    honest_call : IsHonestCall options s [] (first_payload s ∷ []) (workers.history new.workers)
    honest_call = record {
      in_range = in_range;
      legal = first_record_is_legal s may.first may.feasible may.begins;
      honest = tells_honestly workers law old.workers new.workers run.honest trusted;
    }

    listed : (rows lines : ℕ) → answer ≡ Done rows lines → (f : List ℕ) → disk.seen old.disk ≡ Some f → WritesWhole written now rows lines s.polyhedron
    listed rows lines e f told =
        let d = subst (EndsSearch disk workers options limit s old new written now Unwritten) e run.ends in
        lists_whole options s [] (first_payload s ∷ []) d.0 _ _ honest_call d.1 (are_short (first_payload s ∷ d.0) (d.2 f told).has.short) written now rows lines (d.3 f told).1

    partly : Unwritten ⊎ ((f : List ℕ) → disk.seen old.disk ≡ Some f → WritesPart written now s.polyhedron)
    partly = elim run.prints [
      | inl u ↦ inl u
      | inr p ↦ inr (λ f told. lists_part options s [] (first_payload s ∷ []) p.0 _ _ honest_call p.1
          (are_short (first_payload s ∷ p.0) (p.2 f told).has.short) written now (p.3 f told))
    ]

    passes : (o : Passed) → answer ≡ Overflow o → Passes s.polyhedron o
    passes o e =
        let d = subst (EndsSearch disk workers options limit s old new written now Unwritten) e run.ends in
        elim d.1 [
          | inl own ↦ own.0.passes
          | inr told ↦ overflows_pass options s [] (first_payload s ∷ []) told.0 _ _ o honest_call told.1
        ]

    legal_fronts : (texts : List (List ℕ)) (c : List ℕ) → ((file : List ℕ) → HasFront (first_payload s ∷ []) texts file → GoesOnFrom (first_payload s ∷ []) file) →
        disk.images old.disk c ⊎ (HasNoRun c ⊎ HasFront (first_payload s ∷ []) texts c) →
        disk.images old.disk c ⊎ (HasNoRun c ⊎ GoesOnFrom (first_payload s ∷ []) c)
    legal_fronts texts c on (inl i) = inl i
    legal_fronts texts c on (inr (inl n)) = inr (inl n)
    legal_fronts texts c on (inr (inr h)) = inr (inr (on c h))

    left : (f : List ℕ) → disk.seen old.disk ≡ Some f → LeavesOnly disk.moment disk.since old.disk new.disk
        (λ c. disk.images old.disk c ⊎ (HasNoRun c ⊎ GoesOnFrom (first_payload s ∷ []) c))
    left f told =
        let g = run.goes in
        let on : (file : List ℕ) → HasFront (first_payload s ∷ []) g.0 file → GoesOnFrom (first_payload s ∷ []) file = λ file h.
        let l = fronts_stay_legal options s [] (first_payload s ∷ []) g.0 _ _ honest_call g.1 file h in
        record { more = l.0; has = l.1; legal = l.2 } in
        weaker disk.moment disk.since old.disk new.disk _ _ (g.2 f told) (λ c h. legal_fronts g.0 c on h)

  -- ---- whatever the workers gave
  ledger_or : (P : List ℕ → Type 0) (s : Search) (texts : List (List ℕ)) (c : List ℕ) →
      ((file : List ℕ) → HasFront (first_payload s ∷ []) texts file → IsLedgerFile file) → P c ⊎ (HasNoRun c ⊎ HasFront (first_payload s ∷ []) texts c) →
      P c ⊎ (HasNoRun c ⊎ IsLedgerFile c)
  ledger_or P s texts c on (inl i) = inl i
  ledger_or P s texts c on (inr (inl n)) = inr (inl n)
  ledger_or P s texts c on (inr (inr h)) = inr (inr (on c h))

  texts_of : (s : Search) → MaySearch s → (written now : Option (List ℕ)) (Unwritten : Type 0) (answer : Status) →
      RunsSearch disk workers options limit s old new written now Unwritten answer → (f : List ℕ) → disk.seen old.disk ≡ Some f →
      LeavesOnly disk.moment disk.since old.disk new.disk (λ c. disk.images old.disk c ⊎ (HasNoRun c ⊎ IsLedgerFile c))
  texts_of s may written now Unwritten answer run f told =
      let g = run.goes in
      let first = (first_record_is_legal s may.first may.feasible may.begins).is_text in
      weaker disk.moment disk.since old.disk new.disk _ _ (g.2 f told)
      (λ c h. ledger_or (disk.images old.disk) s g.0 c (λ file x. fronts_stay_text options s [] (first_payload s ∷ []) g.0 _ _ first g.1 file x) h)

  -- ---- a file
  module _ (before after : Streams) (Unwritten : Type 0) (answer : Status)
      (runs : RunsFile disk workers options limit old new before after Unwritten answer) where
    still : LeavesOnly disk.moment disk.since old.disk old.disk (disk.images old.disk)
    still = started disk.moment disk.since old.disk (disk.images old.disk) (only_now old.disk)

    lists : (rows lines : ℕ) → answer ≡ Done rows lines → AreTrusted workers old.workers new.workers →
        Told (disk.seen old.disk) (λ f. Told before.left (IsListed before.written after.written rows lines))
    lists rows lines e t f told = elim runs.comes [
      | inl r ↦ absurd (not_done before.left answer rows lines e r.0)
      | inr r ↦ described (WritesWhole before.written after.written rows lines) r.0.polyhedron before.left r.2
          (listed r.0 r.1 before.written after.written Unwritten answer r.4 t rows lines e f told)
    ]

    leaves : AreTrusted workers old.workers new.workers →
        Told (disk.seen old.disk) (λ f. Told before.left (IsLeftByRun disk old.disk new.disk))
    leaves t f told = elim runs.comes [
      | inl r ↦ λ text given. inl (subst (λ (z : Resources D W). LeavesOnly disk.moment disk.since old.disk z.disk (disk.images old.disk)) (sym r.1) still)
      | inr r ↦ λ text given. inr (r.0, r.2 text given, left r.0 r.1 before.written after.written Unwritten answer r.4 t f told)
    ]

    part : AreTrusted workers old.workers new.workers → Unwritten
        ⊎ Told (disk.seen old.disk) (λ f. Told before.left (IsPartlyListed before.written after.written))
    part t = elim runs.comes [
      | inl r ↦ inl r.2
      | inr r ↦ elim (partly r.0 r.1 before.written after.written Unwritten answer r.4 t) [
        | inl u ↦ inl u
        | inr p ↦ inr (λ f told. described (WritesPart before.written after.written) r.0.polyhedron before.left r.2 (p f told))
      ]
    ]

    texts : Told (disk.seen old.disk) (λ f. LeavesOnly disk.moment disk.since old.disk new.disk (λ c. disk.images old.disk c ⊎ (HasNoRun c ⊎ IsLedgerFile c)))
    texts f told = elim runs.comes [
      | inl r ↦ weaker disk.moment disk.since old.disk new.disk _ _
          (subst (λ (z : Resources D W). LeavesOnly disk.moment disk.since old.disk z.disk (disk.images old.disk)) (sym r.1) still) (λ c i. inl i)
      | inr r ↦ texts_of r.0 r.1 before.written after.written Unwritten answer r.4 f told
    ]

    overflow : (o : Passed) → answer ≡ Overflow o → AreTrusted workers old.workers new.workers → Told before.left (Describes (λ p. Passes p o))
    overflow o e t = elim runs.comes [
      | inl r ↦ λ text given.
          let d = (subst (RefusesFile before.left) e r.0) text given in
          record { polyhedron = d.polyhedron; read = d.read; holds = passes_before d.polyhedron o d.holds }
      | inr r ↦ described (λ p. Passes p o) r.0.polyhedron before.left r.2 (passes r.0 r.1 before.written after.written Unwritten answer r.4 t o e)
    ]

    complete : Knows before.left (Describes PassesNowhere) → Knows (disk.seen old.disk) HasNoRun →
        TellsFullAnswers (workers.history old.workers) (workers.history new.workers) → ¬ (Rose before.read_faults after.read_faults) →
        ¬ (Rose before.write_faults after.write_faults) → ¬ (Rose (disk.faults old.disk) (disk.faults new.disk)) → (answer ≡ Infeasible) ⊎ ComesToItsEnd answer
    complete known fresh answered n m k = elim runs.comes [
      | inl r ↦ refused_ends before.left known answer r.0 (λ e. n (runs.reads.failed e))
      | inr r ↦ search_ends before.left known disk workers options in_range limit old new fresh answered r.0 r.1 r.2 before.written after.written Unwritten answer r.4.ends
          (λ e. m (runs.writes.failed e)) (λ e. k (runs.disk_calls.failed e))
    ]

    pub answers_run : AnswersRun disk workers options limit old new before after Unwritten answer
    answers_run = record { lists = lists; leaves = leaves; part = part; overflow = overflow; texts = texts; complete = complete; runs = runs }
