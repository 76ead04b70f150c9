-- Where nothing is in the way of `run` it comes to its end.
use Rattle.std.proofs.Common.{ℕ, List, ◌≡◌, ◌⊎◌, inl, inr, [], ◌∷◌, refl, Option, Some, None}
use Rattle.poly_model.specs.declared.overflow.Overflow.{Overflow as Passed}
use Rattle.poly_model.specs.Overflows.{Passes}
use Rattle.poly_model.specs.Systems.{Polyhedron}
use Rattle.work_core.specs.Searches.{Search}
use Rattle.disk_core.specs.declared.disk.Disk.{Ghosts as Disk}
use Rattle.job_ledger.specs.Records.{HasNoRun}
use Rattle.job_text.specs.FirstPayloads.{first_payload}
use Rattle.workers_io.specs.declared.workers.Workers.{Ghosts as Workers}
use Rattle.coordinator_core.specs.declared.options.Options.{Options}
use Rattle.coordinator_core.specs.Machine.{AreOptions}
use Rattle.run_laws.specs.Laws.{IsAnsweredCall, TellsFullAnswers}
use Rattle.run_laws.proofs.EndingLaws.{answered_calls_go_on, answered_overflows_pass}
use Rattle.run_laws.proofs.RunLaws.{first_record_is_legal}
use Rattle.disk_core.specs.Contents.{Told}
use Rattle.lrs_cli.specs.declared.status.Status.{Status}
use Rattle.lrs_cli.specs.declared.status.Status.TheVariants.{Done, Usage, BadFile, BadJob, Infeasible, Overflow, ReadFault, WriteFault, DiskFault, Lost, NoRun, HasRun, BadLedger, LedgerLimit, OutOfMemory}
use Rattle.lrs_cli.specs.Answers.{Describes, Knows, PassesNowhere}
use Rattle.lrs_cli.specs.Ledgers.{ComesToItsEnd, Resources}
use Rattle.lrs_cli.specs.Run.{EndsSearch, IsDueBeforeSearch, IsTextOf, MaySearch, RefusesFile}
use Rattle.lrs_cli.proofs.EndLemmas.{not_bad, of_one}

-- bytes that are known
pub known_file : (seen : Option (List ℕ)) (P : List ℕ → Type 0) → Knows seen P → (f : List ℕ) × (seen ≡ Some f) × P f
known_file None P k = absurd k
known_file (Some f) P k = (f, refl, k)

-- the answer is infeasible, or the call comes to its end
abbrev pub IsWell : Status → Type 0
IsWell answer = (answer ≡ Infeasible) ⊎ ComesToItsEnd answer

pub passes_before : (p : Polyhedron) (o : Passed) → IsDueBeforeSearch p o → Passes p o
passes_before p o (inl d) = d.passes
passes_before p o (inr d) = d.passes

module _ (left : Option (List ℕ)) (known : Knows left (Describes PassesNowhere)) where
  nothing_passes : (s : Search) → Told left (IsTextOf s) → PassesNowhere s.polyhedron
  nothing_passes s text o passes =
      let one = of_one PassesNowhere (λ p. Passes p o) left known
      (λ file told. record { polyhedron = s.polyhedron; read = text file told; holds = passes }) in
      one.1 o one.2

  -- a file that is refused
  pub refused_ends : (answer : Status) → RefusesFile left answer → (answer ≡ ReadFault → ⊥) → IsWell answer
  refused_ends ReadFault r n = absurd (n refl)
  refused_ends (BadFile f) r n = absurd (not_bad PassesNowhere left known f r)
  refused_ends (Overflow o) r n =
      let one = of_one PassesNowhere (λ p. IsDueBeforeSearch p o) left known r in
      absurd (one.1 o (passes_before one.0 o one.2))
  refused_ends Infeasible r n = inl refl
  refused_ends OutOfMemory r n = inr tt
  refused_ends (Done rows lines) r n = absurd r
  refused_ends Usage r n = absurd r
  refused_ends (BadJob place) r n = absurd r
  refused_ends WriteFault r n = absurd r
  refused_ends DiskFault r n = absurd r
  refused_ends (Lost lost strays) r n = absurd r
  refused_ends NoRun r n = absurd r
  refused_ends HasRun r n = absurd r
  refused_ends (BadLedger place) r n = absurd r
  refused_ends (LedgerLimit need most) r n = absurd r

  -- a search
  module _ {D W : Type 0} (disk : Disk D) (workers : Workers W) (options : Options) (in_range : AreOptions options) (limit : ℕ)
      (old new : Resources D W) (fresh : Knows (disk.seen old.disk) HasNoRun)
      (answered : TellsFullAnswers (workers.history old.workers) (workers.history new.workers)) (s : Search) (may : MaySearch s)
      (text : Told left (IsTextOf s)) (written now : Option (List ℕ)) (Unwritten : Type 0) where
    answered_call : IsAnsweredCall options s [] (first_payload s ∷ []) (workers.history old.workers) (workers.history new.workers)
    answered_call = record {
      in_range = in_range;
      legal = first_record_is_legal s may.first may.feasible may.begins;
      answered = answered;
    }

    pub search_ends : (answer : Status) → EndsSearch disk workers options limit s old new written now Unwritten answer → (answer ≡ WriteFault → ⊥) →
        (answer ≡ DiskFault → ⊥) → IsWell answer
    search_ends (Done rows lines) e w d = inr tt
    search_ends (Lost lost strays) e w d =
        absurd (answered_calls_go_on options s [] (first_payload s ∷ []) e.1 _ _ lost strays answered_call e.2)
    search_ends (Overflow o) e w d = elim e.1 [
      | inl own ↦ absurd (nothing_passes s text o own.0.passes)
      | inr told ↦ absurd (nothing_passes s text o
          (answered_overflows_pass options s [] (first_payload s ∷ []) told.0 _ _ o answered_call told.1))
    ]
    search_ends HasRun e w d = let f = known_file (disk.seen old.disk) HasNoRun fresh in absurd (f.2 (e.3 f.0 f.1).0)
    search_ends (BadLedger place) e w d = let f = known_file (disk.seen old.disk) HasNoRun fresh in absurd (e f.0 f.1)
    search_ends (LedgerLimit need most) e w d = inr tt
    search_ends DiskFault e w d = absurd (d refl)
    search_ends WriteFault e w d = absurd (w refl)
    search_ends OutOfMemory e w d = inr tt
    search_ends Usage e w d = absurd e
    search_ends (BadFile f) e w d = absurd e
    search_ends (BadJob place) e w d = absurd e
    search_ends Infeasible e w d = absurd e
    search_ends ReadFault e w d = absurd e
    search_ends NoRun e w d = absurd e
