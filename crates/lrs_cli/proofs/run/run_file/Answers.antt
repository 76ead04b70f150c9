use Rattle.std.proofs.Common.{◌≡◌, inl, refl, Err}
use Rattle.std.specs.Result.{IsErrOf}
use Rattle.poly_reader.specs.declared.bad.BadFile.{BadFile}
use Rattle.poly_reader.specs.declared.bad.ReadStop.{ReadStop}
use Rattle.poly_reader.specs.declared.bad.ReadStop.TheVariants.{Fault, Bad}
use Rattle.lrs_cli.specs.declared.status.Status.TheVariants.{ReadFault, WriteFault}
use Rattle.lrs_cli.proofs.FaultLemmas.{fault_of_source, text_of_source}
use Rattle.lrs_cli.proofs.FileLemmas.{disk_rose, no_disk_rose, none_rose, rose_at, runs_file}
use Rattle.lrs_cli.proofs.run.run_file.Goals as goal

pub returns-in-Ok-clause-runs : goal.returns-in-Ok-clause-runs
returns-in-Ok-clause-runs g c =
    let e = c.run_poly.ensures in
    runs_file g.D.Disk g.W.Workers _ _ c.in-Ok.poly _ _ _ _ _ _ _ c.run_poly.result e.runs (text_of_source _ _ c.in-Ok.poly c.in-Ok.ensures.ok) c.in-Ok.ensures.ok.ends
    c.read_poly.ensures.later (c.in-Ok.ensures.same (λ x. cc)) e.writes (disk_rose c.run_poly.result _ _ e.disk_calls)

-- a text that describes no polyhedron is no fault of reading
bad_is_no_fault : {T : Type 0} (stop : ReadStop) (f : BadFile) → stop ≡ Bad f → IsErrOf {T = T} {E = ReadStop} (Err stop) Fault → ⊥
bad_is_no_fault stop f is e = cc

pub returns-in-Err-Bad-clause-runs : goal.returns-in-Err-Bad-clause-runs
returns-in-Err-Bad-clause-runs g c =
    let stop = c.in-Err-Bad in
    let found = (rw stop.field-0-is at stop.ensures.bad) stop.f refl in
    let same = stop.ensures.same (bad_is_no_fault stop.field-0 stop.f stop.field-0-is) in
    rw stop.f-is (record {
      comes = inl (fault_of_source _ _ stop.f found, refl, refl);
      reads = rose_at ReadFault _ _ _ c.read_poly.ensures.later (λ e. absurd (cc)) (λ n. same);
      writes = none_rose WriteFault _ _ (λ e. cc);
      disk_calls = no_disk_rose _ _ (λ e. cc);
    })
