use Rattle.std.proofs.Common.{◌≡◌, Err, inl, inr, refl, subst, ⊎_elim}
use Rattle.std.specs.Result.{IsErrOf}
use Rattle.poly_model.specs.Systems.{cone_of}
use Rattle.poly_model.specs.Extreme.{IsFeasible}
use Rattle.poly_reader.specs.declared.bad.BadFile.{BadFile}
use Rattle.poly_reader.specs.declared.bad.ReadStop.{ReadStop}
use Rattle.poly_reader.specs.declared.bad.ReadStop.TheVariants.{Fault, Bad}
use Rattle.convert_core.specs.Listed.{IsDueInSearch}
use Rattle.lrs_cli.specs.Answers.{ComesOfPolyhedron, WritesWhole, WritesPart}
use Rattle.lrs_cli.proofs.AnswerLemmas.{answers_bad_file}
use Rattle.lrs_cli.proofs.EndLemmas.{ends, of_file}
use Rattle.lrs_cli.proofs.FaultLemmas.{described, fault_of_source, text_of_source}
use Rattle.lrs_cli.proofs.convert.convert.Goals as goal

pub returns-in-Ok-clause-answers : goal.returns-in-Ok-clause-answers
returns-in-Ok-clause-answers g c =
    let source = g.I.Source.left c.args.input.now in
    let old = g.O.Sink.written c.args.out.now in
    let new = g.O.Sink.written c.print_listing.new.out in
    let poly = c.in-Ok.poly in
    let text = text_of_source _ _ poly c.in-Ok.ensures.ok in
    let listing = c.print_listing.ensures in
    record {
      done = λ rows lines e. (
        c.in-Ok.ensures.ok.ends,
        described (WritesWhole old new rows lines) poly source text (listing.done rows lines e),
      );
      infeasible = λ e. described (λ p. IsFeasible (cone_of p) → ⊥) poly source text (listing.infeasible e);
      overflow = λ o e. described (λ p. IsDueInSearch p o) poly source text (listing.overflow o e);
      stopped = λ s. described (WritesPart old new) poly source text (listing.stopped s);
      printed = λ s. ⊎_elim (λ k. inl k)
          (λ f. inr (described (λ p. IsFeasible (cone_of p)) poly source text f)) (listing.printed s);
      bad_file = λ f e. absurd (subst ComesOfPolyhedron e listing.lists);
      comes = of_file c.print_listing.result listing.lists;
      read_fault = λ e. absurd (subst ComesOfPolyhedron e listing.lists);
      reads = λ n. c.in-Ok.ensures.same (λ e. cc);
      write_fault = listing.write_fault;
      writes = listing.writes;
      unwritten = listing.unwritten;
      complete = λ known n m. ends source known c.print_listing.result listing.lists (λ e. m (listing.write_fault e))
          (λ o e. described (λ p. IsDueInSearch p o) poly source text (listing.overflow o e));
    }

-- a text that describes no polyhedron is no fault of reading
bad_is_no_fault : {T : Type 0} (stop : ReadStop) (f : BadFile) → stop ≡ Bad f →
    IsErrOf {T = T} {E = ReadStop} (Err stop) Fault → ⊥
bad_is_no_fault stop f is e = cc

pub returns-in-Err-Bad-clause-answers : goal.returns-in-Err-Bad-clause-answers
returns-in-Err-Bad-clause-answers g c =
    let found = (rw c.in-Err-Bad.field-0-is at c.in-Err-Bad.ensures.bad) c.in-Err-Bad.f refl in
    let reads = c.in-Err-Bad.ensures.same
    (bad_is_no_fault c.in-Err-Bad.field-0 c.in-Err-Bad.f c.in-Err-Bad.field-0-is) in
    rw c.in-Err-Bad.f-is
    (answers_bad_file _ _ _ refl refl c.in-Err-Bad.f reads (fault_of_source _ _ c.in-Err-Bad.f found))
