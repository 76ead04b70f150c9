use Rattle.std.proofs.Common.{[], ◌∷◌, refl}
use Rattle.job_text.specs.Jobs.{first_line, second_line, third_line, fourth_line, fifth_line, sixth_line}
use Rattle.job_text.proofs.JobLineLemmas.{work_begins, root_begins, key_begins, bases_begin, no_work, no_root, no_key, no_bases, no_depth}
use Rattle.job_text.proofs.head.head_behind.Goals as goal

pub returns-in-None-clause-err : goal.returns-in-None-clause-err
returns-in-None-clause-err c = record {
  before = [];
  form = first_line;
  after = second_line ∷ third_line ∷ fourth_line ∷ fifth_line ∷ sixth_line ∷ [];
  lines = refl;
  number = refl;
  rest = c.args.text.now;
  begins = refl;
  bad = no_work c.args.text.now (c.in-None.ensures.none refl);
}

pub returns-in-None-key_behind-clause-err : goal.returns-in-None-key_behind-clause-err
returns-in-None-key_behind-clause-err c =
    let w = c.in-Some in
    record {
      before = first_line ∷ [];
      form = second_line;
      after = third_line ∷ fourth_line ∷ fifth_line ∷ sixth_line ∷ [];
      lines = refl;
      number = refl;
      rest = w.found.1.now;
      begins = work_begins _ _ [] w.found.1.now w.found.0 w.ensures.some.1 refl;
      bad = no_root w.found.1.now (c.in-None-key_behind.ensures.none refl);
    }

pub returns-in-None-key_behind-2-clause-err : goal.returns-in-None-key_behind-2-clause-err
returns-in-None-key_behind-2-clause-err c =
    let w = c.in-Some in
    let r = c.in-Some-key_behind in
    record {
      before = first_line ∷ second_line ∷ [];
      form = third_line;
      after = fourth_line ∷ fifth_line ∷ sixth_line ∷ [];
      lines = refl;
      number = refl;
      rest = r.found.1.now;
      begins =
          work_begins _ _ (second_line ∷ []) w.found.1.now w.found.0 w.ensures.some.1
          (root_begins _ _ [] r.found.1.now r.found.0 r.ensures.some.0 r.ensures.some.1 refl);
      bad = no_key r.found.1.now (c.in-None-key_behind-2.ensures.none refl);
    }

pub returns-in-None-count_behind-clause-err : goal.returns-in-None-count_behind-clause-err
returns-in-None-count_behind-clause-err c =
    let w = c.in-Some in
    let r = c.in-Some-key_behind in
    let k = c.in-Some-key_behind-2 in
    record {
      before = first_line ∷ second_line ∷ third_line ∷ [];
      form = fourth_line;
      after = fifth_line ∷ sixth_line ∷ [];
      lines = refl;
      number = refl;
      rest = k.found.1.now;
      begins =
          work_begins _ _ (second_line ∷ third_line ∷ []) w.found.1.now w.found.0 w.ensures.some.1
          (root_begins _ _ (third_line ∷ []) r.found.1.now r.found.0 r.ensures.some.0 r.ensures.some.1
          (key_begins _ _ [] k.found.1.now k.found.0 k.ensures.some.0 k.ensures.some.1 refl));
      bad = no_bases k.found.1.now (c.in-None-count_behind.ensures.none refl);
    }

pub returns-in-None-count_behind-2-clause-err : goal.returns-in-None-count_behind-2-clause-err
returns-in-None-count_behind-2-clause-err c =
    let w = c.in-Some in
    let r = c.in-Some-key_behind in
    let k = c.in-Some-key_behind-2 in
    let b = c.in-Some-count_behind in
    record {
      before = first_line ∷ second_line ∷ third_line ∷ fourth_line ∷ [];
      form = fifth_line;
      after = sixth_line ∷ [];
      lines = refl;
      number = refl;
      rest = b.found.1.now;
      begins =
          work_begins _ _ (second_line ∷ third_line ∷ fourth_line ∷ []) w.found.1.now w.found.0 w.ensures.some.1
          (root_begins _ _ (third_line ∷ fourth_line ∷ []) r.found.1.now r.found.0 r.ensures.some.0 r.ensures.some.1
          (key_begins _ _ (fourth_line ∷ []) k.found.1.now k.found.0 k.ensures.some.0 k.ensures.some.1
          (bases_begin _ _ [] b.found.1.now b.found.0 b.ensures.some.0.0 b.ensures.some.0.1 b.ensures.some.1 refl)));
      bad = no_depth b.found.1.now (c.in-None-count_behind-2.ensures.none refl);
    }
