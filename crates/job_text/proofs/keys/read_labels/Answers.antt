use Rattle.std.proofs.Common.{◌≡◌, ◌∙◌, ◌∷◌, ℕ, List, length, take, refl, ap, arith, length-take-le, length-set}
use Rattle.std.proofs.lemmas.List.{take_more_set}
use Rattle.plain_text.proofs.ReadLemmas.{read_none, read_at}
use Rattle.job_text.proofs.KeyTextLemmas.{no_labels, labels_more, labels_push, first_labels, label_is_next, next_label_word}
use Rattle.job_text.proofs.keys.read_labels.Goals as goal

pub loop-i-init : goal.loop-i-init
loop-i-init c = record {
  labels = tt;
  found = rw no_labels refl;
  goes_on = c.requires.goes_on;
  size = refl;
}

pub returns-in_err-word-clause-none : goal.returns-in_err-word-clause-none
returns-in_err-word-clause-none c _ labels more all count goes_on is =
    let l = c.loop-i in
    let size : length (take l.i l.room) ≡ l.i =
    length-take-le l.i l.room (omega (arith, l.invariant.size, c.requires.few, c.loop-i-test.true)) in
    label_is_next labels (take l.i l.room) c.args.text.now l.rest.now more
    (first_labels l.invariant.labels all l.invariant.goes_on goes_on l.invariant.found is)
    (omega (arith, size, count, c.loop-i-test.true)) c.in_err-word.ensures

pub returns-in_err-label-clause-none : goal.returns-in_err-label-clause-none
returns-in_err-label-clause-none c _ labels more all count goes_on is =
    let l = c.loop-i in
    let size : length (take l.i l.room) ≡ l.i =
    length-take-le l.i l.room (omega (arith, l.invariant.size, c.requires.few, c.loop-i-test.true)) in
    let (cut, at, cuts) = c.in_ok-word.ensures in
    let (x, may, word) = next_label_word labels (take l.i l.room) c.args.text.now l.rest.now more cut c.in_ok-word.word.now
    c.in_ok-word.behind.now (first_labels l.invariant.labels all l.invariant.goes_on goes_on l.invariant.found is)
    (omega (arith, size, count, c.loop-i-test.true)) at cuts in
    read_none c.in_err-label.was c.read_label.ensures x may word

pub loop-i-preserved : goal.loop-i-preserved
loop-i-preserved c =
    let l = c.loop-i in
    let (cut, at, cuts) = c.in_ok-word.ensures in
    let label = read_at c.in_ok-label.was c.read_label.ensures in
    let grown = take_more_set l.room l.i c.in_ok-label.label (omega (arith, l.invariant.size, c.requires.few, c.loop-i-test.true)) in
    record {
      labels = rw grown (labels_push (take l.i l.room) c.in_ok-label.label l.invariant.labels label.0);
      found =
          rw grown (labels_more (take l.i l.room) c.in_ok-label.label c.args.text.now l.rest.now c.in_ok-word.word.now
          c.in_ok-word.behind.now l.invariant.found (at ∙ ap (λ (t : List ℕ). 32 ∷ t) cuts.whole) label.1);
      goes_on = cuts.goes_on;
      size = length-set l.room l.i c.in_ok-label.label ∙ l.invariant.size;
    }
