use Rattle.std.proofs.Common.{◌≡◌, ◌∙◌, ℕ, List, length, take, refl, sym, ap, arith, length-take-le, length-set}
use Rattle.std.specs.Fmt.{signed_decimal}
use Rattle.std.proofs.lemmas.Bool.{eqb-false}
use Rattle.std.proofs.lemmas.List.{take_more_set, take_all}
use Rattle.job_text.proofs.EntryLemmas.{no_entries, entries_more, nums_push, first_entries, entry_is_next, entries_tell}
use Rattle.job_text.proofs.entries.read_entries.Goals as goal

pub loop-i-init : goal.loop-i-init
loop-i-init c = record {
  nums = tt;
  found = rw no_entries refl;
  goes_on = c.requires;
  size = refl;
}

pub returns-in-None-clause-no : goal.returns-in-None-clause-no
returns-in-None-clause-no c _ v count all is =
    let l = c.loop-i in
    let size : length (take l.i l.row) ≡ l.i = length-take-le l.i l.row (omega (arith, l.invariant.size, c.loop-i-test.true)) in
    entry_is_next v (take l.i l.row) c.args.text.now l.rest.now
    (first_entries l.invariant.nums all l.invariant.goes_on l.invariant.found is)
    (omega (arith, size, count, l.invariant.size, c.loop-i-test.true)) (c.in-None.ensures.none refl)

pub loop-i-preserved : goal.loop-i-preserved
loop-i-preserved c =
    let l = c.loop-i in
    let y = c.next_num.new.place in
    let (num, at, goes_on) = c.in-Some.ensures.some in
    let grown = take_more_set l.row l.i y (omega (arith, l.invariant.size, c.loop-i-test.true)) in
    record {
      nums = rw grown (nums_push (take l.i l.row) y l.invariant.nums num);
      found =
          rw grown (entries_more (take l.i l.row) y c.args.text.now l.rest.now (signed_decimal y) c.in-Some.behind.now
          l.invariant.found at refl);
      goes_on = goes_on;
      size = length-set l.row l.i y ∙ l.invariant.size;
    }

pub returns-clause-no : goal.returns-clause-no
returns-clause-no c empty v count all is =
    let l = c.loop-i in
    let whole : take l.i l.row ≡ l.row = take_all l.i l.row (omega (arith, l.invariant.size, c.loop-i-test.false)) in
    let same = entries_tell (take l.i l.row) v l.rest.now l.invariant.nums all l.invariant.goes_on
    (ap length whole ∙ omega (arith, l.invariant.size, count)) (sym l.invariant.found ∙ is) in
    eqb-false (length l.rest.now) 0 (sym c.is_empty.ensures ∙ empty) (ap (λ (t : List ℕ). length t) same.1)
