use Rattle.std.proofs.Common.{◌∙◌, take, refl, arith, length-set}
use Rattle.std.specs.Fmt.{signed_decimal}
use Rattle.std.proofs.lemmas.List.{take_more_set}
use Rattle.job_text.proofs.EntryLemmas.{no_entries, entries_more, nums_push}
use Rattle.job_text.proofs.entries.read_digits.Goals as goal

pub loop-i-init : goal.loop-i-init
loop-i-init c = record {
  nums = tt;
  found = rw no_entries refl;
  size = refl;
}

pub loop-i-preserved : goal.loop-i-preserved
loop-i-preserved c =
    let l = c.loop-i in
    let y = c.next_digit.new.place in
    let (num, at) = c.in-Some.ensures.some in
    let grown = take_more_set l.row l.i y (omega (arith, l.invariant.size, c.loop-i-test.true)) in
    record {
      nums = rw grown (nums_push (take l.i l.row) y l.invariant.nums num);
      found =
          rw grown (entries_more (take l.i l.row) y c.args.text.now l.left.now (signed_decimal y) c.in-Some.behind.now
          l.invariant.found at refl);
      size = length-set l.row l.i y ∙ l.invariant.size;
    }
