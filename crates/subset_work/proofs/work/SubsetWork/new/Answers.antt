use Rattle.std.proofs.Common.{length, refl, ap, subst, arith}
use Rattle.dictionary.specs.Views.{Dictionary}
use Rattle.dictionary.proofs.KeptLabels.{filter_length}
use Rattle.plain_enum.specs.Begin.{is_kept}
use Rattle.plain_enum.specs.Plain.{PassesInCone}
use Rattle.subset_work.proofs.Runs.{same_stop}
use Rattle.subset_work.proofs.work.SubsetWork.new.Goals as goal

pub invariant_of-result : goal.invariant_of-result
invariant_of-result c = record {
  room = c.in-Ok.ensures.room.room;
  few =
      let made = c.in-Ok.field-0 in
      let some = filter_length (is_kept made.free) made.dict.value.key in
      omega (
        arith,
        c.in-Ok.ensures.room.depth,
        some,
        c.len-few.ensures.value,
        c.len-few.ensures.room,
        ap length c.key.ensures,
        ap (λ (d : Dictionary). length d.key) c.deref.ensures,
      );
}

pub returns-in-Err-Overflow-clause-overflow : goal.returns-in-Err-Overflow-clause-overflow
returns-in-Err-Overflow-clause-overflow c o e p file =
    subst (PassesInCone p) (same_stop c.in-Err-Overflow.overflow o e)
    ((rw c.in-Err-Overflow.field-0-is at c.in-Err-Overflow.ensures.overflow) c.in-Err-Overflow.overflow refl p file)
