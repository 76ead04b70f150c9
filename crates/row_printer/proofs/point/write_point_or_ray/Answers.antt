use Rattle.std.proofs.lemmas.List.{take_rest}
use Rattle.row_printer.proofs.ListingTextLemmas.{row_text-none, row_text-point, row_text-ray}
use Rattle.row_printer.proofs.point.write_point_or_ray.Goals as goal

pub returns-in_default : goal.returns-in_default
returns-in_default g c = rw (row_text-none c.args.v.now c.in_default.len_below) c.write_vector.ensures

pub returns-then-is_positive : goal.returns-then-is_positive
returns-then-is_positive g c =
    rw (row_text-point c.args.v.now _ c.in-len1-up.len_at_least c.first-item.is
    (c.is_positive.ensures.0 c.if-is_positive.true))
    (rw (take_rest c.args.v.now 1) at c.write_point.ensures)

pub returns-else-is_positive : goal.returns-else-is_positive
returns-else-is_positive g c =
    rw (row_text-ray c.args.v.now _ c.in-len1-up.len_at_least c.first-item.is
    (λ p. let h = c.is_positive.ensures.1 p in cc))
    c.write_vector-else-is_positive.ensures
