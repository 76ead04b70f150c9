use Rattle.std.proofs.Common.{◌<◌, length, arith, sym, ◌∙◌}
use Rattle.std.proofs.lemmas.List.{length-set, take_more_set}
use Rattle.std.proofs.lemmas.List.FromFn.{map-range_with_len_more}
use Rattle.hull_lift.specs.Facets.{coordinate_in}
use Rattle.hull_lift.proofs.facet.write_column.Goals as goal

pub coordinates-preserved : goal.coordinates-preserved
coordinates-preserved c =
    let j = c.coordinates.j in
    let within : j < length c.coordinates.out = omega (arith, c.coordinates.invariant.width) in
    record {
      width = length-set c.coordinates.out j c.coordinate_in.result ∙ c.coordinates.invariant.width;
      written = rw (
        take_more_set c.coordinates.out j c.coordinate_in.result within,
        c.coordinates.invariant.written,
        c.coordinate_in.ensures,
      )
          (sym (map-range_with_len_more (coordinate_in c.args.dict.now c.args.col) 0 j j (omega arith)));
    }
