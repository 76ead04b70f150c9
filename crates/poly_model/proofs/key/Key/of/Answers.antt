use Rattle.std.proofs.Common.{◌++◌, ap, refl, length}
use Rattle.std.proofs.lemmas.List.{drop-replicate}
use Rattle.poly_model.specs.Limits.{most_labels}
use Rattle.poly_model.proofs.RoomLemmas.{fills}
use Rattle.poly_model.proofs.key.Key.of.Goals as goal

pub invariant_of-result : goal.invariant_of-result
invariant_of-result c = fills _ c.args.labels.now _ c.requires (rw (c.copy_from_slice.ensures.after) (ap (λ zs. c.args.labels.now ++ zs) (drop-replicate (length c.args.labels.now) most_labels 0))) refl
