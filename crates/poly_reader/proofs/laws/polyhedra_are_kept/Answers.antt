use Rattle.poly_reader.proofs.BeforeLemmas.{polyhedron_kept}
use Rattle.poly_reader.proofs.laws.polyhedra_are_kept.Goals as goal

pub returns : goal.returns
returns c text = polyhedron_kept text
