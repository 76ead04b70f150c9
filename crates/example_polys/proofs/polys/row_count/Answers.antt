use Rattle.std.proofs.Common.{sym, inl, inr}
use Rattle.example_polys.specs.declared.kind.ExampleKind.TheVariants.{Cube, Cross, Product, Pyramid}
use Rattle.example_polys.proofs.ShapeLemmas.{rows_count}
use Rattle.example_polys.proofs.polys.row_count.Goals as goal

pub returns-in-Cube : goal.returns-in-Cube
returns-in-Cube c =
    elim c.in-Cube.is [
      | inl e ↦ rw e (sym (rows_count Cube c.args.n))
      | inr e ↦ rw e (sym (rows_count Cross c.args.n))
    ]

pub returns-in-Product : goal.returns-in-Product
returns-in-Product c = rw c.in-Product.is (sym (rows_count Product c.args.n))

pub returns-in-Pyramid : goal.returns-in-Pyramid
returns-in-Pyramid c = rw c.in-Pyramid.is (sym (rows_count Pyramid c.args.n))
