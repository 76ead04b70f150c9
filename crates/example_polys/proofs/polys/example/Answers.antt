use Rattle.example_polys.proofs.ShapeLemmas.{is_example, shaped}
use Rattle.example_polys.proofs.polys.example.Goals as goal

pub new-requires : goal.new-requires
new-requires c =
    rw (c.in_ok-marks.ensures, c.row_count.ensures, c.width.ensures, c.in_ok-cells.ensures)
    (shaped c.args.kind c.args.n c.requires)

pub returns : goal.returns
returns c =
    rw (
      c.new.ensures,
      c.in_ok-marks.ensures,
      c.row_count.ensures,
      c.width.ensures,
      c.in_ok-cells.ensures,
      c.kind_of_file.ensures,
      c.new-text.ensures.items,
    )
    (is_example c.args.kind c.args.n)
