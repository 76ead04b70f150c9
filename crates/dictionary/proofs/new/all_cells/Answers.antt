use Rattle.std.proofs.Common.{[], map, ◌∙◌, arith}
use Rattle.std.specs.List.{range_with_len}
use Rattle.dictionary.specs.New.{first_number}
use Rattle.dictionary.proofs.RangeLemmas.{flat_range_more}
use Rattle.dictionary.proofs.new.all_cells.Goals as goal

pub loop-j-preserved : goal.loop-j-preserved
loop-j-preserved c =
    c.in_ok-push_column.ensures
    ∙ flat_range_more
    (λ j. map (λ i. first_number c.args.constants c.args.sys.now.rows i j) (range_with_len 1 c.args.count))
    c.loop-j.cells.items [] 0 c.loop-j.j c.loop-j.j (omega arith) c.loop-j.invariant
