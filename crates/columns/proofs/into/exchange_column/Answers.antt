use Rattle.columns.proofs.ColumnLemmas.{shrunk_start, shrunk_more, shrunk_done}
use Rattle.columns.proofs.SizeLemmas.{sizes_more}
use Rattle.columns.proofs.into.exchange_column.Goals as goal

pub tries-init : goal.tries-init
tries-init c = record {
  shrunk =
      shrunk_start c.args.cells.now c.args.parts.now c.args.column c.args.scale.now.divisor c.args.new.now
      c.requires.scale.positive;
  scale = c.requires.scale;
  size = λ first. first;
}

pub returns-in-Some-clause-done : goal.returns-in-Some-clause-done
returns-in-Some-clause-done c _ =
    shrunk_done c.args.cells.now c.args.parts.now c.args.column c.args.scale.now.divisor c.tries.scale.divisor
    c.args.new.now c.tries.new c.write_column.new.new c.tries.invariant.shrunk c.write_column.ensures.kept
    c.in-Some.ensures.written

pub returns-in-Some-clause-size : goal.returns-in-Some-clause-size
returns-in-Some-clause-size c _ first =
    let all = c.common_size-scale.ensures in
    sizes_more c.tries.scale.size c.in-Some.size c.common_size-scale.result c.args.parts.now.x.now.height c.args.column
    c.tries.new c.write_column.new.new all.first all.second (c.tries.invariant.size first) c.write_column.ensures.kept
    c.in-Some.ensures.size

pub tries-preserved : goal.tries-preserved
tries-preserved c =
    let shrunk = c.shrink_scale.ensures in
    let done = c.if-not-shrink_scale.false in
    record {
      shrunk =
          shrunk_more c.args.cells.now c.args.parts.now c.args.column c.args.scale.now.divisor c.tries.scale.divisor
          c.shrink_scale.new.shrinking.divisor c.args.new.now c.tries.new c.write_column.new.new c.shrink_scale.new.new
          c.tries.invariant.shrunk c.write_column.ensures.kept (shrunk.shrunk done);
      scale = shrunk.scale done;
      size = λ _ k l. shrunk.size done _;
    }
