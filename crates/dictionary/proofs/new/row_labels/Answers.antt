use Rattle.std.proofs.Common.{◌+◌, ◌++◌, ◌∷◌, [], ap, sym, ◌∙◌, arith}
use Rattle.std.specs.List.{range_with_len}
use Rattle.dictionary.proofs.RangeLemmas.{range_more}
use Rattle.dictionary.proofs.new.row_labels.Goals as goal

pub loop-i-preserved : goal.loop-i-preserved
loop-i-preserved c =
    c.in_ok-push.ensures.items
    ∙ ap (λ k. c.loop-i.labels.items ++ k ∷ []) c.row.ensures
    ∙ ap (λ ks. ks ++ (c.loop-i.i + 1) ∷ []) c.loop-i.invariant
    ∙ ap (λ k. range_with_len 1 c.loop-i.i ++ k ∷ []) (omega arith)
    ∙ sym (range_more 1 c.loop-i.i)
