use Rattle.std.proofs.Common.{◌≡◌, ◌-◌, pos, length, get_or, sym, ap, ◌∙◌}
use Rattle.std.proofs.lemmas.List.{with_items_is}
use Rattle.poly_num.proofs.VectorLemmas.{length-scale}
use Rattle.dictionary.proofs.DividedOut.{divided_written}
use Rattle.dictionary.proofs.main_phase.divide_out.Goals as goal

pub returns : goal.returns
returns c =
    let mid = c.primitive.new.v in
    let factor = c.primitive.ensures.primitive.factor in
    let same : length mid ≡ c.push.new.self.len =
    sym (length-scale (pos factor.0) mid) ∙ ap length (sym factor.2) ∙ c.deref_mut.ensures.len in
    let now = with_items_is c.push.new.self mid same in
    let last : c.len-last.result - 1 ≡ length mid - 1 =
    ap (λ n. n - 1) (c.len-last.ensures ∙ sym same) in
    divided_written c.args.cells.now.items c.args.denominator c.deref_mut.result.now mid _ c.truncate.new.self.items
    (c.len-last.result - 1) c.at_place-least.result c.requires
    (c.deref_mut.ensures.value ∙ c.in_ok-push.ensures.items) c.primitive.ensures.primitive now last
    c.truncate.ensures.items
    (c.at_place-least.ensures
    ∙ ap (λ v. get_or v (c.len-last.result - 1) (pos 0)) c.deref.ensures.value)
