use Rattle.std.proofs.Common.{length, sym, ap, ◌∙◌}
use Rattle.poly_model.proofs.KeyListLemmas.{key_count}
use Rattle.poly_model.proofs.keys.Keys.len.Goals as goal

pub returns : goal.returns
returns c =
    ap length c.as_slice.ensures.value ∙ sym (rw (sym c.self.view_is) (key_count c.self.inside.counts.items c.self.inside.labels.items))
