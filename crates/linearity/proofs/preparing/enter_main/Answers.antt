use Rattle.std.proofs.Common.{◌≡◌, subst}
use Rattle.linearity.specs.Columns.{coordinate_vectors}
use Rattle.linearity.proofs.Consistency.{is_prepared}
use Rattle.linearity.proofs.preparing.enter_main.Goals as goal

pub returns : goal.returns
returns c p file ended =
    is_prepared p c.args.sys.now c.args.dict c.in_ok-dict.dict c.in_ok-lines.lines c.in_ok-free.free file
    c.in_ok-free.ensures.ascending ended c.in_ok-free.ensures.columns
    (subst (λ n. c.in_ok-lines.lines ≡ coordinate_vectors c.args.dict n) c.n-n.ensures.value c.in_ok-lines.ensures.value)
    c.in_ok-dict.ensures
