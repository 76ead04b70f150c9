use Rattle.plain_text.proofs.front.short_num_in.Goals as goal

pub returns : goal.returns
returns c =
    let sign = c.split_minus-negative.ensures in (
      rw (← sign.rest) c.in_ok-size.ensures,
      sign.sign,
      c.is_negative_zero.ensures.no c.if-is_negative_zero.false,
    )
