use Rattle.phase_one.proofs.tests.answer_to.Goals as goal

pub first-requires : goal.first-requires
first-requires c =
    record { prepared = (c.in_ok-poly.poly, c.in-Ok.ensures.prepared c.in_ok-poly.poly c.in_ok-cone.ensures) }
