use Rattle.std.proofs.Common.{◌≡◌, refl}
use Rattle.poly_model.specs.declared.listed.Count.{Count}
use Rattle.job_text.specs.declared.reply.Tail.{Tail}
use Rattle.job_text.specs.declared.reply.Tail.TheVariants.{End, Overflow, Memory}
use Rattle.run_state.specs.Payloads.{SaysEnd}
use Rattle.run_ledger.proofs.rows.print_reply.Goals as goal

-- the numbers of an `end`
end_in : (t : Tail) → SaysEnd t → (count : Count) × (t ≡ End count)
end_in (End count) says = (count, refl)
end_in (Overflow o) says = absurd says
end_in Memory says = absurd says

pub returns-in-Some-clause-rows : goal.returns-in-Some-clause-rows
returns-in-Some-clause-rows g c r whole ends =
    let (count, is) = end_in r.tail ends in c.print_left.ensures.rows r.rows (c.in-Some.ensures.some _ r count whole is)

pub returns-in-Some-clause-bad : goal.returns-in-Some-clause-bad
returns-in-Some-clause-bad g c number e =
    let bad = c.print_left.ensures.bad number e in (
      bad.0,
      λ r whole ends. let (count, is) = end_in r.tail ends in bad.1 r.rows (c.in-Some.ensures.some _ r count whole is),
    )

pub returns-in-None-clause-rows : goal.returns-in-None-clause-rows
returns-in-None-clause-rows g c r whole ends = absurd (c.in-None.ensures.none refl _ r whole)

pub returns-in-None-clause-bad : goal.returns-in-None-clause-bad
returns-in-None-clause-bad g c number e =
    let same : number ≡ c.args.place = cc in (same, λ r whole ends. c.in-None.ensures.none refl _ r whole)
