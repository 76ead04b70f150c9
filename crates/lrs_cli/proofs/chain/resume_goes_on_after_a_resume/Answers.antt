use Rattle.std.proofs.Common.{inl, inr}
use Rattle.lrs_cli.proofs.chain.resume_goes_on_after_a_resume.Goals as goal

pub returns : goal.returns
returns g c records all found left x i opened = elim (left.each x (found x i)) [
  | inl old ↦ all x old opened
  | inr on ↦ on
]
