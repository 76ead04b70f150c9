use Rattle.std.proofs.Common.{inl, inr}
use Rattle.lrs_cli.proofs.chain.resume_goes_on_after_a_run.Goals as goal

pub returns : goal.returns
returns g c fresh found (inl same) = inl (λ x i. fresh x (same.each x (found x i)))
returns g c fresh found (inr (s, text, left)) = inr (
  s,
  text,
  λ x i opened. elim (left.each x (found x i)) [
    | inl old ↦ absurd (fresh x old opened)
    | inr now ↦ elim now [
      | inl none ↦ absurd (none opened)
      | inr on ↦ on
    ]
  ],
)
