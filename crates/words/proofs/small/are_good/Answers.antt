use Rattle.std.proofs.Common.{◌≡◌, ◌∙◌, sym, ap, ℕ, ◌%◌, ◌^◌, ◌-◌, ◌*◌, bit_and, arith}
use Rattle.std.proofs.lemmas.Nat.{and_mask, one_shl}
use Rattle.words.proofs.small.are_good.Goals as goal

pub returns-then-sizes : goal.returns-then-sizes
returns-then-sizes c t =
    let k = c.args.twos in
    let shift : 1 * 2 ^ k % 2 ^ 32 ≡ 2 ^ k = one_shl k 32 (omega (arith, c.requires)) in
    let none : bit_and c.args.low (1 * 2 ^ k % 2 ^ 32 - 1) ≡ 0 = grind (arith, t) in (
      c.if-sizes.true,
      sym (and_mask c.args.low k) ∙ ap (λ (m : ℕ). bit_and c.args.low (m - 1)) (sym shift) ∙ none,
    )
