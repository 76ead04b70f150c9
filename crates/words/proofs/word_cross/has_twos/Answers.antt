use Rattle.std.proofs.Common.{◌≡◌, ◌∙◌, sym, ap, ℕ, ◌%◌, ◌^◌, ◌-◌, ◌*◌, bit_and, arith}
use Rattle.std.proofs.lemmas.Nat.{and_mask, one_shl}
use Rattle.words.proofs.word_cross.has_twos.Goals as goal

pub returns : goal.returns
returns c t =
    let k = c.args.twos in
    let shift : 1 * 2 ^ k % 2 ^ 64 ≡ 2 ^ k = one_shl k 64 (omega (arith, c.requires)) in
    let none : bit_and c.args.low (1 * 2 ^ k % 2 ^ 64 - 1) ≡ 0 = grind (arith, t) in
    sym (and_mask c.args.low k) ∙ ap (λ (m : ℕ). bit_and c.args.low (m - 1)) (sym shift) ∙ none
