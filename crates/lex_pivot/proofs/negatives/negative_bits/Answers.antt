use Rattle.std.proofs.Common.{◌+◌, ◌-◌, ◌*◌, ◌≡◌, length, ap, ◌∙◌, arith}
use Rattle.lex_pivot.specs.Negatives.{bits_of, negative_in}
use Rattle.lex_pivot.proofs.NegativeLemmas.{room, one_in_front, bit_at_most}
use Rattle.lex_pivot.proofs.negatives.negative_bits.Goals as goal

pub overflow_mul-bits : goal.overflow_mul-bits
overflow_mul-bits c =
    let h = room (negative_in c.args.table.now.dict.now c.args.j) (c.args.count - c.cells.left)
    (c.args.from + c.cells.left) (let t = c.cells-test.true in let f = c.requires.few in omega arith) in
    let e = c.cells.invariant.bits in omega (arith, h, e)

pub overflow_add-from : goal.overflow_add-from
overflow_add-from c =
    let n : length c.rows-count.result.now ≡ length c.args.table.now.dict.now.rows = ap length c.rows-count.ensures.value in
    let f = c.cells.invariant.few in
    let w = c.requires.within in
    omega (arith, f, w, n)

pub overflow_add-bits : goal.overflow_add-bits
overflow_add-bits c =
    let h = room (negative_in c.args.table.now.dict.now c.args.j) (c.args.count - c.cells.left)
    (c.args.from + c.cells.left) (let t = c.cells-test.true in let f = c.requires.few in omega arith) in
    let e = c.cells.invariant.bits in
    let b = bit_at_most (negative_in c.args.table.now.dict.now c.args.j (c.args.from + (c.cells.left - 1))) c.negative_bit.result
    c.negative_bit.ensures in
    omega (arith, h, e, b)

pub cells-preserved : goal.cells-preserved
cells-preserved c =
    let t = c.cells-test.true in let f = c.cells.invariant.few in
    record {
      few = omega (arith, f);
      bits = ap (λ z. 2 * z + c.negative_bit.result) c.cells.invariant.bits
          ∙ ap (λ z. 2 * bits_of (negative_in c.args.table.now.dict.now c.args.j) (c.args.from + c.cells.left)
          (c.args.count - c.cells.left) + z) c.negative_bit.ensures
          ∙ one_in_front (negative_in c.args.table.now.dict.now c.args.j) (c.args.count - c.cells.left)
          (c.args.count - (c.cells.left - 1)) (c.args.from + (c.cells.left - 1)) (c.args.from + c.cells.left)
          (omega (arith, t, f)) (omega (arith, t));
    }
