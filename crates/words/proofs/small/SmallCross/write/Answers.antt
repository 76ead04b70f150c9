use Rattle.std.proofs.Common.{◌≡◌, ◌+◌, ◌<◌, ◌^◌, pos, length, get_or, arith, rules, ◌∙◌}
use Rattle.std.specs.Prelude.{FitsSigned, unsigned_abs}
use Rattle.std.specs.Int.{w32}
use Rattle.std.proofs.lemmas.Int.{to_z-of_z}
use Rattle.std.proofs.lemmas.List.{length-set}
use Rattle.words.specs.Crosses.{IsQuotient}
use Rattle.words.specs.Small.{IsSmall, AreGood}
use Rattle.words.proofs.PlaceLemmas.{places_more, kept_more}
use Rattle.words.proofs.small.SmallCross.write.Goals as goal

pub cells-preserved : goal.cells-preserved
cells-preserved c =
    let h = c.args.self.now in
    let by = c.copied-by.result in
    let base = c.args.base in
    let i = c.cells.i in
    let a = get_or c.args.cells.now in
    let z = c.word_of.result in
    let u = c.cells.invariant in
    let taken = c.taken-taken.result in
    let fq : FitsSigned w32 taken.quotient = search rules in
    let fm : FitsSigned w32 taken.multiple = search rules in
    let fa : FitsSigned w32 c.small_at.result = search rules in
    let fc : FitsSigned w32 c.small_at-in-cells.result = search rules in
    let is : z ≡ taken.quotient = simp to_z-of_z at c.word_of.ensures in
    let size = simp to_z-of_z at c.with_size-sizes.ensures.size in
    let lt : base + i < length c.cells.new = search rules in
    let fewer : AreGood c.with_size-sizes.result c.with_bits-low.result by.twos → AreGood c.cells.sizes c.cells.low by.twos =
    λ good. (omega (arith, good, c.with_size-sizes.ensures.before), c.with_bits-low.ensures.before by.twos good.1) in
    record {
      written = λ good.
          let small : unsigned_abs taken.quotient < 2 ^ 14 = omega (arith, good, size) in
          let bits = simp to_z-of_z at (c.with_bits-low.ensures.bits by.twos good.1) in
          let exact = simp to_z-of_z at (c.taken-taken.ensures bits small) in
          places_more base
          (λ k y. IsQuotient h (get_or c.args.cells.now (base + k) (pos 0)) (get_or c.args.own.now k (pos 0)) y)
          i c.cells.new z lt
          (rw is (rw (← c.copied-by.ensures, ← c.small_at.ensures, ← c.small_at-in-cells.ensures) exact))
          (u.written (fewer good));
      small = λ good.
          let small : unsigned_abs taken.quotient < 2 ^ 14 = omega (arith, good, size) in
          places_more base (λ _ y. IsSmall y) i c.cells.new z lt (rw is small) (u.small (fewer good));
      same_length = length-set c.cells.new (base + i) z ∙ u.same_length;
      kept = kept_more base i c.args.new.now c.cells.new z u.kept;
    }
