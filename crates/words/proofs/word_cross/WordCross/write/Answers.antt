use Rattle.std.proofs.Common.{◌≡◌, ◌+◌, ◌<◌, ◌≤◌, ℕ, pos, length, get_or, arith, rules, ◌∙◌, subst}
use Rattle.std.specs.Prelude.{FitsSigned, unsigned_abs}
use Rattle.std.specs.Int.{w64}
use Rattle.std.proofs.lemmas.Int.{to_z-of_z}
use Rattle.std.proofs.lemmas.List.{length-set}
use Rattle.words.specs.Crosses.{IsQuotient}
use Rattle.words.proofs.LimitLemmas.{product_below}
use Rattle.words.proofs.PlaceLemmas.{places_more, kept_more}
use Rattle.words.proofs.word_cross.WordCross.write.Goals as goal

pub cells-preserved : goal.cells-preserved
cells-preserved c =
    let h = c.args.self.now.cross in
    let twos = c.copied-by.result.cross.twos in
    let base = c.args.base in
    let i = c.cells.i in
    let z = c.in-Some.word in
    let u = c.cells.invariant in
    let taken = c.taken-taken.result in
    let fq : FitsSigned w64 taken.quotient = search rules in
    let fm : FitsSigned w64 taken.multiple = search rules in
    let fa : FitsSigned w64 c.value_at.result = search rules in
    let fc : FitsSigned w64 c.value_at-in-cells.result = search rules in
    let size : unsigned_abs taken.quotient ≤ c.with_size-limit.result = simp to_z-of_z at c.with_size-limit.ensures.size in
    let before = c.with_size-limit.ensures.before in
    let is : z ≡ taken.quotient = simp to_z-of_z at c.in-Some.ensures in
    let lt : base + i < length c.cells.new = search rules in
    record {
      written = λ good.
          let small = product_below _ _ _ size good.0 in
          let bits = simp to_z-of_z at (c.with_bits-low.ensures.bits twos good.1) in
          let exact = simp to_z-of_z at (c.taken-taken.ensures bits small) in
          places_more base
          (λ k y. IsQuotient h (get_or c.args.cells.now (base + k) (pos 0)) (get_or c.args.own.now k (pos 0)) y)
          i c.cells.new z lt
          (rw is (rw (← c.copied-by.ensures, ← c.value_at.ensures, ← c.value_at-in-cells.ensures) exact))
          (u.written (product_below _ _ _ before good.0, c.with_bits-low.ensures.before twos good.1));
      limit =
          places_more base (λ _ y. unsigned_abs y ≤ c.with_size-limit.result) i c.cells.new z lt (rw is size)
          (λ k l. omega (arith, u.limit k l, before));
      same_length = length-set c.cells.new (base + i) z ∙ u.same_length;
      kept = kept_more base i c.args.new.now c.cells.new z u.kept;
    }

pub taken-taken-requires-clause-c : goal.taken-taken-requires-clause-c
taken-taken-requires-clause-c c =
    let lt : c.cells.i < length c.args.own.now = search rules in
    let fc : FitsSigned w64 c.value_at-in-cells.result = search rules in
    let own : unsigned_abs (get_or c.args.own.now c.cells.i (pos 0)) ≤ c.args.self.now.of_c =
    subst (λ (k : ℕ). unsigned_abs (get_or c.args.own.now k (pos 0)) ≤ c.args.self.now.of_c) (omega arith)
    (c.requires.limit_of_own c.cells.i lt) in
    simp to_z-of_z (rw (c.copied-by.ensures, c.value_at-in-cells.ensures) own)
