use Rattle.std.proofs.Common.{◌≡◌, ◌<◌, ◌+◌, ◌∙◌, ℕ, suc, length, get_or, arith}
use Rattle.std.specs.List.{Contains}
use Rattle.std.proofs.lemmas.List.Elements.{Contains-get_or}
use Rattle.dictionary_laws.proofs.Members.{few_below}
use Rattle.dictionary.specs.declared.positions.Position.{Position}
use Rattle.dictionary.specs.declared.positions.Position.TheVariants.{Column}
use Rattle.dictionary.specs.Positions.{label_count}
use Rattle.dictionary.proofs.PlaceLemmas.{place_within}
use Rattle.dictionary.proofs.PositionLemmas.{one_more, others_stay}
use Rattle.dictionary.proofs.positions.write_columns.Goals as goal

pub bounds-positions-number_of : goal.bounds-positions-number_of
bounds-positions-number_of c =
    let ks = c.args.columns.now in
    let within = c.requires.below (get_or ks c.columns.j 0) (Contains-get_or ks c.columns.j 0 c.columns-test.true) in
    omega (arith, within, c.number_of.ensures, c.columns.auto.positions, c.requires.room)

-- there are as many columns as labels, at most
pub overflow_cast-positions : goal.overflow_cast-positions
overflow_cast-positions c =
    let few = few_below label_count c.args.columns.now c.requires.once c.requires.below in
    let within = c.columns-test.true in
    omega (arith, few, within)

pub overflow_add-positions : goal.overflow_add-positions
overflow_add-positions c =
    let few = few_below label_count c.args.columns.now c.requires.once c.requires.below in
    let within = c.columns-test.true in
    omega (arith, few, within)

pub columns-preserved : goal.columns-preserved
columns-preserved c =
    let ks = c.args.columns.now in
    let j = c.columns.j in
    let f : ℕ → Position = λ i. Column (suc i) in
    let below : (k : ℕ) → Contains ks k → k < length c.columns.positions =
    λ k m. let l = c.requires.below k m in omega (arith, l, c.columns.auto.positions, c.requires.room) in
    let next : j + 1 ≡ suc j = omega arith in
    rw (c.number_of.ensures) (record {
      done = λ k m l. rw next (one_more f ks j c.columns.positions c.requires.once c.columns-test.true below
          c.columns.invariant.done k m l);
      others = λ k n. rw next (others_stay f ks j c.columns.positions c.requires.once c.columns-test.true below k n)
          ∙ c.columns.invariant.others k n;
    })

pub returns-clause-columns : goal.returns-clause-columns
returns-clause-columns c k m =
    let l = place_within c.args.columns.now k m in
    c.columns.invariant.done k m (let n = c.columns-test.false in omega (arith, l, n))
