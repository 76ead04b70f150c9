use Rattle.std.proofs.Common.{get_or, arith}
use Rattle.std.proofs.lemmas.List.Elements.{Contains-get_or}
use Rattle.dictionary_laws.proofs.Members.{few_below}
use Rattle.dictionary.specs.declared.positions.Position.TheVariants.{Row}
use Rattle.dictionary.specs.Positions.{label_count}
use Rattle.dictionary.proofs.PlaceLemmas.{place_within}
use Rattle.dictionary.proofs.PositionLemmas.{one_more}
use Rattle.dictionary.proofs.positions.write_rows.Goals as goal

pub bounds-positions-number_of : goal.bounds-positions-number_of
bounds-positions-number_of c =
    let ks = c.args.rows.now in
    let within = c.requires.below (get_or ks c.rows.i 0) (Contains-get_or ks c.rows.i 0 c.rows-test.true) in
    omega (arith, within, c.number_of.ensures, c.rows.auto.positions, c.requires.room)

-- there are as many rows as labels, at most
pub overflow_cast-positions : goal.overflow_cast-positions
overflow_cast-positions c =
    let few = few_below label_count c.args.rows.now c.requires.once c.requires.below in
    let within = c.rows-test.true in
    omega (arith, few, within)

pub rows-preserved : goal.rows-preserved
rows-preserved c =
    let ks = c.args.rows.now in
    rw (c.number_of.ensures)
    (one_more (λ i. Row i) ks c.rows.i c.rows.positions c.requires.once c.rows-test.true
    (λ k m. let l = c.requires.below k m in omega (arith, l, c.rows.auto.positions, c.requires.room)) c.rows.invariant)

pub returns-clause-rows : goal.returns-clause-rows
returns-clause-rows c k m =
    let l = place_within c.args.rows.now k m in
    c.rows.invariant k m (let n = c.rows-test.false in omega (arith, l, n))
