use Rattle.std.proofs.Common.{◌≡◌, ◌∙◌, sym, ap, refl, arith, take, suc, ◌+◌, ◌-◌, ◌/◌, ◌^◌, ◌<◌, Bool, ℕ}
use Rattle.dictionary_laws.specs.Keys.{place_in}
use Rattle.lex_pivot.specs.Negatives.{bits_of, negative_in}
use Rattle.lex_pivot.specs.Ratios.{IsBestAt}
use Rattle.lex_pivot.proofs.NegativeLemmas.{IsNext, next_of, none_set, is_negative, not_negative}
use Rattle.lex_pivot.proofs.RatioLemmas.{passed}
use Rattle.lex_pivot.proofs.word_ratio.best_of_part.Goals.{After-lowest_bit-skip}
use Rattle.lex_pivot.proofs.word_ratio.best_of_part.Goals as goal

abbrev negative : After-lowest_bit-skip → ℕ → Bool
negative c = negative_in c.args.table.now.dict.now (suc (place_in c.args.table.now.dict.now.columns c.args.col))

next : (c : After-lowest_bit-skip) (rest : ℕ) → rest ≡ c.places.bits / 2 ^ c.lowest_bit-skip.result / 2 →
    IsNext (negative c) c.places.place (c.args.from + c.args.count - c.places.place) c.lowest_bit-skip.result rest
next c rest e =
    next_of (negative c) (c.args.from + c.args.count - c.places.place) c.places.place c.places.bits c.lowest_bit-skip.result rest
    (let b = c.places.invariant.behind in let f = c.requires.few in omega (arith, b, f)) c.places.invariant.bits c.places-test.true c.lowest_bit-skip.ensures.value e

-- the place that it leads to is one of the part
inside : (c : After-lowest_bit-skip) → c.places.place + c.lowest_bit-skip.result < c.args.from + c.args.count
inside c =
    let w = (next c (c.places.bits / 2 ^ c.lowest_bit-skip.result / 2) refl).within in
    let h = c.places.invariant.within in
    omega (arith, w, h)

-- the rows before it are passed over
so_far : (c : After-lowest_bit-skip) → IsBestAt c.args.table.now.dict.now c.args.table.now.order.now c.args.col
    (take (c.places.place + c.lowest_bit-skip.result) c.args.table.now.dict.now.rows) c.places.best
so_far c =
    passed c.args.table.now.dict.now c.args.table.now.order.now c.args.col c.places.best c.places.place
    (c.places.place + c.lowest_bit-skip.result) (omega arith)
    (let i = inside c in let w = c.requires.within in omega (arith, i, w)) c.places.invariant.best
    (λ i f g l. not_negative _ ((next c (c.places.bits / 2 ^ c.lowest_bit-skip.result / 2) refl).before i f g) l)

pub with_place-best-requires-clause-place : goal.with_place-best-requires-clause-place
with_place-best-requires-clause-place c =
    let i = inside (goal.at.with_place-best-requires-clause-place c).After-lowest_bit-skip in
    let w = c.requires.within in omega (arith, i, w)

pub with_place-best-requires-clause-negative : goal.with_place-best-requires-clause-negative
with_place-best-requires-clause-negative c =
    let a = (goal.at.with_place-best-requires-clause-negative c).After-lowest_bit-skip in
    is_negative _ (next a (c.places.bits / 2 ^ c.lowest_bit-skip.result / 2) refl).holds

pub with_place-best-requires-clause-best : goal.with_place-best-requires-clause-best
with_place-best-requires-clause-best c =
    so_far (goal.at.with_place-best-requires-clause-best c).After-lowest_bit-skip

pub places-preserved : goal.places-preserved
places-preserved c =
    let a = (goal.at.places-preserved c).After-lowest_bit-skip in
    let i = inside a in
    let b = c.places.invariant.behind in
    record {
      behind = omega (arith, b);
      within = omega (arith, i);
      bits = (next a c.above_lowest-bits.result c.above_lowest-bits.ensures).left
          ∙ ap (bits_of (negative a) (c.places.place + c.lowest_bit-skip.result + 1))
          (omega arith);
      best = c.with_place-best.ensures;
    }

pub returns : goal.returns
returns c =
    let t = c.places-test.false in
    let e = c.places.invariant.bits in
    passed c.args.table.now.dict.now c.args.table.now.order.now c.args.col c.places.best c.places.place
    (c.args.from + c.args.count) c.places.invariant.within c.requires.within c.places.invariant.best
    (λ i f g l. not_negative _ (none_set (negative_in c.args.table.now.dict.now
    (suc (place_in c.args.table.now.dict.now.columns c.args.col))) (c.args.from + c.args.count - c.places.place)
    c.places.place (sym e ∙ omega arith) i f (omega (arith, g))) l)
