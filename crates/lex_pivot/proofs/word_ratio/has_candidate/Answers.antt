use Rattle.std.proofs.Common.{◌≡◌, ◌∙◌, sym, subst, ap, refl, arith, true≢false, get_or, suc, ◌+◌, ◌-◌, ◌/◌, ◌^◌, ◌<◌, Bool, ℕ}
use Rattle.poly_num.proofs.Ring.{lin}
use Rattle.dictionary_laws.specs.Keys.{place_in}
use Rattle.lex_pivot.specs.Negatives.{bits_of, negative_in}
use Rattle.lex_pivot.specs.Ratios.{IsCandidate}
use Rattle.lex_pivot.proofs.NegativeLemmas.{IsNext, next_of, none_set, is_negative, not_negative, by_place}
use Rattle.lex_pivot.proofs.word_ratio.has_candidate.Goals.{After-lowest_bit-skip}
use Rattle.lex_pivot.proofs.word_ratio.has_candidate.Goals as goal

abbrev negative : After-lowest_bit-skip → ℕ → Bool
negative c = negative_in c.args.table.now.dict.now (suc (place_in c.args.table.now.dict.now.columns c.args.col))

next : (c : After-lowest_bit-skip) (rest : ℕ) → rest ≡ c.places.bits / 2 ^ c.lowest_bit-skip.result / 2 →
    IsNext (negative c) c.places.place (c.args.from + c.args.count - c.places.place) c.lowest_bit-skip.result rest
next c rest e =
    next_of (negative c) (c.args.from + c.args.count - c.places.place) c.places.place c.places.bits c.lowest_bit-skip.result rest
    (let b = c.places.invariant.behind in let f = c.requires.few in omega (arith, b, f)) c.places.invariant.bits c.places-test.true c.lowest_bit-skip.ensures.value e

-- the place that it leads to is one of the part
inside : (c : After-lowest_bit-skip) → c.places.place + c.lowest_bit-skip.result < c.args.from + c.args.count
inside c =
    let w = (next c (c.places.bits / 2 ^ c.lowest_bit-skip.result / 2) refl).within in
    let h = c.places.invariant.within in
    omega (arith, w, h)

pub is_candidate-requires-clause-place : goal.is_candidate-requires-clause-place
is_candidate-requires-clause-place c =
    let i = inside (goal.at.is_candidate-requires-clause-place c).After-lowest_bit-skip in
    let w = c.requires.within in omega (arith, i, w)

pub is_candidate-requires-clause-negative : goal.is_candidate-requires-clause-negative
is_candidate-requires-clause-negative c =
    let a = (goal.at.is_candidate-requires-clause-negative c).After-lowest_bit-skip in
    is_negative _ (next a (c.places.bits / 2 ^ c.lowest_bit-skip.result / 2) refl).holds

pub returns-then-is_candidate-clause-yes : goal.returns-then-is_candidate-clause-yes
returns-then-is_candidate-clause-yes c t none =
    let m = c.if-is_candidate.ensures.0 refl in
    let l = none (get_or c.args.table.now.dict.now.rows (c.places.place + c.lowest_bit-skip.result) 0) m.row in
    let n = m.negative in omega (arith, lin)

pub places-preserved : goal.places-preserved
places-preserved c =
    let a = (goal.at.places-preserved c).After-lowest_bit-skip in
    let i = inside a in
    let b = c.places.invariant.behind in
    record {
      behind = omega (arith, b);
      within = omega (arith, i);
      bits = (next a c.above_lowest-bits.result c.above_lowest-bits.ensures).left
          ∙ ap (bits_of (negative a) (c.places.place + c.lowest_bit-skip.result + 1))
          (omega arith);
      none = λ i f g m. by_place ⊥ i c.places.place (c.places.place + c.lowest_bit-skip.result) g
          (λ l. c.places.invariant.none i f l m)
          (λ l k. not_negative _ ((next a (c.places.bits / 2 ^ c.lowest_bit-skip.result / 2) refl).before i l k) m.negative)
          (λ e. true≢false (sym (c.if-is_candidate.ensures.1
          (subst (λ (k : ℕ). IsCandidate c.args.table.now.dict.now c.args.col (get_or c.args.table.now.dict.now.rows k 0)) e m))));
    }

pub returns-clause-no : goal.returns-clause-no
returns-clause-no c t i f g m =
    let o = c.places-test.false in
    let e = c.places.invariant.bits in
    by_place ⊥ i c.places.place (c.args.from + c.args.count) (omega (arith, g))
    (λ l. c.places.invariant.none i f l m)
    (λ l k. not_negative _ (none_set (negative_in c.args.table.now.dict.now
    (suc (place_in c.args.table.now.dict.now.columns c.args.col))) (c.args.from + c.args.count - c.places.place)
    c.places.place (sym e ∙ omega arith) i l (omega (arith, k))) m.negative)
    (λ q. absurd (omega (arith, g, q)))
