use Rattle.std.proofs.Common.{◌≡◌, ◌≢◌, ◌<◌, length, get_or, sym, ap, ◌∙◌}
use Rattle.poly_model.specs.Keys.{IsKey, lower_of}
use Rattle.poly_model.proofs.KeyLemmas.{key_with_new, with_old, with_new}
use Rattle.poly_model.proofs.key.Key.insert.Goals as goal

pub insert_at-requires-clause-key : goal.insert_at-requires-clause-key
insert_at-requires-clause-key c =
    let ls = c.args.self.now in
    let at : c.lower-at.result ≡ lower_of c.args.label ls = c.lower-at.ensures.value ∙ ap (lower_of c.args.label) c.labels.ensures.value in
    let key : IsKey ls = rw c.labels.ensures.value at c.labels.ensures.key in
    let new : lower_of c.args.label ls < length ls → get_or ls (lower_of c.args.label ls) 0 ≢ c.args.label = rw (c.labels-2.ensures.value, at) at (c.stands_at.ensures.no c.if-not-stands_at.true) in
    rw at (key_with_new c.args.label ls key c.requires new)

pub returns-then-not-stands_at-clause-value : goal.returns-then-not-stands_at-clause-value
returns-then-not-stands_at-clause-value c =
    let ls = c.args.self.now in
    let at : c.lower-at.result ≡ lower_of c.args.label ls = c.lower-at.ensures.value ∙ ap (lower_of c.args.label) c.labels.ensures.value in
    let new : lower_of c.args.label ls < length ls → get_or ls (lower_of c.args.label ls) 0 ≢ c.args.label = rw (c.labels-2.ensures.value, at) at (c.stands_at.ensures.no c.if-not-stands_at.true) in
    rw (c.insert_at.ensures, at) (sym (with_new c.args.label ls new))

pub returns-else-not-stands_at-clause-value : goal.returns-else-not-stands_at-clause-value
returns-else-not-stands_at-clause-value c =
    let ls = c.args.self.now in
    let at : c.lower-at.result ≡ lower_of c.args.label ls = c.lower-at.ensures.value ∙ ap (lower_of c.args.label) c.labels.ensures.value in
    let there = rw (c.labels-2.ensures.value, at) at (c.stands_at.ensures.yes c.if-not-stands_at.false) in
    sym (with_old c.args.label ls there.0 there.1)
