use Rattle.std.proofs.Common.{◌≡◌, ◌∙◌, arith, subst}
use Rattle.dictionary_laws.specs.Keys.{place_in}
use Rattle.dictionary.specs.Views.{Dictionary, IsWhole}
use Rattle.dictionary.proofs.PlaceLemmas.{place_within}
use Rattle.dictionary.proofs.PositionLemmas.{row_index}
use Rattle.dictionary.proofs.dict.Dict.row_of.Goals.{After-index}
use Rattle.dictionary.proofs.dict.Dict.row_of.Goals as goal

whole : (c : After-index) → IsWhole c.args.self.now
whole c = subst (λ (d : Dictionary). IsWhole d) c.self.view_is c.self.invariant.2

value : (c : After-index) → c.index.result ≡ place_in c.args.self.now.rows c.args.row
value c =
    c.index.ensures
    ∙ row_index c.args.self.now (whole c) c.args.row c.position.result c.position.ensures c.requires.outside

pub returns-clause-value : goal.returns-clause-value
returns-clause-value c = value (goal.at.returns-clause-value c).After-index

pub returns-clause-within : goal.returns-clause-within
returns-clause-within c =
    let all = (goal.at.returns-clause-within c).After-index in
    let here = value all in
    let there = (whole all).row_there c.args.row c.requires.label
    (λ m. c.requires.outside ((whole all).same.back c.args.row m)) in
    let l = place_within c.args.self.now.rows c.args.row there in
    omega (arith, here, l)
