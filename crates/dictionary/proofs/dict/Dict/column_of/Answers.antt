use Rattle.std.proofs.Common.{◌≡◌, ◌∙◌, suc, arith, subst}
use Rattle.dictionary_laws.specs.Keys.{place_in}
use Rattle.dictionary.specs.Views.{Dictionary, IsWhole}
use Rattle.dictionary.proofs.PlaceLemmas.{place_within}
use Rattle.dictionary.proofs.PositionLemmas.{column_index}
use Rattle.dictionary.proofs.dict.Dict.column_of.Goals.{After-index}
use Rattle.dictionary.proofs.dict.Dict.column_of.Goals as goal

whole : (c : After-index) → IsWhole c.args.self.now
whole c = subst (λ (d : Dictionary). IsWhole d) c.self.view_is c.self.invariant.2

value : (c : After-index) → c.index.result ≡ suc (place_in c.args.self.now.columns c.args.col)
value c =
    c.index.ensures ∙ column_index c.args.self.now (whole c) c.args.col c.position.result c.position.ensures c.requires

pub position-requires : goal.position-requires
position-requires c =
    let whole = subst (λ (d : Dictionary). IsWhole d) c.self.view_is c.self.invariant.2 in
    whole.inside c.args.col (whole.same.there c.args.col c.requires)

pub returns-clause-value : goal.returns-clause-value
returns-clause-value c = value (goal.at.returns-clause-value c).After-index

pub returns-clause-within : goal.returns-clause-within
returns-clause-within c =
    let all = (goal.at.returns-clause-within c).After-index in
    let here = value all in
    let l = place_within c.args.self.now.columns c.args.col ((whole all).same.there c.args.col c.requires) in
    omega (arith, here, l)
