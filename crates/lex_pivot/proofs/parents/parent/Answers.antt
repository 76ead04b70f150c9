use Rattle.std.proofs.Common.{subst, ℕ, List}
use Rattle.std.specs.Option.{MatchOption}
use Rattle.lex_pivot.specs.Above.{NoneEnters, LeadsToParent, IsRootExactly}
use Rattle.lex_pivot.proofs.parents.parent.Goals as goal

pub returns-clause-pivot : goal.returns-clause-pivot
returns-clause-pivot c =
    subst (λ (ks : List ℕ). MatchOption c.parent_by-2.result (NoneEnters c.args.dict.now ks)
    (λ p. LeadsToParent c.args.dict.now ks p.col p.row)) c.of.ensures c.parent_by-2.ensures.pivot

pub returns-clause-root : goal.returns-clause-root
returns-clause-root c =
    subst (λ (ks : List ℕ). IsRootExactly c.args.dict.now ks c.parent_by-2.result) c.of.ensures c.parent_by-2.ensures.root
