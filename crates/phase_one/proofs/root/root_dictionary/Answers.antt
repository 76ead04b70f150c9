use Rattle.std.proofs.lemmas.Result.{IfOk-weaker}
use Rattle.poly_model.specs.Spaces.{main_space}
use Rattle.phase_one.proofs.FoundLemmas.{given_at_start, is_start, infeasible, due}
use Rattle.phase_one.proofs.root.root_dictionary.Goals as goal

pub from_worst-requires-clause-start : goal.from_worst-requires-clause-start
from_worst-requires-clause-start c =
    let (p, free, x) = c.requires.start in
    (main_space p free, is_start p x.0 free c.args.start x.1 c.in-Some.worst c.in-Some.ensures)

pub returns-in-None-clause-given : goal.returns-in-None-clause-given
returns-in-None-clause-given c p free x = given_at_start p x.0 free c.args.start x.1 c.in-None.ensures

pub returns-in-Some-clause-given : goal.returns-in-Some-clause-given
returns-in-Some-clause-given c =
    IfOk-weaker c.from_worst.result _ _
    (λ d given p free x. given (main_space p free)
    (is_start p x.0 free c.args.start x.1 c.in-Some.worst c.in-Some.ensures))
    c.from_worst.ensures.given

pub returns-in-Some-clause-infeasible : goal.returns-in-Some-clause-infeasible
returns-in-Some-clause-infeasible c e p free x =
    infeasible p x.0 free c.args.start x.1 c.in-Some.worst c.in-Some.ensures
    (c.from_worst.ensures.infeasible e (main_space p free)
    (is_start p x.0 free c.args.start x.1 c.in-Some.worst c.in-Some.ensures))

pub returns-in-Some-clause-overflow : goal.returns-in-Some-clause-overflow
returns-in-Some-clause-overflow c o e p free x =
    due p x.0 free c.args.start x.1 c.in-Some.worst c.in-Some.ensures o
    (c.from_worst.ensures.overflow o e (main_space p free)
    (is_start p x.0 free c.args.start x.1 c.in-Some.worst c.in-Some.ensures))
