use Rattle.search_laws.proofs.LoweredEnds.{steps_end}
use Rattle.search_laws.proofs.steps_end.Goals as goal

pub returns : goal.returns
returns c = λ space root key home t h f q l.
    steps_end space root home h q l (record { key = key; table = t; feasible = f })
