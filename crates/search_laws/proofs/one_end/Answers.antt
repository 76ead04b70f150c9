use Rattle.search_laws.proofs.LoweredEnds.{one_end}
use Rattle.search_laws.proofs.one_end.Goals as goal

pub returns : goal.returns
returns c = λ space root key home t distinct h f q l end steps other u e low x.
    one_end space root home h q l distinct end.steps steps key end.end other t end.table u f
    end.feasible.dictionary.dictionary end.lowest end.descent e low x
