use Rattle.linear_laws.proofs.FirstBases.{first_basis_is_one}
use Rattle.linear_laws.proofs.first_basis_is_one.Goals as goal

pub returns : goal.returns
returns c = first_basis_is_one
