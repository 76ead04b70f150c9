use Rattle.search_laws.proofs.ShareParts.{is_tree}
use Rattle.search_laws.proofs.parents_make_a_tree.Goals as goal

pub returns : goal.returns
returns c space root home distinct h = is_tree space root home h distinct
