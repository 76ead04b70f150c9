use Rattle.job_text.proofs.ApartLemmas.{nothing_more}
use Rattle.job_text.proofs.laws.no_proper_prefix.Goals as goal

pub returns : goal.returns
returns c n text more small a b u w = nothing_more n a b text more small u w
