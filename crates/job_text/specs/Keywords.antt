-- The texts of the words with which the lines of a reply begin.
use Rattle.std.specs.Prelude.{ℕ, List, codes}
use Rattle.job_text.specs.declared.keyword.Keyword.{Keyword}
use Rattle.job_text.specs.declared.keyword.Keyword.TheVariants.{Row, Job, End, Overflow, Memory}

abbrev pub keyword_text : Keyword → List ℕ
keyword_text Row = codes "row"
keyword_text Job = codes "job"
keyword_text End = codes "end"
keyword_text Overflow = codes "overflow"
keyword_text Memory = codes "memory"
