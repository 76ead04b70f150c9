use Rattle.std.proofs.Common.{refl}
use Rattle.plain_text.proofs.ReadLemmas.{none_read}
use Rattle.job_text.specs.Fits.{keyword_of}
use Rattle.job_text.proofs.FitLemmas.{said_parts}
use Rattle.job_text.proofs.fit.fit_line.Goals as goal

pub returns-in-None-clause-fits : goal.returns-in-None-clause-fits
returns-in-None-clause-fits c =
    none_read (λ s may e.
    c.in-None.ensures.none refl (keyword_of s) tt (said_parts c.args.line.now _ _ s c.split_word.ensures e).0)
