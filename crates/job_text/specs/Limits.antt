-- How long a job text may be.
use Rattle.std.specs.Prelude.{ℕ}
use Rattle.job_text.specs.declared.limits.TheConstants as constants

-- bytes of a job text
abbrev pub most_job_bytes : ℕ
most_job_bytes = constants.MOST_JOB_BYTES
