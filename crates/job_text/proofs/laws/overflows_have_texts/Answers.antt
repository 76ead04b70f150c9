use Rattle.job_text.proofs.PassesLemmas.{passing_has_text}
use Rattle.job_text.proofs.laws.overflows_have_texts.Goals as goal

pub returns : goal.returns
returns c p few narrow o is_key h = passing_has_text p o few narrow is_key h
