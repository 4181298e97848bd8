use Rattle.job_lang.proofs.CanonicalLemmas.{reads_back}
use Rattle.big_job.specs.Generator.{big_job}
use Rattle.big_job.proofs.GeneratorLemmas.{big_job_is_job}
use Rattle.big_job.proofs.laws.big_jobs_read_back.Goals as goal

pub returns-clause-checks : goal.returns-clause-checks
returns-clause-checks c = big_job_is_job

pub returns-clause-text : goal.returns-clause-text
returns-clause-text c = λ number below. reads_back (big_job number) (big_job_is_job number below)
