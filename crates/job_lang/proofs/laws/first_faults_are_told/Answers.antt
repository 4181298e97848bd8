use Rattle.job_lang.proofs.FirstFaultLemmas.{first_fault, faultless_line}
use Rattle.job_lang.proofs.laws.first_faults_are_told.Goals as goal

pub returns : goal.returns
returns c = record {
  fault = first_fault;
  job = faultless_line;
}
