use Rattle.job_data.proofs.MeaningLemmas.{job_meaning, job_forms, versions_read, lines_read, two_read}
use Rattle.job_data.proofs.WriterLemmas.{writes_name}
use Rattle.job_data.proofs.laws.commands_have_meaning.Goals as goal

pub returns : goal.returns
returns c = record {
  commands = job_meaning;
  forms = job_forms;
  versions = versions_read;
  lines = lines_read;
  two = two_read;
  names = writes_name;
}
