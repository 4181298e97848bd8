use Rattle.job_lang.proofs.KindLemmas.{line_kind, line_said}
use Rattle.job_lang.proofs.laws.lowest_kinds_are_answered.Goals as goal

pub returns : goal.returns
returns c = record {
  kind = line_kind;
  command = line_said;
}
