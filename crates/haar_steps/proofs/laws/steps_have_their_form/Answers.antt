use Rattle.haar_steps.proofs.StepLemmas.{few_reads, short, needs}
use Rattle.haar_steps.proofs.laws.steps_have_their_form.Goals as goal

pub returns-clause-reads : goal.returns-clause-reads
returns-clause-reads c = λ operations u. few_reads operations u

pub returns-clause-short : goal.returns-clause-short
returns-clause-short c = λ depth operations u given. short depth operations u given

pub returns-clause-needs : goal.returns-clause-needs
returns-clause-needs c = λ depth operations u given. needs depth operations u given
