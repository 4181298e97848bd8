use Rattle.haar_steps.proofs.AppLemmas.{needing_stay, writes_at_home, reads_at_home, needs_at_home}
use Rattle.haar_steps.proofs.laws.units_stay_at_home.Goals as goal

pub returns : goal.returns
returns c = λ depth ops owners made ranks u given deep count form. record {
  needs = λ future there. needs_at_home depth ops owners made ranks deep count u future form there;
  reads = λ n there. reads_at_home depth ops owners made ranks deep count u n form there;
  writes = λ n touches. writes_at_home depth ops owners made ranks deep count u given n form touches;
  spawns = needing_stay depth ops owners made ranks deep count u given form;
}
