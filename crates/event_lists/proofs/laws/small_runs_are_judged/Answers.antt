use Rattle.event_lists.proofs.FenceRunLemmas.{legal_first, legal_pass, illegal_second, legal_reading, illegal_third}
use Rattle.event_lists.proofs.laws.small_runs_are_judged.Goals as goal

pub returns-clause-two_passes_and_a_receipt : goal.returns-clause-two_passes_and_a_receipt
returns-clause-two_passes_and_a_receipt c = legal_first

pub returns-clause-one_pass : goal.returns-clause-one_pass
returns-clause-one_pass c = legal_pass

pub returns-clause-receipt_after_one_pass : goal.returns-clause-receipt_after_one_pass
returns-clause-receipt_after_one_pass c = illegal_second

pub returns-clause-one_reading : goal.returns-clause-one_reading
returns-clause-one_reading c = legal_reading

pub returns-clause-submitted_before_ran : goal.returns-clause-submitted_before_ran
returns-clause-submitted_before_ran c = illegal_third
