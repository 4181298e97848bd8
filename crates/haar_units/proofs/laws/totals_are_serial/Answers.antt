use Rattle.haar_units.proofs.SerialTotalLemmas.{totals_serial, fences_numbered}
use Rattle.haar_units.proofs.laws.totals_are_serial.Goals as goal

pub returns-clause-totals : goal.returns-clause-totals
returns-clause-totals c = λ distribution depth commands fence. totals_serial distribution depth commands fence

pub returns-clause-fences : goal.returns-clause-fences
returns-clause-fences c = fences_numbered
