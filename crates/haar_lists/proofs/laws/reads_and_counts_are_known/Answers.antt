use Rattle.haar_lists.proofs.ListLawLemmas.{sizes_right}
use Rattle.haar_lists.proofs.ReadLemmas.{reads_held, counts_come_after}
use Rattle.haar_lists.proofs.laws.reads_and_counts_are_known.Goals as goal

pub returns-clause-sizes : goal.returns-clause-sizes
returns-clause-sizes c = λ job rank version planned. sizes_right job planned rank version

pub returns-clause-reads : goal.returns-clause-reads
returns-clause-reads c = λ job label entry command planned may writes sound. reads_held job planned label entry command may writes sound

pub returns-clause-counts : goal.returns-clause-counts
returns-clause-counts c = λ job label version planned may. counts_come_after job planned label version may
