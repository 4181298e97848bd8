use Rattle.event_lists.proofs.ListLemmas.{legal_begins}
use Rattle.event_lists.proofs.laws.beginnings_are_legal.Goals as goal

pub returns : goal.returns
returns c = λ ranks workers old log b h. legal_begins ranks workers old log b h
