use Rattle.tree_totals.proofs.distribution.Distribution.+cuts_from.Given as goal

abbrev pub decreases-cuts_from : goal.decreases-cuts_from
decreases-cuts_from l = l.key.level
