-- How contracts see the list that is kept, and what is true of it.
use Rattle.std.specs.Prelude.{ℕ, List, reverse}
use Rattle.event_lists.specs.declared.mark.Mark.{Mark}
use Rattle.event_rules.specs.Listed.{Listed, HasLegalLog, AreInRange}

-- these marks are kept with the oldest first
abbrev pub listed : ℕ → ℕ → List Mark → Listed
listed ranks workers marks = record { ranks = ranks; workers = workers; log = reverse marks }

-- the list is legal, over numbers of ranks and workers that the runtime has
pub record IsKept (s : Listed) : Type 0 where
  pub legal : HasLegalLog s
  pub range : AreInRange s.ranks s.workers
