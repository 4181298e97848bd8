-- How contracts see a list of events: with the numbers of ranks and workers that it is judged by.
use Rattle.std.specs.Prelude.{ℕ, ◌≤◌, List, ◌∷◌, None}
use Rattle.app_core.specs.Commands.{IsRankCount}
use Rattle.event_lists.specs.declared.lane.LaneName.{LaneName}
use Rattle.event_lists.specs.declared.event.Event.{Event}
use Rattle.event_lists.specs.declared.mark.Mark.{Mark}
use Rattle.event_lists.specs.Legal.{Legal}

-- the events, the newest first, over so many ranks and workers
pub record Listed : Type 0 where
  pub ranks : ℕ
  pub workers : ℕ
  pub log : List Mark

-- an event on its lane, in the list of a run that follows nothing
abbrev pub on : LaneName → Event → Mark
on l e = record { lane = l; event = e; effect = None }

abbrev pub HasLegalLog : Listed → Type 0
HasLegalLog s = Legal s.ranks s.workers s.log

-- the list with this event at its end is legal
abbrev pub Allows : Listed → LaneName → Event → Type 0
Allows s l e = Legal s.ranks s.workers (on l e ∷ s.log)

-- the runtime has 1 to 16 ranks and 0 to 4 workers
abbrev pub AreInRange : ℕ → ℕ → Type 0
AreInRange ranks workers = IsRankCount ranks × (workers ≤ 4)
