-- Legal lists of events: each event meets its four conditions on the list before it.
use Rattle.std.specs.Prelude.{ℕ, ◌<◌, ◌≤◌, Bool, true, false, List, [], ◌∷◌}
use Rattle.event_lists.specs.declared.lane.LaneName.{LaneName}
use Rattle.event_lists.specs.declared.mark.Mark.{Mark}
use Rattle.event_lists.specs.Events.{part}
use Rattle.event_lists.specs.Counting.{Counting}
use Rattle.event_lists.specs.Dues.{Dues}
use Rattle.event_lists.specs.Fences.{Fences}
use Rattle.event_lists.specs.Bins.{Bins}

abbrev pub NumberFits : ℕ → ℕ → Bool → Type 0
NumberFits workers n true = n < 16
NumberFits workers n false = n ≤ workers

-- the lane is one of a rank below the number of ranks: a hand's, up to the number of workers, or a bin's, below 16
abbrev pub IsLane : ℕ → ℕ → LaneName → Type 0
IsLane ranks workers l = (l.rank < ranks) × NumberFits workers l.number l.bin

-- an event may come after the events of a list
pub record May (ranks workers : ℕ) (log : List Mark) (x : Mark) : Type 0 where
  pub named : IsLane ranks workers x.lane
  pub counting : Counting ranks log x.lane (part x.lane log) x.event
  pub dues : Dues log x.lane (part x.lane log) x.event
  pub fences : Fences ranks log x.lane (part x.lane log) x.event
  pub bins : Bins x.lane (part x.lane log) x.event

-- each event meets its conditions on the list before it
abbrev pub Legal : ℕ → ℕ → List Mark → Type 0
Legal ranks workers [] = Unit {0}
Legal ranks workers (x ∷ log) = May ranks workers log x × Legal ranks workers log

-- some event of the list doesn't
abbrev pub Illegal : ℕ → ℕ → List Mark → Type 0
Illegal ranks workers log = Legal ranks workers log → ⊥
