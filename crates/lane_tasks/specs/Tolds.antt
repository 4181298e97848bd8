-- What lanes tell of futures that were given.
use Rattle.std.specs.Prelude.{◌≡◌, ◌≤◌, ℕ, List, Option, Some, IfSome, Contains}
use Rattle.atomic_table.specs.Seated.{TableId}
use Rattle.app_core.specs.declared.label.Label.{Label}
use Rattle.event_lists.specs.declared.future.Bringer.{Bringer}
use Rattle.event_lists.specs.declared.future.Future.{Future}
use Rattle.event_lists.specs.declared.mark.Item.TheVariants.{Task}
use Rattle.event_lists.specs.declared.mark.Mark.{Mark}
use Rattle.event_lists.specs.Events.{Begins}
use Rattle.event_lists.specs.Futures.{future_by, needs_of, times_given, IsIn}
use Rattle.world_words.specs.Lanes.{WordsView, ToldView}

-- who told this knew that the future was given
abbrev pub KnowsGiven : Future → ToldView → Type 0
KnowsGiven future told = 1 ≤ times_given future told.seen

-- the table is that of the words, where some are named
abbrev pub IsTableOf : {A : Type 0} → Option (WordsView A) → TableId → Type 0
IsTableOf words table = IfSome words (λ w. table ≡ w.table)

-- what was told is of the words, and it knows that the future of this label, which this bringer created, was given
abbrev pub IsToldOf : {A : Type 0} → Option (WordsView A) → Option Bringer → Label → ToldView → Type 0
IsToldOf words by label told = IsTableOf words told.table × ((future : Future) → future_by by label ≡ Some future → KnowsGiven future told)

-- each need of this task, as this list has it, is known as given to one of those who told
abbrev pub AreTold : ℕ → ℕ → List Mark → List ToldView → Type 0
AreTold rank number seen tolds = (future : Future) → IsIn future (needs_of (Task rank number) seen) → (told : ToldView) × Contains tolds told × KnowsGiven future told

-- a list goes on from each of those that were told
abbrev pub AreLearnt : List ToldView → List Mark → Type 0
AreLearnt tolds seen = (told : ToldView) → Contains tolds told → Begins told.seen seen
