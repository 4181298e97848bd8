-- The lane of a main that has done nothing.
use Rattle.std.specs.Prelude.{◌≡◌, ℕ, ◌≤◌, []}
use Rattle.event_lists.specs.Events.{main_of}
use Rattle.world_words.specs.Lanes.{WordsView, LaneView}
use Rattle.world_words.specs.Closing.{IsFree}

-- it is the main's of this rank, before any event, with room for so many
pub record IsNew {A : Type 0} (words : WordsView A) (rank count : ℕ) (v : LaneView) : Type 0 where
  pub free : IsFree words v
  pub mine : v.mine ≡ []
  pub name : v.name ≡ main_of rank
  pub room : count ≤ v.spare
