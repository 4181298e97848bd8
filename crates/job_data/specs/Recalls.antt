-- What the checks of one more command need of the commands before it.
use Rattle.std.specs.Prelude.{◌≡◌, ◌≤◌, List, take, count_by}
use Rattle.tree_model.specs.Commands.{Command}
use Rattle.job_data.specs.declared.history.History.{History}
use Rattle.job_data.specs.Checks.{is_fence, is_print, since_fence}
use Rattle.job_data.specs.Writers.{AreLastWriters}

-- a history is that of these commands
pub record Recalls (commands : List Command) (history : History) : Type 0 where
  pub within : history.trees ≤ 16
  pub writers : AreLastWriters commands (take history.trees history.places)
  pub prints : history.prints ≡ count_by is_print commands
  pub since_fence : history.since_fence ≡ since_fence commands
  pub fences : history.fences ≡ count_by is_fence commands
