-- What the commands that were accepted so far keep.
use Rattle.tree_model.specs.Jobs.{JobData}
use Rattle.job_data.specs.declared.history.History.{History}
use Rattle.job_data.specs.Checks.{IsJob}
use Rattle.job_data.specs.Recalls.{Recalls}

-- they are a job, and the history is theirs
pub record IsRecalled (job : JobData) (history : History) : Type 0 where
  pub is_job : IsJob job
  pub recalls : Recalls job.commands history
