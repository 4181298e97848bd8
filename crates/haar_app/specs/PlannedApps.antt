-- Applications as jobs with what their commands do.
use Rattle.haar_app.specs.declared.haar_app.HaarApp.{HaarApp}
use Rattle.haar_app.specs.Planning.{planned}
use Rattle.haar_meaning.specs.PlannedJobs.{PlannedJob}

abbrev pub job_in : HaarApp → PlannedJob
job_in app = planned app.job app.commands.depth app.commands.operations.items app.map app.ranks
