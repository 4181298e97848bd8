use Rattle.job_data.specs.Data.{data_of}
use Rattle.plain_tree.proofs.VersionLemmas.{no_overflow}
use Rattle.plain_tree.proofs.jobs.run_with_receipt.Goals as goal

pub returns-clause-within : goal.returns-clause-within
returns-clause-within c = λ versions has. no_overflow c.args.depth versions (data_of c.args.command.now) c.in_ok-done.done.tree (c.in_ok-done.ensures.kept versions has)
