use Rattle.world_cli.proofs.ResultLemmas.{right_results}
use Rattle.world_cli.proofs.parallel.right_values.Goals as goal

pub returns : goal.returns
returns g c = right_results c.args.app.now c.in_ok-run_world.field-0.values.items c.in_ok-run_world.ensures
