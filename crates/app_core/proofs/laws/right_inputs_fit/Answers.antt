use Rattle.app_core.proofs.InputLemmas.{length_right}
use Rattle.app_core.proofs.laws.right_inputs_fit.Goals as goal

pub returns : goal.returns
returns g c = λ app unit given right. record {
  values = length_right (g.A.App.right_value app) (g.A.App.needs_of app unit) given.values right.values;
  cells = length_right (g.A.App.right_cell app) (g.A.App.reads_of app unit) given.cells right.cells;
}
