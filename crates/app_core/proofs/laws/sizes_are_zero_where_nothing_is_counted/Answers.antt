use Rattle.std.proofs.Common.{ℕ, subst}
use Rattle.std.specs.Prelude.{Option}
use Rattle.app_core.specs.Inputs.{IsRightSize}
use Rattle.app_core.proofs.laws.sizes_are_zero_where_nothing_is_counted.Goals as goal

pub returns : goal.returns
returns g c = λ app unit given none right. subst (λ (counts : Option ℕ). IsRightSize (g.A.Facts.right_size app) (g.A.App.home_of app unit (g.A.Facts.ranks_of app)) counts given.size) none right.size
