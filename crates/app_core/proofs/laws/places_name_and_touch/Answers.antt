use Rattle.app_core.specs.Outlines.{named, touched}
use Rattle.app_core.proofs.LabelLemmas.{in_flat_map}
use Rattle.app_core.proofs.laws.places_name_and_touch.Goals as goal

pub returns-clause-names : goal.returns-clause-names
returns-clause-names c = λ os i o l at has. in_flat_map named os i o l at has

pub returns-clause-touches : goal.returns-clause-touches
returns-clause-touches c = λ os i o n at has. in_flat_map touched os i o n at has
