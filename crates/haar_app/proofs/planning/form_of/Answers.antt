use Rattle.std.proofs.Common.{◌∙◌}
use Rattle.haar_app.proofs.PlanLemmas.{tree_form_is}
use Rattle.haar_app.proofs.planning.form_of.Goals as goal

pub returns : goal.returns
returns c = c.unwrap_or.ensures ∙ tree_form_is c.written_at.result _ c.written_at.ensures
