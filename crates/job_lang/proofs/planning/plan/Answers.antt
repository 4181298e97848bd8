use Rattle.std.proofs.Common.{[], sym, subst, ◌∙◌}
use Rattle.job_data.specs.Drops.{AreNumbered}
use Rattle.job_data.proofs.DroppedOnceLemmas.{plan_numbered}
use Rattle.job_lang.proofs.planning.plan.Goals as goal

pub of_steps-requires : goal.of_steps-requires
of_steps-requires c = subst (AreNumbered 1) (sym (c.deref.ensures.value ∙ c.in_ok-steps.ensures)) (plan_numbered [] c.args.job.now.commands)
