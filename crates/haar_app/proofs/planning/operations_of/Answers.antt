use Rattle.std.proofs.Common.{◌∷◌, [], length, map, ap, sym, ◌∙◌, arith, length-append, suc, ℕ, subst}
use Rattle.job_data.specs.Checks.{are_accepted}
use Rattle.job_data.specs.Data.{data_of}
use Rattle.haar_app.specs.KeptPlans.{IsPlanAt}
use Rattle.job_data.proofs.AcceptedLemmas.{mapped_at, limits_at, few_before}
use Rattle.haar_app.proofs.PlanLemmas.{within_more, has_plan, plans_more}
use Rattle.haar_app.proofs.planning.operations_of.Goals as goal

pub loop-index-preserved : goal.loop-index-preserved
loop-index-preserved c =
    let xs = c.commands-commands.result.now in
    let k = c.index-commands-index.result in
    let i = c.loop-index.index in
    let cs = c.args.job.now.commands in
    let ops = c.loop-index.operations.items in
    let is = mapped_at data_of xs i k c.loop-index-test.true c.index-commands-index.is in
    let accepted = c.depth-depth.ensures.job.commands in
    let all = ap (are_accepted c.args.job.now.depth []) c.commands-commands.ensures ∙ accepted in
    let limits = limits_at c.args.job.now.depth (map data_of xs) i (data_of k) all is in
    let few = few_before c.args.job.now.depth (map data_of xs) i (data_of k) all is in
    let here = c.operation_of.ensures.within c.args.job.now.depth limits in
    let items = c.in_ok-push.ensures.items in
    let more = ap length items ∙ length-append ops (c.operation_of.result ∷ []) in
    let steps = c.steps-steps.ensures ∙ c.in_ok-plan.ensures in
    let planned = has_plan c.args.job.now.depth xs cs c.steps-steps.result.now i k c.reads_at.result c.operation_of.result
    accepted c.commands-commands.ensures steps c.loop-index-test.true c.index-commands-index.is c.reads_at.ensures c.operation_of.ensures.value in
    record {
      within = within_more c.args.job.now.depth ops c.push.new.self.items c.operation_of.result c.loop-index.invariant.within here items;
      count = omega (arith, more, c.loop-index.invariant.count);
      few = omega (arith, more, few, c.loop-index.invariant.count);
      plans = plans_more cs ops c.push.new.self.items c.operation_of.result c.loop-index.invariant.plans (subst (λ (n : ℕ). IsPlanAt cs (suc n) c.operation_of.result) (sym c.loop-index.invariant.count) planned) items;
    }
