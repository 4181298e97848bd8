use Rattle.std.proofs.Common.{[], ◌∷◌, ◌++◌, map, take, sym, ◌∙◌, ap, arith}
use Rattle.std.proofs.lemmas.List.{length-map}
use Rattle.job_data.specs.Checks.{are_accepted}
use Rattle.job_data.specs.Data.{data_of}
use Rattle.job_data.specs.Versions.{plan_from}
use Rattle.job_data.proofs.CheckLemmas.{accepted_there, follows_accepted, map_take_more}
use Rattle.job_data.proofs.HistoryLemmas.{follows_length}
use Rattle.job_lang.proofs.PlanLemmas.{plan_from_append}
use Rattle.job_lang.proofs.planning.steps_of.Goals as goal

pub step_of-requires-clause-few : goal.step_of-requires-clause-few
step_of-requires-clause-few c =
    let commands = c.commands-commands.result.now in
    let here = accepted_there data_of c.args.job.now.depth commands c.loop-at.at c.index-commands-at.result c.loop-at-test.true c.index-commands-at.is (ap (are_accepted c.args.job.now.depth []) c.commands-commands.ensures ∙ c.depth-depth.ensures.job.commands) in
    let follows = follows_accepted c.args.job.now.depth (map data_of (take c.loop-at.at commands)) (data_of c.index-commands-at.result) here in
    let few = follows_length (map data_of (take c.loop-at.at commands)) (data_of c.index-commands-at.result) follows in
    omega (arith, few, length-map (take c.loop-at.at commands) data_of)

pub add-requires-clause-follows : goal.add-requires-clause-follows
add-requires-clause-follows c =
    let commands = c.commands-commands.result.now in
    let here = accepted_there data_of c.args.job.now.depth commands c.loop-at.at c.index-commands-at.result c.loop-at-test.true c.index-commands-at.is (ap (are_accepted c.args.job.now.depth []) c.commands-commands.ensures ∙ c.depth-depth.ensures.job.commands) in
    follows_accepted c.args.job.now.depth (map data_of (take c.loop-at.at commands)) (data_of c.index-commands-at.result) here

pub loop-at-preserved : goal.loop-at-preserved
loop-at-preserved c =
    let commands = c.commands-commands.result.now in
    let before = map data_of (take c.loop-at.at commands) in
    rw (map_take_more data_of commands c.loop-at.at c.index-commands-at.result c.loop-at-test.true c.index-commands-at.is)
    (record {
      steps =
          c.in_ok-push.ensures.items
          ∙ ap (λ steps. steps ++ c.step_of.result ∷ []) c.loop-at.invariant.steps
          ∙ ap (λ step. plan_from [] before ++ step ∷ []) c.step_of.ensures
          ∙ sym (plan_from_append [] before (data_of c.index-commands-at.result));
      recalls = c.add.ensures;
    })
