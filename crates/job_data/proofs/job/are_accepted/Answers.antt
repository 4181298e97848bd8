use Rattle.std.proofs.Common.{map, sym, take, ◌∙◌}
use Rattle.job_data.specs.Data.{data_of}
use Rattle.job_data.proofs.CheckLemmas.{are_accepted_more, are_accepted_refused, follows_accepted, map_take_more}
use Rattle.job_data.proofs.job.are_accepted.Goals as goal

pub add-requires-clause-follows : goal.add-requires-clause-follows
add-requires-clause-follows c =
    follows_accepted c.args.depth (map data_of (take c.loop-at.at c.args.commands.now)) (data_of c.index-commands-at.result) (sym c.is_accepted.ensures ∙ c.if-not-is_accepted.false)

pub returns-then-not-is_accepted : goal.returns-then-not-is_accepted
returns-then-not-is_accepted c =
    sym (are_accepted_refused data_of c.args.depth c.args.commands.now c.loop-at.at c.index-commands-at.result c.loop-at-test.true c.index-commands-at.is (sym c.is_accepted.ensures ∙ c.if-not-is_accepted.true))

pub loop-at-preserved : goal.loop-at-preserved
loop-at-preserved c =
    rw (map_take_more data_of c.args.commands.now c.loop-at.at c.index-commands-at.result c.loop-at-test.true c.index-commands-at.is)
    (record {
      accepted = are_accepted_more c.args.depth (map data_of (take c.loop-at.at c.args.commands.now)) (data_of c.index-commands-at.result) c.loop-at.invariant.accepted (sym c.is_accepted.ensures ∙ c.if-not-is_accepted.false);
      recalls = c.add.ensures;
    })
