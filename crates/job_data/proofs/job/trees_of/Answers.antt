use Rattle.std.proofs.Common.{◌≡◌, [], map, take, true, sym, ◌∙◌, ap, subst, ◌<◌, length, get_or}
use Rattle.std.proofs.lemmas.List.{get_or-map, length-map, take-map}
use Rattle.job_data.specs.Checks.{may_follow}
use Rattle.job_data.specs.Data.{data_of}
use Rattle.job_data.proofs.CheckLemmas.{are_accepted_at, follows_accepted, map_take_more}
use Rattle.job_data.proofs.job.trees_of.Goals as goal

pub loop-at-preserved : goal.loop-at-preserved
loop-at-preserved c = rw (map_take_more data_of c.args.commands.now c.loop-at.at c.index-commands-at.result c.loop-at-test.true c.index-commands-at.is) c.add.ensures

pub add-requires-clause-follows : goal.add-requires-clause-follows
add-requires-clause-follows c =
    let xs = c.args.commands.now in
    let i = c.loop-at.at in
    let d = data_of c.index-commands-at.result in
    let cs = map data_of xs in
    let below : i < length cs = rw (length-map xs data_of) c.loop-at-test.true in
    let at : get_or cs i d ≡ d = (get_or-map data_of xs i c.index-commands-at.result d c.loop-at-test.true ∙ ap data_of (sym c.index-commands-at.is)) in
    let follows = follows_accepted c.requires.0 (take i cs) (get_or cs i d) (are_accepted_at c.requires.0 [] cs i d c.requires.1 below) in
    rw (← take-map data_of i xs) (subst (λ e. may_follow (take i cs) e ≡ true) at follows)
