use Rattle.std.proofs.Common.{◌≡◌, ◌++◌, map, take, Err, sym, ◌∙◌, ap, subst}
use Rattle.tree_model.specs.Jobs.{command_lines}
use Rattle.tree_model.specs.Versions.{versions_behind}
use Rattle.job_data.specs.Data.{data_of}
use Rattle.plain_tree.specs.Trees.{HasVersions}
use Rattle.plain_tree.specs.declared.serial_error.SerialError.TheVariants.{Overflow}
use Rattle.job_data.proofs.AcceptedLemmas.{mapped_at, limits_at, few_before}
use Rattle.plain_tree.proofs.SerialLemmas.{versions_next, lines_next, overflow_later, stopped_at}
use Rattle.plain_tree.proofs.jobs.without_receipts.Goals as goal

pub run_command-requires-clause-limits : goal.run_command-requires-clause-limits
run_command-requires-clause-limits c =
    let xs = c.commands-command-items.result.now in
    let k = c.command-item.result in
    let is = mapped_at data_of xs c.loop-index.index k c.loop-index-test.true c.command-item.is in
    let all = rw (← c.depth-depth.ensures.value, ← c.commands-command-items.ensures) at c.depth-depth.ensures.job.commands in
    limits_at c.depth-depth.result (map data_of xs) c.loop-index.index (data_of k) all is

pub stopped-requires : goal.stopped-requires
stopped-requires c =
    let xs = c.commands-command-items.result.now in
    let k = c.command-item.result in
    let is = mapped_at data_of xs c.loop-index.index k c.loop-index-test.true c.command-item.is in
    let all = rw (← c.depth-depth.ensures.value, ← c.commands-command-items.ensures) at c.depth-depth.ensures.job.commands in
    few_before c.depth-depth.result (map data_of xs) c.loop-index.index (data_of k) all is

pub returns-in-Err-clause-overflow : goal.returns-in-Err-clause-overflow
returns-in-Err-clause-overflow c = λ command before same.
    let depth = c.depth-depth.result in
    let xs = c.commands-command-items.result.now in
    let i = c.loop-index.index in
    let k = c.command-item.result in
    let is = mapped_at data_of xs i k c.loop-index-test.true c.command-item.is in
    let told : c.stopped.result ≡ Overflow command before = cc in
    stopped_at depth (map data_of xs) i (data_of k) c.in-Err.error c.stopped.result command _ before _ is c.stopped.ensures.overflow c.stopped.ensures.out_of_memory told
    (λ over. c.in-Err.ensures.over (ap Err over) (versions_behind depth (take i (map data_of xs))) c.loop-index.invariant.trees) c.loop-index.invariant.overflow

pub loop-index-preserved : goal.loop-index-preserved
loop-index-preserved c =
    let depth = c.depth-depth.result in
    let xs = c.commands-command-items.result.now in
    let cs = map data_of xs in
    let i = c.loop-index.index in
    let k = c.command-item.result in
    let is = mapped_at data_of xs i k c.loop-index-test.true c.command-item.is in
    let before = versions_behind depth (take i cs) in
    let has = c.loop-index.invariant.trees in
    record {
      trees = subst (λ versions. HasVersions depth versions c.run_command.new.trees) (sym (versions_next depth cs i (data_of k) is)) (c.in-Ok.ensures.trees before has);
      text = c.in-Ok.ensures.text before has ∙ ap (λ text. text ++ command_lines before (data_of k)) c.loop-index.invariant.text ∙ sym (lines_next depth cs i (data_of k) is);
      overflow = sym (overflow_later depth cs i (data_of k) is (c.in-Ok.ensures.within before has)) ∙ c.loop-index.invariant.overflow;
    }
