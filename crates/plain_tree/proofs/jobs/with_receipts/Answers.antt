use Rattle.std.proofs.Common.{◌≡◌, ◌++◌, map, take, Err, sym, ◌∙◌, ap, ap₂, subst, rules}
use Rattle.tree_model.specs.Jobs.{command_lines, overflow_from}
use Rattle.tree_model.specs.Receipts.{receipt}
use Rattle.tree_model.specs.Versions.{no_versions, versions_behind}
use Rattle.job_data.specs.Data.{data_of}
use Rattle.tree_totals.specs.Counts.{distribution_of}
use Rattle.plain_tree.specs.Receipts.{HasCounted}
use Rattle.plain_tree.specs.Trees.{HasVersions}
use Rattle.plain_tree.specs.declared.serial_error.SerialError.TheVariants.{Overflow}
use Rattle.plain_tree.proofs.ReceiptLemmas.{few_taken, receipts_next}
use Rattle.job_data.proofs.AcceptedLemmas.{mapped_at, limits_at, few_before}
use Rattle.plain_tree.proofs.SerialLemmas.{take_next, versions_next, overflow_later, stopped_at}
use Rattle.plain_tree.proofs.jobs.with_receipts.Goals as goal

pub loop-index-init : goal.loop-index-init
loop-index-init c = record {
  trees = search rules;
  text = c.new-text.ensures;
  counted = c.new-receipts.ensures.counted c.depth-depth.result;
  distribution = c.new-receipts.ensures.distribution;
  overflow = ap₂ (λ depth commands. overflow_from depth no_versions 1 commands) c.depth-depth.ensures.value c.commands-command-items.ensures;
}

pub run_with_receipt-requires-clause-limits : goal.run_with_receipt-requires-clause-limits
run_with_receipt-requires-clause-limits c =
    let xs = c.commands-command-items.result.now in
    let k = c.command-item.result in
    let is = mapped_at data_of xs c.loop-index.index k c.loop-index-test.true c.command-item.is in
    let all = rw (← c.depth-depth.ensures.value, ← c.commands-command-items.ensures) at c.depth-depth.ensures.job.commands in
    limits_at c.depth-depth.result (map data_of xs) c.loop-index.index (data_of k) all is

pub run_with_receipt-requires-clause-before : goal.run_with_receipt-requires-clause-before
run_with_receipt-requires-clause-before c =
    let xs = c.commands-command-items.result.now in
    let k = c.command-item.result in
    let is = mapped_at data_of xs c.loop-index.index k c.loop-index-test.true c.command-item.is in
    let all = rw (← c.depth-depth.ensures.value, ← c.commands-command-items.ensures) at c.depth-depth.ensures.job.commands in
    (take c.loop-index.index (map data_of xs), few_taken c.depth-depth.result (map data_of xs) c.loop-index.index (data_of k) all is, c.loop-index.invariant.trees, c.loop-index.invariant.counted)

pub stopped-requires : goal.stopped-requires
stopped-requires c =
    let xs = c.commands-command-items.result.now in
    let k = c.command-item.result in
    let is = mapped_at data_of xs c.loop-index.index k c.loop-index-test.true c.command-item.is in
    let all = rw (← c.depth-depth.ensures.value, ← c.commands-command-items.ensures) at c.depth-depth.ensures.job.commands in
    few_before c.depth-depth.result (map data_of xs) c.loop-index.index (data_of k) all is

pub returns-in-Err-clause-overflow : goal.returns-in-Err-clause-overflow
returns-in-Err-clause-overflow c = λ command before same.
    let depth = c.depth-depth.result in
    let xs = c.commands-command-items.result.now in
    let i = c.loop-index.index in
    let k = c.command-item.result in
    let is = mapped_at data_of xs i k c.loop-index-test.true c.command-item.is in
    let told : c.stopped.result ≡ Overflow command before = cc in
    stopped_at depth (map data_of xs) i (data_of k) c.in-Err.error c.stopped.result command _ before _ is c.stopped.ensures.overflow c.stopped.ensures.out_of_memory told
    (λ over. c.in-Err.ensures.over (ap Err over) (versions_behind depth (take i (map data_of xs))) c.loop-index.invariant.trees) c.loop-index.invariant.overflow

pub loop-index-preserved : goal.loop-index-preserved
loop-index-preserved c =
    let depth = c.depth-depth.result in
    let d = distribution_of c.args.distribution in
    let xs = c.commands-command-items.result.now in
    let cs = map data_of xs in
    let i = c.loop-index.index in
    let k = c.command-item.result in
    let is = mapped_at data_of xs i k c.loop-index-test.true c.command-item.is in
    let before = take i cs in
    let has = c.loop-index.invariant.trees in
    let counted = c.loop-index.invariant.counted in
    let text = rw c.loop-index.invariant.distribution at (c.in-Ok.ensures.text before has counted) in
    record {
      trees = subst (λ versions. HasVersions depth versions c.run_with_receipt.new.trees) (sym (versions_next depth cs i (data_of k) is)) (c.in-Ok.ensures.trees (versions_behind depth before) has);
      text = text ∙ ap (λ text. text ++ command_lines (versions_behind depth before) (data_of k) ++ receipt d depth before (data_of k)) c.loop-index.invariant.text ∙ sym (receipts_next d depth cs i (data_of k) is);
      counted = subst (λ commands. HasCounted depth commands c.run_with_receipt.new.receipts) (sym (take_next cs i (data_of k) is)) (c.in-Ok.ensures.counted before has counted);
      distribution = c.run_with_receipt.ensures.distribution ∙ c.loop-index.invariant.distribution;
      overflow = sym (overflow_later depth cs i (data_of k) is (c.in-Ok.ensures.within (versions_behind depth before) has)) ∙ c.loop-index.invariant.overflow;
    }
