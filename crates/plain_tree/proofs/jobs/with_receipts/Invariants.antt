use Rattle.std.proofs.Common.{◌≡◌, ◌+◌, [], map, take, drop}
use Rattle.tree_model.specs.Jobs.{overflow_from, first_overflow}
use Rattle.tree_model.specs.Receipts.{lines_with_receipts}
use Rattle.tree_model.specs.Versions.{versions_behind}
use Rattle.job_data.specs.Data.{data_of}
use Rattle.tree_totals.specs.Counts.{distribution_of}
use Rattle.plain_tree.specs.Receipts.{HasCounted}
use Rattle.plain_tree.specs.Trees.{HasVersions}
use Rattle.plain_tree.proofs.jobs.with_receipts.Given as goal

abbrev pub invariant-loop-index : goal.invariant-loop-index
invariant-loop-index l =
    let cs = map data_of l.command-items in
    let before = take l.index cs in
    record {
      trees : HasVersions l.depth (versions_behind l.depth before) l.trees;
      text : l.text ≡ lines_with_receipts (distribution_of l.fn.distribution) l.depth [] before;
      counted : HasCounted l.depth before l.receipts;
      distribution : l.receipts.distribution ≡ l.fn.distribution;
      overflow : overflow_from l.depth (versions_behind l.depth before) (l.index + 1) (drop l.index cs) ≡ first_overflow l.job;
    }
