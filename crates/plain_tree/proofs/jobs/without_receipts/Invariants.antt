use Rattle.std.proofs.Common.{◌≡◌, ◌+◌, map, take, drop}
use Rattle.tree_model.specs.Jobs.{lines_from, overflow_from, first_overflow}
use Rattle.tree_model.specs.Versions.{no_versions, versions_behind}
use Rattle.job_data.specs.Data.{data_of}
use Rattle.plain_tree.specs.Trees.{HasVersions}
use Rattle.plain_tree.proofs.jobs.without_receipts.Given as goal

abbrev pub invariant-loop-index : goal.invariant-loop-index
invariant-loop-index l =
    let cs = map data_of l.command-items in
    let before = versions_behind l.depth (take l.index cs) in
    record {
      trees : HasVersions l.depth before l.trees;
      text : l.text ≡ lines_from l.depth no_versions (take l.index cs);
      overflow : overflow_from l.depth before (l.index + 1) (drop l.index cs) ≡ first_overflow l.job;
    }
