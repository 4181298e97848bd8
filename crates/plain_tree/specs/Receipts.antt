-- What the commands so far come to, as receipts have it.
use Rattle.std.specs.Prelude.{◌≡◌, ◌≤◌, ◌*◌, ◌^◌, ℕ, List, length}
use Rattle.tree_model.specs.Commands.{Command}
use Rattle.tree_model.specs.Receipts.{fence_count}
use Rattle.tree_model.specs.Totals.{total_of as total_of_commands}
use Rattle.tree_totals.specs.Counts.{distribution_of, total_of}
use Rattle.plain_tree.specs.declared.receipts.Receipts.{Receipts}

-- the number of the fences among these commands, and what they come to; a command comes to at most 2^20 of each
pub record HasCounted (depth : ℕ) (before : List Command) (receipts : Receipts) : Type 0 where
  pub fences : receipts.fences ≡ fence_count before
  pub total : total_of receipts.total ≡ total_of_commands (distribution_of receipts.distribution) depth before
  pub messages : receipts.total.messages ≤ length before * 2 ^ 20
  pub tasks : receipts.total.tasks ≤ length before * 2 ^ 20
