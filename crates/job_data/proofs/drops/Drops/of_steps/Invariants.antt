use Rattle.std.proofs.Common.{◌≡◌, ℕ, ◌+◌, length, get_or, filter, []}
use Rattle.std.specs.List.{range_with_len}
use Rattle.job_data.specs.Uses.{items_in}
use Rattle.job_data.proofs.DropLemmas.{is_dropped}
use Rattle.job_data.proofs.drops.Drops.of_steps.Given as goal

abbrev pub invariant-loop-at : goal.invariant-loop-at
invariant-loop-at l = record {
  long : length l.lists.items ≡ length l.steps + 1;
  drops : (fence : ℕ) → get_or (items_in l.lists.items) fence [] ≡ filter (is_dropped l.steps fence) (range_with_len 1 l.at);
}
