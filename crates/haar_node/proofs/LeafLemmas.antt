-- The sums over leaves, divided by the widths of their boxes.
use Rattle.std.proofs.Common.{◌-◌, ◌≤◌, pos, arith}
use Rattle.std.specs.Int.RustNames.{unsigned_abs}
use Rattle.std.proofs.lemmas.List.Elements.{All-get_or}
use Rattle.std.proofs.lemmas.Option.{slice_get_within, get_or_from_slice_get}
use Rattle.std.proofs.lemmas.Nat.{pow_pos}
use Rattle.tree_key.specs.Keys.{width}
use Rattle.tree_model.specs.Functions.{max_value}
use Rattle.tree_model.proofs.IntegerLemmas.{product_within, quotient_of_a_multiple}
use Rattle.tree_model.proofs.BoxSumLemmas.{leaves_have_one_value}
use Rattle.tree_model.proofs.BoundLemmas.{no_rest}
use Rattle.haar_node.specs.Combinations.{LeavesGiveTheirValues}

pub leaves_give_their_values : LeavesGiveTheirValues
leaves_give_their_values t leaf cell value tree values leaf_is inside at =
    let count = width t.depth leaf in
    let sum = leaves_have_one_value t leaf cell value tree leaf_is inside at in
    let first = All-get_or (λ z. unsigned_abs z ≤ max_value) t.cells cell (pos 0) (slice_get_within t.cells cell value at) values in
    let small : unsigned_abs value ≤ max_value = rw (get_or_from_slice_get t.cells cell value (pos 0) at) at first in (
      record {
        exact = rw sum (no_rest count value);
        within = rw sum (product_within (pos count) value count max_value (omega arith) small);
      },
      rw sum (quotient_of_a_multiple count value (pow_pos (t.depth - leaf.level))),
    )
