-- Lemmas that crates above use: what an evaluator of commands rests on.
use Rattle.tree_model.specs.StoredTrees.{WholeBoxesAreEven, WholeBoxesHaveOneValue, ProductsOfValues, ProductsOverflow, LeavesWithin, ValuesDontOverflow, ProjectionsHaveValues, RefinedHaveValues, LeavesInOrder, DifferencesInOrder, LeavesAtKeys}
use Rattle.tree_model.proofs.WholeBoxLemmas.{boxes_are_even, boxes_have_one_value}
use Rattle.tree_model.proofs.LeafProductLemmas.{sums_of_values, much_on_a_leaf}
use Rattle.tree_model.proofs.StoredOrderLemmas.{sums_in_order, interior_in_order, sums_at_keys}
use Rattle.tree_model.proofs.ValueLimitLemmas.{within_on_leaves, no_overflow, projected_values, refined_values}

pub whole_boxes_are_even : WholeBoxesAreEven
whole_boxes_are_even = boxes_are_even

pub whole_boxes_of_one_value : WholeBoxesHaveOneValue
whole_boxes_of_one_value = boxes_have_one_value

pub products_of_values : ProductsOfValues
products_of_values = sums_of_values

pub products_overflow : ProductsOverflow
products_overflow = much_on_a_leaf

pub leaves_within : LeavesWithin
leaves_within = within_on_leaves

pub values_dont_overflow : ValuesDontOverflow
values_dont_overflow = no_overflow

pub projections_with_values : ProjectionsHaveValues
projections_with_values = projected_values

pub refined_have_values : RefinedHaveValues
refined_have_values = refined_values

pub leaves_in_order : LeavesInOrder
leaves_in_order = sums_in_order

pub differences_in_order : DifferencesInOrder
differences_in_order = interior_in_order

pub leaves_at_keys : LeavesAtKeys
leaves_at_keys = sums_at_keys
