use Rattle.tree_key.proofs.BoxLemmas as boxes
use Rattle.tree_key.proofs.laws.a_cell_has_one_key_on_each_level.Goals as goal

pub returns : goal.returns
returns _ = boxes.one_key_on_each_level
