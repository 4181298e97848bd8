use Rattle.tree_key.proofs.BoxLemmas as boxes
use Rattle.tree_key.proofs.laws.boxes_nest.Goals as goal

pub returns : goal.returns
returns _ = boxes.boxes_nest
