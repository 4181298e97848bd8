use Rattle.tree_key.proofs.BoxLemmas as boxes
use Rattle.tree_key.proofs.laws.children_halve_the_box.Goals as goal

pub returns : goal.returns
returns _ = boxes.children_halve_the_box
