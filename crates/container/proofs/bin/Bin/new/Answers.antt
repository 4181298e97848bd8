use Rattle.container.proofs.RightLemmas.{empty_is_right}
use Rattle.container.proofs.bin.Bin.new.Goals as goal

pub invariant_of-result : goal.invariant_of-result
invariant_of-result g c = empty_is_right g.J.Naming.app g.A.App.right_cell g.A.App.is_unit g.A.App.reads_of c.new.result c.new.ensures.entries c.new.ensures.waiting
