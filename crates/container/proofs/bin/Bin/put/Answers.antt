use Rattle.container.proofs.RightLemmas.{put_is_right}
use Rattle.container.proofs.bin.Bin.put.Goals as goal

pub invariant_of-self : goal.invariant_of-self
invariant_of-self g c =
    put_is_right g.J.Naming.app g.A.App.right_cell g.A.App.is_unit g.A.App.reads_of c.self.inside.state c.insert.new.self c.args.name c.args.cell c.insert.result
    c.requires c.self.invariant c.insert.ensures.entries c.insert.ensures.waiting c.insert.ensures.same
