use Rattle.lane_bins.proofs.BinLemmas.{put_is_bin}
use Rattle.lane_bins.proofs.lane_bin.LaneBin.put.Goals as goal

pub invariant_of-self : goal.invariant_of-self
invariant_of-self g c =
    put_is_bin g.J.Naming.app g.J.WordsNaming.words g.A.App.right_cell g.A.App.is_unit g.A.App.reads_of _ _ _ _ c.self.inside.state c.insert.new.self c.self.inside.lane c.put.new.lane c.args.name c.args.cell
    c.in-Ok.ensures.entries c.in-Ok.ensures.waiting c.requires.cell c.put.ensures.grew c.self.invariant
