use Rattle.lane_bins.proofs.BinLemmas.{new_is_bin}
use Rattle.lane_bins.proofs.lane_bin.LaneBin.new.Goals as goal

pub invariant_of-result : goal.invariant_of-result
invariant_of-result g c =
    new_is_bin g.J.Naming.app g.J.WordsNaming.words g.A.App.right_cell g.A.App.is_unit g.A.App.reads_of _ c.new.result c.args.lane
    c.new.ensures.entries c.new.ensures.waiting c.requires.new.bin c.requires.new.new c.requires.new.free
