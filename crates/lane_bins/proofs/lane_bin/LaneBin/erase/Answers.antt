use Rattle.lane_bins.proofs.BinLemmas.{erased_is_bin}
use Rattle.lane_bins.proofs.lane_bin.LaneBin.erase.Goals as goal

pub invariant_of-self : goal.invariant_of-self
invariant_of-self g c =
    erased_is_bin g.J.Naming.app g.J.WordsNaming.words g.A.App.right_cell g.A.App.is_unit g.A.App.reads_of _ _ _ _ c.self.inside.state c.erase.new.self c.self.inside.lane c.erased.new.lane c.args.name
    c.erase.ensures.rest c.erased.ensures.grew c.self.invariant
