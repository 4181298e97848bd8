use Rattle.container.proofs.LookUpLemmas.{missing_after_replace}
use Rattle.container.proofs.bin_state.BinState.replace.Goals as goal

pub invariant_of-self : goal.invariant_of-self
invariant_of-self g c = rw c.replace.ensures.new (missing_after_replace _ c.args.name c.args.cell _ c.self.invariant)
