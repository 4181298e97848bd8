use Rattle.container.proofs.LookUpLemmas.{missing_after_retain}
use Rattle.container.proofs.bin_state.BinState.drop_version.Goals as goal

pub invariant_of-self : goal.invariant_of-self
invariant_of-self g c = rw c.drop_version.ensures.rest (missing_after_retain _ c.args.version _ c.self.invariant)
