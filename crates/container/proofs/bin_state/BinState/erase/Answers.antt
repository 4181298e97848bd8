use Rattle.container.proofs.LookUpLemmas.{missing_after_remove}
use Rattle.container.proofs.bin_state.BinState.erase.Goals as goal

pub invariant_of-self : goal.invariant_of-self
invariant_of-self g c = rw c.erase.ensures.rest (missing_after_remove _ c.args.name _ c.self.invariant)
