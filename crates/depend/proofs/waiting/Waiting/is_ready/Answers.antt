use Rattle.std.proofs.Common.{rules}
use Rattle.depend.proofs.SlotLemmas.{ready_from_count, count_from_ready}
use Rattle.depend.proofs.waiting.Waiting.is_ready.Goals as goal

pub returns : goal.returns
returns g c = rw (← c.self.view_is) (
  (λ none. ready_from_count c.self.inside.slots.items (search rules)),
  (λ ready. let none = count_from_ready c.self.inside.slots.items ready in search rules),
)
